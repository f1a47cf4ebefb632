use Rattle.std.specs.Str.{bytes_eq}
use Rattle.program_tests.proofs.KnownStores.{if_known}
use Rattle.program_tests.proofs.known_stores.KnownStoresSessionStores.close_store.Goals as goal

pub returns-clause-kept : goal.returns-clause-kept
returns-clause-kept c = if_known (bytes_eq c.args.path.now c.args.self.now.path.now) c.args.store
