use Rattle.program_tests.proofs.KnownStores.{as_committed}
use Rattle.program_tests.proofs.known_stores.new_store.Goals as goal

pub returns-in-Ok : goal.returns-in-Ok
returns-in-Ok c = record { fresh = as_committed c.in-Ok.store c.in-Ok.ensures.sound c.in-Ok.ensures.clean }
