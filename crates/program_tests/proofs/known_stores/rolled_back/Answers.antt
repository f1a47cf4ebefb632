use Rattle.program_tests.proofs.KnownStores.{given_up}
use Rattle.program_tests.proofs.known_stores.rolled_back.Goals as goal

pub returns-clause-fresh : goal.returns-clause-fresh
returns-clause-fresh c = given_up c.args.store c.rollback.new.self c.rollback.ensures.undone
