use Rattle.std.proofs.Common.{ap}
use Rattle.block_file.proofs.Migrations.{says_the_same}
use Rattle.engines.specs.Engine.{answer_of}
use Rattle.engines.proofs.laws.migrated_runs_alike.Goals as goal

pub returns : goal.returns
returns c content bytes text h = ap (answer_of content) (says_the_same bytes text h)
