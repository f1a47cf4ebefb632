use Rattle.block_file.proofs.Migrations.{says_the_same}
use Rattle.block_file.proofs.laws.migrated_says_the_same.Goals as goal

pub returns : goal.returns
returns c = says_the_same
