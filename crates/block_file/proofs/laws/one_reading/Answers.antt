use Rattle.block_file.specs.Block.{block_value, parsed_block}
use Rattle.block_file.specs.Migrate.{migrated}
use Rattle.block_file.specs.Schedule.{parsed_schedule}
use Rattle.block_file.proofs.OneReading.{one_reading}
use Rattle.block_file.proofs.laws.one_reading.Goals as goal

pub returns : goal.returns
returns c = record {
  block = λ bytes first second. one_reading block_value first second (parsed_block bytes);
  schedule = λ bytes first second. one_reading (λ entries. entries.items) first second (parsed_schedule bytes);
  migration = λ bytes first second. one_reading (λ text. text.items) first second (migrated bytes);
}
