use Rattle.std.proofs.Common.{inr, refl}
use Rattle.block_file.specs.declared.fault.Cause.TheVariants.{BadNumber}
use Rattle.block_file.specs.Line.{cut}
use Rattle.block_file.specs.Schedule.{with_entry}
use Rattle.block_file.proofs.Lines.{later}
use Rattle.block_file.proofs.schedule.parse_schedule.Goals as goal

pub returns-in-Err : goal.returns-in-Err
returns-in-Err c = inr (refl, later with_entry BadNumber 1 _ (cut 10 c.args.bytes.now))
