use Rattle.std.proofs.Common.{◌≡◌, ◌⊎◌, ℕ, List, [], refl, inl, inr}
use Rattle.std.specs.Prelude.{Option, Some, None}
use Rattle.std.specs.Option.{option_map}
use Rattle.block_file.specs.Line.{cut}
use Rattle.block_file.specs.Schedule.{parsed_schedule, with_entry}
use Rattle.block_file.specs.declared.fault.Cause.TheVariants.{BadNumber, Memory}
use Rattle.block_file.proofs.Lines.{later}
use Rattle.engines.specs.declared.fault.FileFault.TheVariants.{Unreadable}
use Rattle.engines.specs.declared.fault.Refusal.{Refusal}
use Rattle.engines.specs.declared.fault.Refusal.TheVariants.{File, Schedule}
use Rattle.engines.specs.Drive.{IsScheduleFault}
use Rattle.engines.proofs.drive.read_schedule.Goals as goal

-- no fault of a schedule file is before line 1
reading : (may_fail : Type 0) (input : Option (List ℕ)) (e : Refusal) → (e ≡ Schedule (record { line = 1; cause = Memory })) ⊎ ((e ≡ File Unreadable) × may_fail) → IsScheduleFault may_fail (option_map parsed_schedule input) e
reading may_fail None e (inl memory) = rw memory tt
reading may_fail (Some bytes) e (inl memory) = rw memory (inr (refl, later with_entry BadNumber 1 [] (cut 10 bytes)))
reading may_fail input e (inr unreadable) = rw unreadable.0 unreadable.1

pub returns-in-Err-clause-err : goal.returns-in-Err-clause-err
returns-in-Err-clause-err g c = reading (g.S.Source.may_fail c.args.schedule.now) (g.S.Read.remaining c.args.schedule.now) c.in-Err.refusal c.in-Err.ensures.err
