-- What the engine of `rvstm drive` writes, and what it refuses.
use Rattle.std.specs.Prelude.{ℕ, List, ◌≡◌, ◌⊎◌, Option, Some, IfSome, Result, Ok, Err, IsOkAnd, option_and_then}
use Rattle.std.specs.Option.{option_map}
use Rattle.std.specs.Result.{result_map_both}
use Rattle.elf32.specs.Layout.{Layout}
use Rattle.rv_ledger.specs.Call.{Invocation}
use Rattle.rv_ledger.specs.Key.{Storage}
use Rattle.rv_ledger.specs.declared.job.Job.{Job}
use Rattle.rv_step.specs.Fold.{receipts_of, store_after}
use Rattle.stm_state.specs.Drive as list
use Rattle.stm_state.specs.Steps.{ArenaFull, IncarnationLimit}
use Rattle.stm_core.specs.declared.driving.DriveFault.{DriveFault}
use Rattle.stm_core.specs.declared.driving.DriveFault.TheVariants as drive
use Rattle.receipts.specs.Text.{result_text}
use Rattle.byte_streams.specs.declared.fault.WriteFault.{WriteFault}
use Rattle.block_file.specs.Block.{BlockValue}
use Rattle.block_file.specs.declared.fault.BlockFault.{BlockFault}
use Rattle.programs.specs.Programs.{calls_over, programs_of}
use Rattle.programs.specs.declared.fault.ProgramFault.{ProgramFault}
use Rattle.engines.specs.Engine.{programs_in, program_refusal, IsOutputFault, IsCommandRefused, IsTextFault}
use Rattle.engines.specs.declared.fault.Refusal.{Refusal}
use Rattle.engines.specs.declared.fault.Refusal.TheVariants.{File, Block, Schedule, Drive, Output}
use Rattle.engines.specs.declared.fault.FileFault.TheVariants.{Unreadable}

-- the refusal of a list of worker numbers
abbrev pub drive_fault : list.DriveRefusal → DriveFault
drive_fault list.NotDone = drive.NotDone
drive_fault list.BadWorker = drive.BadWorker
drive_fault (list.Limited ArenaFull) = drive.ArenaFull
drive_fault (list.Limited IncarnationLimit) = drive.IncarnationLimit

-- the text of the result of calls along a list of worker numbers: if the list is not refused, it is the text of the calls run
-- in order
abbrev pub text_along : List Invocation → Storage → ℕ → List ℕ → Result (List ℕ) Refusal
text_along calls store workers entries = result_map_both (λ s. result_text (receipts_of calls store) (store_after calls store))
    (λ refusal. Drive (drive_fault refusal)) (list.drive_of calls store workers entries)

-- the same for a schedule file; its first fault comes before those of the list
abbrev pub text_by : BlockValue → List Layout → ℕ → Result (List ℕ) BlockFault → Result (List ℕ) Refusal
text_by block images workers (Err fault) = Err (Schedule fault)
text_by block images workers (Ok entries) = text_along (calls_over block images) block.store workers entries

-- the same over the files of programs; their first fault comes before those of the schedule. None if they have no fault and the
-- schedule's bytes are unknown
abbrev pub text_over : BlockValue → ℕ → Option (Result (List ℕ) BlockFault) → Result (List Layout) ProgramFault → Option (Result (List ℕ) Refusal)
text_over block workers schedule (Err fault) = Some (Err (program_refusal fault))
text_over block workers schedule (Ok images) = option_map (text_by block images workers) schedule

-- what must be written for a block file and a schedule file, or the first fault: in the block file, in the files of its
-- programs, in the schedule file, then along the schedule. None if the bytes that decide this are unknown
abbrev pub driven_answer : (List ℕ → Option (List ℕ)) → Result BlockValue BlockFault → ℕ → Option (Result (List ℕ) BlockFault) → Option (Result (List ℕ) Refusal)
driven_answer content (Err fault) workers schedule = Some (Err (Block fault))
driven_answer content (Ok block) workers schedule = option_and_then (text_over block workers schedule) (programs_of (programs_in content) block.programs)

-- a refusal met in the schedule file: the wanted one, Memory with no fault before it, or Unreadable if a read may fail
abbrev pub IsScheduleFault : Type 0 → Option (Result (List ℕ) BlockFault) → Refusal → Type 0
IsScheduleFault may_fail wanted (Schedule fault) = IfSome wanted (λ w. IsTextFault w fault)
IsScheduleFault may_fail wanted (File Unreadable) = may_fail
IsScheduleFault may_fail wanted _ = ⊥

-- a refusal of a run along a list: the wanted one or Memory, and then nothing was written, or one of the output
abbrev pub IsDriveFault : (WriteFault → Type 0) → Result (List ℕ) Refusal → Option (List ℕ) → Option (List ℕ) → Refusal → Type 0
IsDriveFault may_refuse wanted old new (Drive fault) = (new ≡ old) × ((fault ≡ drive.Memory) ⊎ (wanted ≡ Err (Drive fault)))
IsDriveFault may_refuse wanted old new (Output fault) = IsOkAnd wanted (λ text. IsOutputFault may_refuse text old new (Output fault))
IsDriveFault may_refuse wanted old new _ = ⊥

-- a refusal of a run along a schedule file: one met in this file, or one of the run along its list, which is any list if the
-- file is unknown
abbrev pub IsScheduledFault : Type 0 → (WriteFault → Type 0) → ℕ → Option (Result (List ℕ) BlockFault) → Option (List ℕ) → Option (List ℕ) → Job → Refusal → Type 0
IsScheduledFault may_fail may_refuse workers schedule old new job =
    IsCommandRefused old new (IsScheduleFault may_fail schedule) (λ entries. IfSome schedule (λ wanted. wanted ≡ Ok entries))
    (λ entries. IsDriveFault may_refuse (text_along job.block job.store workers entries) old new)
