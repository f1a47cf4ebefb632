-- What the engine of `rvstm seq` writes, and what it refuses.
use Rattle.std.specs.Prelude.{ℕ, List, ◌≡◌, ◌⊎◌, ◌≤◌, Option, Some, None, IfSome, Result, Ok, Err, IfErr, IsOk}
use Rattle.std.specs.Option.{option_map}
use Rattle.std.specs.Result.{result_map_both}
use Rattle.elf32.specs.Layout.{Layout}
use Rattle.elf32.specs.declared.error.ElfError.TheVariants as elf
use Rattle.rv_ledger.specs.declared.job.Job.{Job}
use Rattle.rv_step.specs.Fold.{receipts_of, store_after}
use Rattle.receipts.specs.Text.{result_text}
use Rattle.byte_streams.specs.Written.{AppendsPart}
use Rattle.byte_streams.specs.declared.fault.WriteFault.{WriteFault}
use Rattle.byte_streams.specs.declared.fault.WriteFault.TheVariants as output
use Rattle.block_file.specs.Block.{BlockValue, parsed_block}
use Rattle.block_file.specs.declared.fault.BlockFault.{BlockFault}
use Rattle.block_file.specs.declared.fault.Cause.TheVariants as cause
use Rattle.programs.specs.Programs.{IsProgramFault, calls_over, program_of_file, programs_of}
use Rattle.programs.specs.declared.fault.ProgramFault.{ProgramFault}
use Rattle.programs.specs.declared.fault.ProgramFault.TheVariants as program
use Rattle.engines.specs.declared.fault.Refusal.{Refusal}
use Rattle.engines.specs.declared.fault.Refusal.TheVariants.{File, Block, Elf, Seq, Output}
use Rattle.engines.specs.declared.fault.FileFault.TheVariants.{TooLong, Unreadable}
use Rattle.engines.specs.declared.fault.SeqFault.TheVariants.{Memory}

-- how a command is refused if a program is
abbrev pub program_refusal : ProgramFault → Refusal
program_refusal program.Unreadable = File Unreadable
program_refusal program.TooLong = File TooLong
program_refusal (program.Elf fault) = Elf fault

-- the programs of the files at paths, if these are known
abbrev pub programs_in : (List ℕ → Option (List ℕ)) → List ℕ → Option (Result Layout ProgramFault)
programs_in content path = option_map program_of_file (content path)

-- the job of a block over the programs of its files
abbrev pub job_over : BlockValue → List Layout → Job
job_over block images = record { block = calls_over block images; store = block.store }

-- the job of a block file, or the first fault in it or in the files of its programs; None if the bytes that decide this are
-- unknown
abbrev pub loaded_job : (List ℕ → Option (List ℕ)) → Result BlockValue BlockFault → Option (Result Job Refusal)
loaded_job content (Err fault) = Some (Err (Block fault))
loaded_job content (Ok block) = option_map (result_map_both (job_over block) program_refusal) (programs_of (programs_in content) block.programs)

-- the text of the result of a job: its calls are run in order, each over the storage that the ones before it left
abbrev pub text_of : Job → List ℕ
text_of job = result_text (receipts_of job.block job.store) (store_after job.block job.store)

-- what must be written for a block file, or the first fault in it or in the files of its programs; None if the bytes that
-- decide this are unknown
abbrev pub answer_of : (List ℕ → Option (List ℕ)) → Result BlockValue BlockFault → Option (Result (List ℕ) Refusal)
answer_of content block = option_map (result_map_both text_of (λ fault. fault)) (loaded_job content block)

-- a fault of a text is its first one, or Memory on a line with no fault before it
abbrev pub IsTextFault : {X : Type 0} → Result X BlockFault → BlockFault → Type 0
IsTextFault text fault = (text ≡ Err fault) ⊎ ((fault.cause ≡ cause.Memory) × IfErr text (λ first. fault.line ≤ first.line))

-- a refusal met in a block file: the wanted one, Memory with no fault before it, or Unreadable if a read may fail
abbrev pub IsBlockFault : {X : Type 0} → Type 0 → Result X BlockFault → Refusal → Type 0
IsBlockFault may_fail text (Block fault) = IsTextFault text fault
IsBlockFault may_fail text (File Unreadable) = may_fail
IsBlockFault may_fail text _ = ⊥

-- a file of the job may be unreadable: a read of the block file may fail, or a program that is read is not known
abbrev pub MayBeUnreadable : Type 0 → (List ℕ → Option (List ℕ)) → Result BlockValue BlockFault → Type 0
MayBeUnreadable may_fail content block = may_fail ⊎ (loaded_job content block ≡ None)

-- a fault met in the file of a program: Unreadable if a read may fail, or a fault of its bytes in memory
abbrev pub IsFileFault : {X : Type 0} → Type 0 → Option (Result X ProgramFault) → ProgramFault → Type 0
IsFileFault may_fail wanted program.Unreadable = may_fail
IsFileFault may_fail wanted fault = IsProgramFault wanted fault

-- a refusal met before a job is made: a fault of the block file or of its programs is the first one. Memory for a program comes
-- only if the block file has no fault, and Unreadable only if a file of the job may be unreadable
abbrev pub IsJobFault : Type 0 → (List ℕ → Option (List ℕ)) → Result BlockValue BlockFault → Refusal → Type 0
IsJobFault may_fail content block (Block fault) = IsTextFault block fault
IsJobFault may_fail content block (Elf fault) = ((fault ≡ elf.Memory) × IsOk block) ⊎ IfSome (loaded_job content block) (λ wanted. wanted ≡ Err (Elf fault))
IsJobFault may_fail content block (File TooLong) = IfSome (loaded_job content block) (λ wanted. wanted ≡ Err (File TooLong))
IsJobFault may_fail content block (File Unreadable) = MayBeUnreadable may_fail content block
IsJobFault may_fail content block _ = ⊥

-- the same, or want of memory for the job, which comes only if nothing that was read has a fault
abbrev pub IsLoadFault : Type 0 → (List ℕ → Option (List ℕ)) → Result BlockValue BlockFault → Refusal → Refusal → Type 0
IsLoadFault may_fail content block memory e = ((e ≡ memory) × IfSome (loaded_job content block) (λ wanted. IsOk wanted)) ⊎ IsJobFault may_fail content block e

-- a refusal of what gets something and then uses it: one of the getting, and then nothing was written, or one of the use of
-- what can have been got
abbrev pub IsCommandRefused : {X : Type 0} → Option (List ℕ) → Option (List ℕ) → (Refusal → Type 0) → (X → Type 0) → (X → Refusal → Type 0) → Refusal → Type 0
IsCommandRefused {X} old new got is used e = ((new ≡ old) × got e) ⊎ ((x : X) × is x × used x e)

-- a refusal of a command over a job: one met before the job is made, `memory` too, or one of the stage over the job of the
-- files, which is any job if the files are unknown
abbrev pub IsRefusedJob : Refusal → (Option (List ℕ) → Option (List ℕ) → Job → Refusal → Type 0) → Type 0 → Option (List ℕ) → (List ℕ → Option (List ℕ)) → Option (List ℕ) → Option (List ℕ) → Refusal → Type 0
IsRefusedJob memory stage may_fail input content old new =
    IsCommandRefused old new (λ e. IfSome input (λ bytes. IsLoadFault may_fail content (parsed_block bytes) memory e))
    (λ job. IfSome input (λ bytes. IfSome (loaded_job content (parsed_block bytes)) (λ wanted. wanted ≡ Ok job)))
    (stage old new)

-- a refusal of the output: a beginning of the text was written, nothing if memory ran out, and a write may be refused so
abbrev pub IsOutputFault : (WriteFault → Type 0) → List ℕ → Option (List ℕ) → Option (List ℕ) → Refusal → Type 0
IsOutputFault may_refuse text old new (Output fault) = may_refuse fault × AppendsPart old new text × (fault ≡ output.Memory → new ≡ old)
IsOutputFault may_refuse text old new _ = ⊥

-- a refusal of a run in order: Memory, and then nothing was written, or one of the output
abbrev pub IsRunFault : (WriteFault → Type 0) → Option (List ℕ) → Option (List ℕ) → Job → Refusal → Type 0
IsRunFault may_refuse old new job e = ((new ≡ old) × (e ≡ Seq Memory)) ⊎ IsOutputFault may_refuse (text_of job) old new e
