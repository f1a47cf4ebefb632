-- Each step and each answer leaves the code of the program in the memory of a call.
use Rattle.std.proofs.Common.{ℕ, zero, suc, List, Option, subst}
use Rattle.elf32.specs.Pages.{HoldSegments}
use Rattle.elf32.specs.declared.base_pages.BasePages.{BasePages}
use Rattle.rv_mem.specs.Code.{HasCode}
use Rattle.rv_mem.proofs.ProgramCode.{keeps_program, starts}
use Rattle.rv_ledger.specs.Call.{Invocation}
use Rattle.rv_ledger.specs.Key.{Storage}
use Rattle.rv_step.specs.declared.machine.Machine.{Machine}
use Rattle.rv_step.specs.declared.stage.Stage.{Stage}
use Rattle.rv_step.specs.declared.stage.Stage.TheVariants.{Running, Asked, Ended}
use Rattle.rv_step.specs.Meets.{Reaches}
use Rattle.rv_step.specs.Moment.{from_replies, from_storage, machine_of, start}
use Rattle.rv_step.specs.Over.{IsBeginningOver}
use Rattle.rv_step.specs.Replies.{replies_of}
use Rattle.rv_step.specs.Run.{IsBeginning, RunView, progress_of}
use Rattle.rv_step.specs.Step.{Progress, Going}
use Rattle.rv_step.proofs.Kept.{IsKept, step_stays}
use Rattle.rv_step.proofs.Moments.{kept_at}

module _ (program : BasePages) where
  abbrev StandsOver : Progress → Type 0
  StandsOver progress = HasCode (machine_of progress).memory program

  code_kept : IsKept (λ s. HasCode s.memory program)
  code_kept = record {
    moves = λ s registers pc h. h;
    pays = λ s gas fits h. h;
    stores = λ s memory keeps h. keeps_program s.memory memory program keeps h;
    writes = λ s write asked room h. h;
  }

  -- steps after which the call continues leave the code in memory
  pub reached_code : (n : ℕ) (s t : Machine) → Reaches n s t → HasCode s.memory program → HasCode t.memory program
  unfolding Reaches
  reached_code zero s t reached has = rw reached has
  reached_code (suc n) s t reached has =
      step_stays _ code_kept reached.0 (Going t) (reached_code n s reached.0 reached.1 has) reached.2

  begins : (of : Invocation) → HoldSegments program of.image.segments → StandsOver (Going (start of))
  unfolding start
  begins of hold = starts of.image of.input program hold

  stands : (s : Machine) (stage : Stage) → StandsOver (progress_of s stage) → HasCode s.memory program
  stands s Running has = has
  stands s (Asked key) has = has
  stands s (Ended end out) has = has

  -- the machine of a run has the code of its call's program
  pub run_code : (r : RunView) → IsBeginning r → HoldSegments program r.call.image.segments → HasCode r.machine.memory program
  run_code r so_far hold =
      stands r.machine r.stage
      (subst (λ (at : Progress × List (List ℕ × Option (List ℕ))). StandsOver at.0) so_far.moment.1
      (kept_at from_replies _ code_kept so_far.moment.0 (Going (start r.call), replies_of r.answers) (begins r.call hold)))

  -- so has the machine of a call over a storage
  pub over_code : (of : Invocation) (store : Storage) (s : Machine) (stage : Stage) → IsBeginningOver of store s stage → HoldSegments program of.image.segments → HasCode s.memory program
  over_code of store s stage over hold =
      stands s stage
      (subst StandsOver over.moment.1
      (kept_at from_storage _ code_kept over.moment.0 (Going (start of), store) (begins of hold)))
