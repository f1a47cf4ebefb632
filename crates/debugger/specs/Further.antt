-- Private help of proofs: no public clause cites it. Moves of a replay by more than one step.
use Rattle.std.specs.Prelude.{◌≡◌, ℕ, zero, suc, ◌+◌, ◌<◌, ◌≤◌, Bool, true, false, Option, Result, Ok, Err}
use Rattle.rv_ledger.specs.Key.{Storage}
use Rattle.rv_step.specs.declared.machine.Machine.{Machine}
use Rattle.rv_step.specs.Run.{RunView}
use Rattle.rv_step.specs.Step.{Progress}
use Rattle.rv_step.specs.Until.{is_at}
use Rattle.debugger.specs.declared.fault.ReplayFault.{ReplayFault}
use Rattle.debugger.specs.declared.fault.ReplayFault.TheVariants.{AtEnd, Memory}
use Rattle.debugger.specs.Replay.{IsLaterMoment, ReplayState, is_at_end, stops}
use Rattle.debugger.specs.ReplayMoment.{IsRunAt, advance_over}

-- the progress of a call after a number of further steps over a storage
unfoldable pub steps_over : Storage → ℕ → Progress → Progress
steps_over store zero at = at
steps_over store (suc n) at = advance_over store (steps_over store n at)

-- a machine at the pc to stop at, if there is one
abbrev pub wants : Option ℕ → Machine → Bool
wants stop s = is_at stop s.pc

-- a run made steps over a storage: at least one, at most `most`, and it stops at no moment between the first and the last
pub record GoesOver (store : Storage) (stop : Option ℕ) (most made : ℕ) (old : Progress) (new : RunView) : Type 0 where
  pub some : 0 < made
  pub within : made ≤ most
  pub stands : IsRunAt (steps_over store made old) new
  pub between : (n : ℕ) → 0 < n → n < made → stops (wants stop) (steps_over store n old) ≡ false

-- a replay goes to a later moment, by at most `most` steps, and stops at none between; otherwise nothing changes
abbrev pub GoesFurther : {X : Type 0} → Option ℕ → ℕ → Result X ReplayFault → ReplayState → ReplayState → Type 0
GoesFurther stop most (Ok x) old new = (is_at_end old ≡ false) × IsLaterMoment (wants stop) old new × (old.moment < new.moment) × (new.moment ≤ old.moment + most)
GoesFurther stop most (Err AtEnd) old new = (is_at_end old ≡ true) × (new ≡ old)
GoesFurther stop most (Err Memory) old new = (is_at_end old ≡ false) × (new ≡ old)
GoesFurther stop most (Err fault) old new = ⊥
