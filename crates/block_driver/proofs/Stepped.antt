-- The parts of a step make the step.
use Rattle.std.proofs.Common.{◌≡◌, ◌<◌, ◌≤◌, ◌⊎◌, ◌+◌, ◌-◌, ◌∙◌, ℕ, true, Result, Ok, Err, arith, inl, inr, subst, sym}
use Rattle.stm_core.specs.CoreState.{CoreState}
use Rattle.block_driver.specs.declared.fault.StepFault.{StepFault}
use Rattle.block_driver.specs.declared.fault.StepFault.TheVariants as fault
use Rattle.block_driver.specs.declared.hold.Owed.{Owed}
use Rattle.block_driver.specs.declared.hold.Owed.TheVariants as owed
use Rattle.block_driver.specs.declared.progress.Progress.{Progress}
use Rattle.block_driver.specs.declared.progress.Progress.TheVariants as progress
use Rattle.block_driver.specs.Led.{IsLed}
use Rattle.block_driver.specs.Progress.{is_without_run}
use Rattle.block_driver.specs.Owed.{IsEnd, IsRunBegun, IsFaultCause, IsHeld, IsStepped, KeepsProgress, OwesRun, TellsOwed, TellsHeld, WantsMemory, run_steps}
use Rattle.block_driver.proofs.Ends.{end_owed, limit_cause}
use Rattle.block_driver.proofs.Leads.{led_on, not_led}

module _ (w most : ℕ) (has mid left : Progress) (old run new : CoreState) (room : run_steps has ≤ most) (kept : run_steps has ≡ 0 → mid ≡ has) where
  -- a worker without a run that owes one wants memory for its call
  wants : (call n : ℕ) (has : Progress) → is_without_run has ≡ true → OwesRun w call n new → WantsMemory w has new
  wants call n (progress.Idle rest) without owes = (call, n, owes)
  wants call n has without owes = cc

  -- steps that are none are no step of a run
  none_before : (more : ℕ) → run_steps has + more ≡ 0 → run_steps has ≡ 0
  none_before more e = omega (arith, e)

  all_made : (more : ℕ) → more ≡ most - run_steps has → run_steps has + more ≡ most
  all_made more e = omega (arith, e, room)

  module _ (more : ℕ) where
    told_by : (held told : Result Owed StepFault) → TellsHeld w (most - run_steps has) more new held → IsRunBegun mid left held told → TellsOwed w most (run_steps has + more) left new told
    told_by (Ok (owed.Run call n)) told tells (inl begun) = subst (TellsOwed w most (run_steps has + more) left new) (sym begun.0) (tells, begun.1)
    told_by (Ok (owed.Run call n)) told tells (inr refused) =
        subst (TellsOwed w most (run_steps has + more) left new) (sym refused.0) (subst (λ p. WantsMemory w p new) (sym refused.1) (wants call n mid refused.2 tells))
    told_by (Ok owed.Nothing) told tells begun = subst (TellsOwed w most (run_steps has + more) left new) (sym begun.0) (tells, tt)
    told_by (Ok owed.Done) told tells begun = subst (TellsOwed w most (run_steps has + more) left new) (sym begun.0) (tells, tt)
    told_by (Ok owed.Again) told tells begun = subst (TellsOwed w most (run_steps has + more) left new) (sym begun.0) (all_made more tells, tt)
    told_by (Err found) told tells begun = subst (TellsOwed w most (run_steps has + more) left new) (sym begun.0) (limit_cause found w left new tells)

    -- a refusal leaves what the worker had before its run was to begin
    kept_by : (held told : Result Owed StepFault) → IsRunBegun mid left held told → KeepsProgress (run_steps has + more) has left told
    kept_by (Ok (owed.Run call n)) told (inl begun) = subst (KeepsProgress (run_steps has + more) has left) (sym begun.0) tt
    kept_by (Ok (owed.Run call n)) told (inr refused) = subst (KeepsProgress (run_steps has + more) has left) (sym refused.0) (λ e. refused.1 ∙ kept (none_before more e))
    kept_by (Ok owed.Nothing) told begun = subst (KeepsProgress (run_steps has + more) has left) (sym begun.0) tt
    kept_by (Ok owed.Done) told begun = subst (KeepsProgress (run_steps has + more) has left) (sym begun.0) tt
    kept_by (Ok owed.Again) told begun = subst (KeepsProgress (run_steps has + more) has left) (sym begun.0) tt
    kept_by (Err found) told begun = subst (KeepsProgress (run_steps has + more) has left) (sym begun.0) (λ e. begun.1 ∙ kept (none_before more e))

  -- the step of a run, the steps after it, and the run that begins
  pub stepped_on : IsLed w (run_steps has) old run → (held told : Result Owed StepFault) → IsHeld w (most - run_steps has) run new held → IsRunBegun mid left held told → IsStepped w most has left old new told
  stepped_on led held told holds begun =
      let few = holds.few in
      record {
        made = run_steps has + holds.made;
        few = omega (arith, few, room);
        led = led_on w (run_steps has) holds.made old run new led holds.led;
        tells = told_by holds.made held told holds.tells begun;
        keeps = kept_by holds.made held told begun;
      }

-- steps of no run that come to an end
pub held_at_end : (w most n : ℕ) (a b c : CoreState) (told : Owed) → n < most → IsLed w n a b → (IsLed w 1 b c ⊎ (c ≡ b)) × IsEnd w c told → IsHeld w most a c (Ok told)
held_at_end w most n a b c told room led (inl last, e) = record { made = n + 1; few = omega (arith, room); led = led_on w n 1 a b c led last; tells = end_owed w most (n + 1) c told e }
held_at_end w most n a b c told room led (inr same, e) =
    record { made = n; few = omega (arith, room); led = subst (λ (x : CoreState). IsLed w n a x) (sym same) led; tells = end_owed w most n c told e }

-- a step that is refused at once
pub refused_at_once : (w most : ℕ) (has left : Progress) (old new : CoreState) (found : StepFault) → new ≡ old → left ≡ has → IsFaultCause found w has new → IsStepped w most has left old new (Err found)
refused_at_once w most has left old new found same kept cause = record {
  made = 0;
  few = omega arith;
  led = subst (λ (b : CoreState). IsLed w 0 old b) (sym same) (not_led w old);
  tells = subst (λ (p : Progress). IsFaultCause found w p new) (sym kept) cause;
  keeps = λ _. kept;
}
