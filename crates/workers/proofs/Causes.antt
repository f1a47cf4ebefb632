-- Why a step call is refused before its step is tried.
use Rattle.std.proofs.Common.{◌≡◌, ◌≢◌, ◌↔◌, ◌∙◌, ℕ, Option, None, Some, ap, refl, sym, subst, inl, inr}
use Rattle.stm_state.specs.Steps.{Step, Record}
use Rattle.stm_state.specs.Steps as steps
use Rattle.rv_ledger.specs.declared.outcome.Counts.{Counts}
use Rattle.rv_step.specs.declared.ended_run.EndedRun.{EndedRun}
use Rattle.stm_core.specs.CoreState.{IsOwn, IsRefused, IsTaken}
use Rattle.stm_core.specs.declared.fault.RecordFault.{RecordFault}
use Rattle.stm_core.specs.declared.fault.RecordFault.TheVariants as record_faults
use Rattle.stm_core.specs.declared.next_step.NextStep.{NextStep}
use Rattle.stm_core.specs.declared.next_step.NextStep.TheVariants as next_step
use Rattle.workers.specs.declared.book.share.Share.{Share}
use Rattle.workers.specs.declared.fault.RunFault.{RunFault}
use Rattle.workers.specs.declared.fault.RunFault.TheVariants as faults
use Rattle.workers.specs.Book.{BookState, CountsNoStep, Owes, IsUnready, IsCause, IsCauseAfter, IsSpent, MayCountStep, MayWrite, first_fault, limit_before, run_fault}

-- a worker that has made as many steps as it may before this one makes no further one
spent_before : (owed : NextStep) (limit : Option ℕ) (counts : Counts) → IsSpent (limit_before owed limit) counts → IsSpent limit counts
spent_before next_step.Ask None counts full = full
spent_before next_step.Ask (Some limit) counts full = inl full
spent_before (next_step.Run call n) limit counts spent = spent
spent_before (next_step.Make kind call n) limit counts spent = spent

-- so StepLimit may be written, also if as many versions were passed as the limit
pub step_limit_fits : (owed : NextStep) (share : Share) (b : BookState) → Owes owed share b.core → CountsNoStep owed share b → MayWrite faults.StepLimit b.work_limit b.passed b.core
step_limit_fits owed share b owes (inl spent) = inl (record {
  worker = share.worker;
  within = owes.agrees.within;
  spent = subst (IsSpent b.work_limit) owes.agrees.counts (spent_before owed b.work_limit share.counts spent);
})
step_limit_fits owed share b owes (inr all) = inr all

cause_after : (first : Option RunFault) (owed : NextStep) (share : Share) (b : BookState) (Own : Type 0) (Wants : Type 0) (step : Step) (fault : RunFault)
    → IsUnready first owed share b fault → IsCauseAfter first owed share Own Wants step b fault
cause_after (Some first) owed share b Own Wants step fault h = h
cause_after None owed share b Own Wants step faults.BadCount h = h
cause_after None owed share b Own Wants step faults.Foreign h = inl h
cause_after None owed share b Own Wants step faults.ArenaFull h = absurd h
cause_after None owed share b Own Wants step faults.IncarnationLimit h = absurd h
cause_after None owed share b Own Wants step faults.Memory h = absurd h
cause_after None owed share b Own Wants step faults.Spawn h = absurd h
cause_after None owed share b Own Wants step faults.StepLimit h = h

-- a worker that may not make its step is a cause
pub unready_cause : (owed : NextStep) (share : Share) (b : BookState) (Own : Type 0) (Wants : Type 0) (step : Step) (fault : RunFault)
    → IsUnready b.fault owed share b fault → IsCause owed share Own Wants step b fault
unready_cause owed share b Own Wants step fault h = cause_after b.fault owed share b Own Wants step fault h

-- ---- a record that the core refuses

module _ (owed : NextStep) (share : Share) (run : EndedRun) (b : BookState) (f : RecordFault)
    (own : (f ≢ record_faults.Foreign) ↔ IsOwn share.worker run b.core) (full : f ≡ record_faults.ArenaFull → IsRefused share.worker Record steps.ArenaFull b.core)
    (limit : f ≡ record_faults.IncarnationLimit → IsRefused share.worker Record steps.IncarnationLimit b.core) (memory : f ≡ record_faults.Memory → IsTaken share.worker Record b.core) where
  module _ (owes : Owes owed share b.core) (may : MayCountStep owed share b) where
    cause_by : (g : RecordFault) → f ≡ g → IsCauseAfter None owed share (IsOwn share.worker run b.core) (IsTaken share.worker Record b.core) Record b (run_fault g)
    cause_by record_faults.Foreign e = inr (owes, may, λ fits. own.1 fits e)
    cause_by record_faults.ArenaFull e = (owes, may, own.0 (λ k. cc), full e)
    cause_by record_faults.IncarnationLimit e = (owes, may, own.0 (λ k. cc), limit e)
    cause_by record_faults.Memory e = (owes, may, own.0 (λ k. cc), memory e)

  -- a refusal that is written for it is a cause
  pub refused_cause : (now : BookState) → b ≡ now → Owes owed share now.core → now.fault ≡ None → MayCountStep owed share now → (written : RunFault) → written ≡ first_fault b.fault (run_fault f)
      → IsCause owed share (IsOwn share.worker run now.core) (IsTaken share.worker Record now.core) Record now written
  refused_cause now same owes none may written is =
      let no_fault : b.fault ≡ None = subst (λ (x : BookState). x.fault ≡ None) (sym same) none in
      let told : written ≡ run_fault f = is ∙ ap (λ o. first_fault o (run_fault f)) no_fault in
      let After : Option RunFault → RunFault → Type 0 = λ o x. IsCauseAfter o owed share (IsOwn share.worker run b.core) (IsTaken share.worker Record b.core) Record b x in
      subst (λ (x : BookState). IsCause owed share (IsOwn share.worker run x.core) (IsTaken share.worker Record x.core) Record x written) same
      (subst (λ o. After o written) (sym no_fault) (subst (After None) (sym told)
      (cause_by (subst (λ (x : BookState). Owes owed share x.core) (sym same) owes) (subst (MayCountStep owed share) (sym same) may) f refl)))
