-- What the answer of a settled book says of the history of its core.
use Rattle.std.proofs.Common.{◌≡◌, ◌≢◌, ◌⊎◌, ◌<◌, ◌+◌, ◌*◌, ℕ, All, List, [], ◌∷◌, length, get_or, Option, None, Some, Result, Ok, Err, IfOk, IfErr, slice_get, arith, sym, ap, subst, ◌∙◌, refl, inl, inr}
use Rattle.std.proofs.lemmas.Option.{slice_get-get_or}
use Rattle.std.proofs.lemmas.Result.{IfErr-weaker}
use Rattle.rv_ledger.specs.declared.job.Job.{Job}
use Rattle.rv_ledger.specs.declared.outcome.Counts.{Counts}
use Rattle.rv_step.specs.Fold.{receipts_of}
use Rattle.stm_state.specs.State.{no_counts}
use Rattle.stm_state.specs.Steps.{Limit}
use Rattle.stm_state.specs.Steps as steps
use Rattle.stm_state.specs.Done.{Reached}
use Rattle.stm_state.specs.Walk.{ReachedByList}
use Rattle.stm_state.specs.Dones.{LastEntryIsDone, dones_of}
use Rattle.stm_state.specs.OneWorker.{OneWorkerCountsWhereReached}
use Rattle.stm_state.specs.Parts.{IsStateSized}
use Rattle.stm_core.specs.CoreState.{CoreState, block_in}
use Rattle.stm_core.specs.declared.outcome.Finished.{Finished}
use Rattle.workers.specs.declared.book.share.Share.{Share}
use Rattle.workers.specs.declared.fault.RunFault.{RunFault}
use Rattle.workers.specs.declared.fault.RunFault.TheVariants as faults
use Rattle.workers.specs.Book.{AreAllPassed, BookState, FaultFits, HasSpentWorker, IsAtLimit, IsOnTheWay, KeepsLimit, MayWrite, counts_of_share}
use Rattle.workers.specs.Settle.{AreLeft, AreSettled, AreSharesOf, IsShareOf, IsFinishedOf, IsThatOrMemory, IsFinishedAfter}
use Rattle.workers.specs.History.{HasHistory, HasLimit, HasWorkLimit, AreOneWorkerCounts}
use Rattle.workers.specs.Run.{IsRun}

-- ---- what an answer says of the book

ok_after : (first : Option RunFault) (b : CoreState) (shares : List Share) (answer : Result Finished RunFault) (o : Finished)
    → IsFinishedAfter first b shares answer → answer ≡ Ok o → AreSettled b shares × IsFinishedOf b o
ok_after (Some f) b shares answer o h e = cc
ok_after None b shares answer o (inl h) e = (h.0, subst (IsThatOrMemory (IsFinishedOf b)) e h.1)
ok_after None b shares answer o (inr h) e = let k = h.1 in cc

err_after : (first : Option RunFault) (b : CoreState) (shares : List Share) (answer : Result Finished RunFault) (f : RunFault)
    → IsFinishedAfter first b shares answer → answer ≡ Err f → (first ≡ Some f) ⊎ ((f ≡ faults.Foreign) ⊎ (f ≡ faults.Memory))
err_after (Some g) b shares answer f h e = inl cc
err_after None b shares answer f (inl h) e = inr (inr (subst (IsThatOrMemory (IsFinishedOf b)) e h.1))
err_after None b shares answer f (inr h) e = let k = h.1 in inr (inl cc)

-- ---- the history

-- a worker has a share
share_at : (shares : List Share) (w : ℕ) → w < length shares → (share : Share) × (slice_get shares w ≡ Some share)
share_at [] w within = absurd (omega (arith, within))
share_at (share ∷ shares) w within = (get_or (share ∷ shares) w share, slice_get-get_or (share ∷ shares) w share within)

-- each worker has one asking answered Done
once_each : (b : CoreState) (shares : List Share) → AreSettled b shares → (w : ℕ) → w < length b.state.tasks → dones_of w b.state ≡ 1
once_each b shares settled w within =
    let size = settled.count in
    let at = share_at shares w (omega (arith, size, within)) in
    let one = settled.each w at.0 at.1 in
    sym (one.agrees.dones ∙ ap (λ v. get_or b.state.dones v 0) one.worker) ∙ one.once

module _ (b : CoreState) (shares : List Share) (settled : AreSettled b shares) (reached : Reached (block_in b) (length b.state.tasks) b.state) where
  -- some list leads to the core's state, with its counts
  has_history : ReachedByList → LastEntryIsDone → HasHistory b.job (length b.state.tasks) b.state.counts
  has_history by_list last =
      let led = (by_list (block_in b) (length b.state.tasks) b.state).0 reached in
      record {
        entries = led.0;
        state = b.state;
        leads = led.1;
        done = settled.done;
        counts = refl;
        ends = λ w within. last (block_in b) (length b.state.tasks) led.0 b.state w 0 led.1 (once_each b shares settled w within);
      }

  -- the counts of one worker
  are_one_worker_counts : OneWorkerCountsWhereReached → length b.state.tasks ≡ 1 → AreOneWorkerCounts (length b.job.block) b.state.counts
  are_one_worker_counts law one =
      let did = law (block_in b) b.state (subst (λ n. Reached (block_in b) n b.state) one reached) settled.done in
      let told : did.1 ≡ 1 = sym (ap (λ ds. get_or ds 0 0) did.2.dones) ∙ once_each b shares settled 0 (omega (arith, one)) in
      record {
        steps = did.0;
        counts = did.2.counts ∙ ap (λ n. record { steps = did.0; asks = 2 * length b.job.block + n; executions = length b.job.block; validations = length b.job.block } ∷ []) told;
      }

-- ---- what the shares of a settled core say

-- a share is that of its worker
settled_share : (b : CoreState) (shares : List Share) (w : ℕ) (share : Share) → IsShareOf w b share
    → counts_of_share share ≡ record { worker = w; counts = get_or b.state.counts w no_counts; dones = 1 }
settled_share b shares w share h = λ k. record { worker = h.worker k; counts = (h.agrees.counts ∙ ap (λ v. get_or b.state.counts v no_counts) h.worker) k; dones = h.once k }

settled_shares : (b : CoreState) (shares : List Share) → AreSettled b shares → IsStateSized (length b.job.block) (length b.state.tasks) b.state → AreSharesOf b.state.counts shares
settled_shares b shares h sized = record {
  count = h.count ∙ sym sized.counts;
  each = λ w share at. settled_share b shares w share (h.each w share at);
}

-- as many workers as the core has
pub size_is : (core b : CoreState) (found : ℕ) → core ≡ b → found ≡ length core.state.tasks → found ≡ length b.state.tasks
size_is core b found same is = is ∙ ap (λ (x : CoreState). length x.state.tasks) same

-- ---- what is answered for a job and a number of workers

module _ (job : Job) (workers : ℕ) (shares : List Share) (b : BookState) (same : b.core.job ≡ job) (settled_answer : Result Finished RunFault) (settled : IsFinishedAfter b.fault b.core shares settled_answer)
    (reached : Reached (block_in b.core) (length b.core.state.tasks) b.core.state) (sized : IsStateSized (length b.core.job.block) (length b.core.state.tasks) b.core.state)
    (fits : FaultFits b.work_limit b.passed b.core b.fault) (way : IsOnTheWay b.passed b.core) (limit : Option ℕ) (limited : b.work_limit ≡ limit) (found : ℕ) (size : found ≡ length b.core.state.tasks) where
  -- if the answer is Ok
  finished_is : (o : Finished) → settled_answer ≡ Ok o → found ≡ workers → ReachedByList → LastEntryIsDone → OneWorkerCountsWhereReached
      → (o.receipts.items ≡ receipts_of job.block job.store) × HasHistory job workers o.counts.items × (workers ≡ 1 → AreOneWorkerCounts (length job.block) o.counts.items) × AreSharesOf o.counts.items shares
  finished_is o is asked by_list last law =
      let k = ok_after b.fault b.core shares settled_answer o settled is in
      let counts = k.1.counts in (
        k.1.receipts ∙ ap (λ (j : Job). receipts_of j.block j.store) same,
        subst (λ (j : Job). HasHistory j workers o.counts.items) same
            (subst (λ n. HasHistory b.core.job n o.counts.items) (sym size ∙ asked)
            (subst (HasHistory b.core.job (length b.core.state.tasks)) (sym counts) (has_history b.core shares k.0 reached by_list last))),
        (λ one. subst (λ (j : Job). AreOneWorkerCounts (length j.block) o.counts.items) same
            (subst (AreOneWorkerCounts (length b.core.job.block)) (sym counts) (are_one_worker_counts b.core shares k.0 reached law (sym size ∙ asked ∙ one)))),
        subst (λ (found : List Counts). AreSharesOf found shares) (sym counts) (settled_shares b.core shares k.0 sized),
      )

  -- a limit that was written is met by some list
  limit_met : (which : Limit) → IsAtLimit which b.core → found ≡ workers → HasLimit job workers which
  limit_met which at asked = subst (λ (j : Job). HasLimit j workers which) same (subst (λ n. HasLimit b.core.job n which) (sym size ∙ asked)
      (record { state = b.core.state; reached = reached; worker = at.worker; within = at.within; step = at.step; refused = at.refused }))

  -- so is a limit of the steps and of the versions that they pass
  work_limit_here : (most : Option ℕ) → HasSpentWorker most b.core ⊎ AreAllPassed most b.passed → HasWorkLimit b.core.job (length b.core.state.tasks) most
  work_limit_here None (inl at) = record { state = b.core.state; reached = reached; worker = at.worker; within = at.within; spent = at.spent }
  work_limit_here None (inr never) = absurd never
  work_limit_here (Some most) (inl at) = inl (record { state = b.core.state; reached = reached; worker = at.worker; within = at.within; spent = at.spent })
  work_limit_here (Some most) (inr all) = let low = way.2 in inr (record { state = b.core.state; passed = way.0; reached = way.1; all = omega (arith, all, low) })

  work_limit_met : HasSpentWorker b.work_limit b.core ⊎ AreAllPassed b.work_limit b.passed → found ≡ workers → HasWorkLimit job workers limit
  work_limit_met at asked = subst (HasWorkLimit job workers) limited (subst (λ (j : Job). HasWorkLimit j workers b.work_limit) same (subst (λ n. HasWorkLimit b.core.job n b.work_limit) (sym size ∙ asked) (work_limit_here b.work_limit at)))

  -- a fault that is answered: that of the settled answer, if the core has this number of workers; otherwise Foreign
  abbrev pub IsAnswered : RunFault → Type 0
  IsAnswered f = ((settled_answer ≡ Err f) × (found ≡ workers)) ⊎ ((f ≡ faults.Foreign) × (found ≢ workers))

  -- a fault that is neither Foreign nor Memory was written
  written : (f : RunFault) → IsAnswered f → f ≢ faults.Foreign → f ≢ faults.Memory → MayWrite f b.work_limit b.passed b.core × (found ≡ workers)
  written f (inl h) foreign memory = elim (err_after b.fault b.core shares settled_answer f settled h.0) [
    | inl k ↦ (subst (FaultFits b.work_limit b.passed b.core) k fits, h.1)
    | inr (inl k) ↦ absurd (foreign k)
    | inr (inr k) ↦ absurd (memory k)
  ]
  written f (inr h) foreign memory = absurd (foreign h.0)

  pub never_bad_count : (answer : Result Finished RunFault) → IfErr answer IsAnswered → IfErr answer (λ f. f ≢ faults.BadCount)
  never_bad_count answer err = IfErr-weaker answer _ _ (λ f h e. (written faults.BadCount (subst IsAnswered e h) (λ k. cc) (λ k. cc)).0) err

  pub is_run : ReachedByList → LastEntryIsDone → OneWorkerCountsWhereReached → AreLeft limit workers shares → All (λ share. KeepsLimit limit share.counts) shares
      → (answer : Result Finished RunFault) → IfOk answer (λ o. (settled_answer ≡ Ok o) × (found ≡ workers)) → IfErr answer IsAnswered → IsRun job workers limit shares answer
  is_run by_list last law left keeps (Ok o) ok err = let made = finished_is o ok.0 ok.1 by_list last law in (made.0, made.1, made.2, made.3, keeps, left)
  is_run by_list last law left keeps (Err f) ok err = (
    (λ e. let w = written faults.ArenaFull (subst IsAnswered e err) (λ k. cc) (λ k. cc) in limit_met steps.ArenaFull w.0 w.1),
    (λ e. let w = written faults.IncarnationLimit (subst IsAnswered e err) (λ k. cc) (λ k. cc) in limit_met steps.IncarnationLimit w.0 w.1),
    (λ e. let w = written faults.StepLimit (subst IsAnswered e err) (λ k. cc) (λ k. cc) in work_limit_met w.0 w.1),
    (λ _. left),
  )
