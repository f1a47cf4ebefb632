-- A run of a job, and the shares of its workers.
use Rattle.std.proofs.Common.{◌≡◌, ◌+◌, ◌≤◌, ℕ, List, length, refl, subst, sym}
use Rattle.std.specs.List.{count_by, sum_by}
use Rattle.rv_ledger.specs.declared.job.Job.{Job}
use Rattle.rv_ledger.specs.declared.outcome.Counts.{Counts}
use Rattle.stm_state.specs.Done.{block_of}
use Rattle.never_stuck.specs.Far.{HasAtMostGas}
use Rattle.stm_core.specs.CoreState.{is_read}
use Rattle.always_ends.specs.Work.{work_of_list}
use Rattle.always_ends.specs.Laws.{WorkOfListsIsBounded}
use Rattle.workers.proofs.CountsAlong.{steps_are_reads_or_work}
use Rattle.workers.specs.History.{AreOneWorkerCounts, HasHistory, IsBoundedHistory, IsRunWithShares}
use Rattle.workers.specs.Settle.{AreSharesOf}
use Rattle.workers.specs.declared.book.share.Share.{Share}

-- the counts that the outcome has
pub run_with_shares : (job : Job) (workers : ℕ) (counts : List Counts) (shares : List Share) → HasHistory job workers counts → AreSharesOf counts shares
    → (workers ≡ 1 → AreOneWorkerCounts (length job.block) counts) → IsRunWithShares job workers shares
run_with_shares job workers counts shares history has one = record { counts = counts; history = history; those = has; one_worker = one }

-- its work is bounded, by the law of lists
pub history_is_bounded : WorkOfListsIsBounded → (job : Job) (workers : ℕ) (counts : List Counts) → HasHistory job workers counts → (gas : ℕ) → HasAtMostGas gas job.block → IsBoundedHistory job workers gas counts
history_is_bounded law job workers counts history gas most =
    let bounds = law job.block job.store workers gas history.entries history.state most history.leads in
    let steps = steps_are_reads_or_work (block_of job.block job.store) workers history.entries history.state history.leads in
    let work = work_of_list (block_of job.block job.store) workers history.entries in record {
      history = history;
      work = work;
      counted = refl;
      by_incarnations = bounds.0;
      in_all = bounds.1;
      steps = subst (λ (found : List Counts). sum_by (λ did. did.steps) found ≤ sum_by (λ did. did.asks) found + count_by (λ entry. is_read entry.1) history.entries + work) (sym history.counts) steps;
    }
