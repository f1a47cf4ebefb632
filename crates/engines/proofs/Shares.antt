-- What the workers of a run did, by the shares that they returned.
use Rattle.std.proofs.Common.{◌≡◌, ◌∙◌, ℕ, suc, List, [], ◌∷◌, length, map, ap, ap₂, arith, refl, subst, sym}
use Rattle.std.specs.Prelude.{Some, get_or, slice_get}
use Rattle.rv_ledger.specs.declared.job.Job.{Job}
use Rattle.rv_ledger.specs.declared.outcome.Counts.{Counts}
use Rattle.stm_state.specs.State.{no_counts}
use Rattle.workers.specs.History.{HasHistory, IsRunWithShares}
use Rattle.workers.specs.declared.book.share.Share.{Share}
use Rattle.engines.specs.Counts.{AreCountsOfRun}
use Rattle.engines.specs.declared.counts.RunCounts.{RunCounts}

abbrev did : List Share → List Counts
did shares = map (λ share. share.counts) shares

-- lists of one length with the same elements
same : (counts : List Counts) (shares : List Share) → length shares ≡ length counts
    → ((w : ℕ) (share : Share) → slice_get shares w ≡ Some share → share.counts ≡ get_or counts w no_counts) → did shares ≡ counts
same [] [] count each = refl
same [] (share ∷ shares) count each = absurd (omega arith)
same (c ∷ counts) [] count each = absurd (omega arith)
same (c ∷ counts) (share ∷ shares) count each = ap₂ (λ first rest. first ∷ rest) (each 0 share refl) (same counts shares (omega arith) (λ w s is. each (suc w) s is))

-- the counts of shares are those of the run
pub counts_of_run : (job : Job) (workers : ℕ) (shares : List Share) (counts : RunCounts) → IsRunWithShares job workers shares
    → counts.calls ≡ length job.block → counts.workers.items ≡ did shares → AreCountsOfRun job workers counts
counts_of_run job workers shares counts run calls is = record {
  calls = calls;
  history = subst (λ found. HasHistory job workers found) (sym (is ∙ same run.counts shares run.those.count (λ w share at. ap (λ s. s.counts) (run.those.each w share at)))) run.history;
}
