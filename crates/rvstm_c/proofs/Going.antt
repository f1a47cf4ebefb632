-- What `rvstm_run_go` returns of a run that went on.
use Rattle.std.proofs.Common.{◌≡◌, inl, inr, ℕ, List, Option, Some, None, Result, Ok, Err, IfSome, IsSome, refl, sym, ap, subst, ◌∙◌}
use Rattle.std.specs.declared.alloc.AllocError.{AllocError}
use Rattle.host_block.specs.Ordered.{AreResults, IsResult, IsWanted, IsWritten, OrderedView}
use Rattle.host_block.specs.declared.ordered_run.BlockResult.{BlockResult}
use Rattle.rv_ledger.specs.Change.{Content}
use Rattle.rv_ledger.specs.declared.receipt.Receipt.{Receipt}
use Rattle.rvstm_c.specs.Blocks.{BlockStage, BlockView, RunsOn, HasResult, HasResultAt, IsEndedRun, IsGone, IsGoneTo, Runs, StaysEnded, run_at}
use Rattle.rvstm_c.specs.Statuses.{ended, key_wanted, paused}

abbrev Stopped : Type 0
Stopped = Result (Option (List ℕ)) AllocError

-- what was said of a run that had its result
said_ended : (before after : OrderedView) (stopped : Stopped) (status : ℕ) → (stopped ≡ Ok None → status ≡ ended) → StaysEnded (Ok None) stopped before after → StaysEnded ended status before after
said_ended before after stopped status says h = by before.result h
  where
    by : (o : Option (List (List ℕ × Content))) → IfSome o (λ changes. (after ≡ before) × (stopped ≡ Ok None)) → IfSome o (λ changes. (after ≡ before) × (status ≡ ended))
    by None none = tt
    by (Some changes) both = (both.0, says both.1)

pub at_key : (before after : BlockView) (stopped : Stopped) (key key_before key_after : List ℕ) → IsGone before stopped after → stopped ≡ Ok (Some key) → key_after ≡ key → RunsOn key_before key_after before key_wanted after
at_key before after stopped key key_before key_after gone is same =
    let to : IsGoneTo (Ok (Some key)) gone.1 = subst (λ (s : Stopped). IsGoneTo s gone.1) is gone.5 in (
      gone.0,
      gone.1,
      gone.2,
      gone.3,
      said_ended (run_at before.stage) gone.1 stopped key_wanted (λ end. absurd (other_stop stopped key is end)) gone.4,
      inl (refl, to.0 ∙ ap Some (sym same), subst (λ k. IsWanted gone.1.calls gone.1.receipts gone.1.changes gone.1.bases k) (sym same) to.1),
    )
  where
    other_stop : (s : Stopped) (key : List ℕ) → s ≡ Ok (Some key) → s ≡ Ok None → ⊥
    other_stop s key at end = cc

no_result : (run : OrderedView) → run.result ≡ None → IsSome run.result → ⊥
no_result run none some = cc

ended_run : (run : OrderedView) (result : Option BlockResult) → AreResults result run → IsSome run.result → IsEndedRun run
ended_run run None none some = absurd (no_result run none some)
ended_run run (Some r) are some = (
  r.changes.now,
  are.0,
  subst (λ (rs : List Receipt). IsResult run.calls run.bases rs r.changes.now) are.1 are.2,
  are.3,
  λ key has. subst (λ (rs : List Receipt). IsWritten rs key) are.1 (are.4 key has),
)

result_of_run : (result : Option BlockResult) (s : BlockStage) (run : OrderedView) → s ≡ Runs run → HasResultAt result s → AreResults result run
result_of_run result s run is has = subst (HasResultAt result) is has

pub at_end : (before after : BlockView) (stopped : Stopped) (result : Option BlockResult) (key : List ℕ) → IsGone before stopped after → stopped ≡ Ok None → HasResult result after → RunsOn key key before ended after
at_end before after stopped result key gone is has =
    let to : IsGoneTo (Ok None) gone.1 = subst (λ (s : Stopped). IsGoneTo s gone.1) is gone.5 in
    (gone.0, gone.1, gone.2, gone.3, said_ended (run_at before.stage) gone.1 stopped ended (λ end. refl) gone.4, inr (inl (refl, refl, to.0, ended_run gone.1 result (result_of_run result after.stage gone.1 gone.2 has) to.1)))

pub at_pause : (before after : BlockView) (stopped : Stopped) (error : AllocError) (key : List ℕ) → IsGone before stopped after → stopped ≡ Err error → RunsOn key key before paused after
at_pause before after stopped error key gone is =
    let to : IsGoneTo (Err error) gone.1 = subst (λ (s : Stopped). IsGoneTo s gone.1) is gone.5 in
    (gone.0, gone.1, gone.2, gone.3, said_ended (run_at before.stage) gone.1 stopped paused (λ end. absurd (other_stop stopped error is end)) gone.4, inr (inr (refl, refl, to.0, to.1)))
  where
    other_stop : (s : Stopped) (error : AllocError) → s ≡ Err error → s ≡ Ok None → ⊥
    other_stop s error at end = cc
