-- A run that a host over one storage drives has answers of that storage alone.
use Rattle.std.proofs.Common.{◌≡◌, inl, inr, ℕ, Bool, true, false, cond, List, [], ◌∷◌, Option, Some, None, refl, sym, ap, subst, ◌∙◌}
use Rattle.std.specs.FinMap.{get, get-empty, get-insert, insert}
use Rattle.std.specs.Cmp.Lexicographic.{nat_list_cmp_total}
use Rattle.std.specs.Ordering.{eq_by_cmp}
use Rattle.overlay.specs.Overlay.{Changes, with_contents}
use Rattle.rv_ledger.specs.Call.{Invocation}
use Rattle.rv_ledger.specs.Change.{Content}
use Rattle.rv_ledger.specs.Key.{Storage, key_cmp}
use Rattle.rv_step.specs.Fold.{receipts_of, store_after}
use Rattle.host_block.specs.Changes.{Agrees}
use Rattle.host_block.specs.Hosts.{AreHostCalls, IsHostCall, IsResultOver}
use Rattle.host_block.specs.Ordered.{AreResults, OrderedView, new_run}
use Rattle.host_block.specs.declared.ordered_run.BlockResult.{BlockResult}
use Rattle.host_block.proofs.Changing.{same_key}

-- a run of these calls, whose answers are those of a storage
abbrev IsOver : Storage → List Invocation → OrderedView → Type 0
IsOver store calls run = (run.calls ≡ calls) × Agrees run.bases store

at_first : (store : Storage) (calls : List Invocation) → IsOver store calls (new_run calls)
at_first store calls = (refl, λ key content has. absurd (nothing key content has))
  where
    nothing : (key : List ℕ) (content : Content) → get (new_run calls).bases key ≡ Some content → ⊥
    nothing key content has = let none : get (new_run calls).bases key ≡ None = get-empty key_cmp key in cc

answer_agrees : (store : Storage) (bases : Changes) (key : List ℕ) → Agrees bases store → Agrees (insert bases key (get store key)) store
answer_agrees store bases key agrees q content has = by (eq_by_cmp key_cmp q key) refl
  where
    by : (b : Bool) → eq_by_cmp key_cmp q key ≡ b → get store q ≡ content
    by true same =
        let told : Some (get store key) ≡ Some content = sym (get-insert nat_list_cmp_total bases key (get store key) q ∙ ap (λ b. cond b (Some (get store key)) (get bases q)) same) ∙ has in
        let here : get store key ≡ content = cc in
        ap (get store) (same_key q key same) ∙ here
    by false other = agrees q content (sym (get-insert nat_list_cmp_total bases key (get store key) q ∙ ap (λ b. cond b (Some (get store key)) (get bases q)) other) ∙ has)

after_call : (store : Storage) (calls : List Invocation) (before after : OrderedView) → IsOver store calls before → IsHostCall store before after → IsOver store calls after
after_call store calls before after over (inl same) = (same.0 ∙ over.0, subst (λ (bs : Changes). Agrees bs store) (sym same.1) over.1)
after_call store calls before after over (inr (inl answered)) =
    let kept = answered.2 in
    let one : Some answered.0 ≡ Some kept.0 = sym answered.1 ∙ kept.1 in
    let key : answered.0 ≡ kept.0 = cc in
    subst (IsOver store calls) (sym kept.2) (over.0, subst (λ (k : List ℕ). Agrees (insert before.bases k (get store answered.0)) store) key (answer_agrees store before.bases answered.0 over.1))
after_call store calls before after over (inr (inr same)) = subst (IsOver store calls) (sym same) over

after_calls : (store : Storage) (calls : List Invocation) (views : List OrderedView) (first last : OrderedView) → IsOver store calls first → AreHostCalls store first views last → IsOver store calls last
after_calls store calls [] first last over is = subst (IsOver store calls) (sym is) over
after_calls store calls (next ∷ later) first last over are = after_calls store calls later next last (after_call store calls first next over are.0) are.1

of_result : (store : Storage) (calls : List Invocation) (run : OrderedView) (result : Option BlockResult) → IsOver store calls run → AreResults result run → IsResultOver store calls result
of_result store calls run None over are = tt
of_result store calls run (Some r) over are =
    subst (λ (cs : List Invocation). (r.receipts.now ≡ receipts_of cs store) × (with_contents store r.changes.now ≡ store_after cs store)) over.0 (are.2 store over.1)

pub hosted_result : (store : Storage) (calls : List Invocation) (views : List OrderedView) (last : OrderedView) (result : Option BlockResult)
    → AreHostCalls store (new_run calls) views last → AreResults result last → IsResultOver store calls result
hosted_result store calls views last result hosted are = of_result store calls last result (after_calls store calls views (new_run calls) last (at_first store calls) hosted) are
