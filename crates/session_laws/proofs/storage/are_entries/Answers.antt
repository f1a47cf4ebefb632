-- One more entry, and none left.
use Rattle.std.proofs.Common.{◌∙◌, ℕ, List, All, subst, arith}
use Rattle.std.proofs.lemmas.List.Elements.{All-cons}
use Rattle.rv_ledger.specs.declared.rules.Rules.TheVariants.{Two}
use Rattle.session_laws.specs.Chained.{IsEntry}
use Rattle.session_laws.proofs.storage.are_entries.Goals as goal

pub loop-key-init : goal.loop-key-init
loop-key-init c =
    let same = c.into_iter-key-iterator.ensures.into_iter_gives ∙ c.iter-key-items.ensures in
    subst (λ (es : List (List ℕ × List ℕ)). All (IsEntry Two) es) same

pub loop-key-preserved : goal.loop-key-preserved
loop-key-preserved c = λ rest.
    c.loop-key.invariant (rw c.in-Some.ensures.steps (All-cons (IsEntry Two) _ _ c.is_entry.ensures rest))

pub returns : goal.returns
returns c = c.loop-key.invariant (rw c.in-None.ensures.steps.0 (λ k d h. absurd (omega arith)))
