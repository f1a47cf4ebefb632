use Rattle.std.proofs.Common.{◌≡◌, ◌<◌, ◌+◌, ◌++◌, ◌∷◌, ◌∙◌, ℕ, List, [], Ok, None, ap, arith, get_or, length, length-take-le, sym, take}
use Rattle.std.specs.BTreeMap.{IsFromIterResult}
use Rattle.std.specs.Map.{update_all}
use Rattle.std.specs.Ordering.{eq_by_cmp}
use Rattle.std.proofs.lemmas.Iterator.Adapters.{fact_from_collect, YieldsList-from_vec}
use Rattle.std.proofs.lemmas.List.{take_all, take_more}
use Rattle.rv_ledger.specs.Key.{key_cmp}
use Rattle.rv_ledger.specs.Positions.{EntryList, Positions, position_of}
use Rattle.rv_ledger.proofs.Numbered.{numbered, numbered_push, numbered_indexed, numbered_inserted}
use Rattle.rv_ledger.proofs.entry_table.EntryTable.of_ascending.Goals as goal
use Rattle.rv_ledger.proofs.entry_table.EntryTable.of_ascending.Goals.{After-note}

numbered_more : (list : EntryList) (p : ℕ) (e : List ℕ × List ℕ) (ps : Positions) → p < length list → e ≡ get_or list p e → ps ≡ numbered 0 (take p list) → ps ++ (e.0, p) ∷ [] ≡ numbered 0 (take (p + 1) list)
numbered_more list p e ps within is so_far =
    let size : p ≡ 0 + length (take p list) = omega (arith, length-take-le p list (omega arith)) in
    ap (λ (qs : Positions). qs ++ (e.0, p) ∷ []) so_far
    ∙ ap (λ (n : ℕ). numbered 0 (take p list) ++ (e.0, n) ∷ []) size
    ∙ sym (numbered_push 0 (take p list) e)
    ∙ ap (λ (x : List ℕ × List ℕ). numbered 0 (take p list ++ x ∷ [])) is
    ∙ ap (numbered 0) (sym (take_more list p e within))

pub loop-position-preserved : goal.loop-position-preserved
loop-position-preserved c =
    c.in_ok-push.ensures.items ∙ numbered_more c.args.list.items c.loop-position.position c.index.result.now c.loop-position.positions.items (omega (arith, c.args.list.ok.0)) c.index.ensures c.loop-position.invariant

-- the tree has the number of each key
made : (c : After-note) → (q : List ℕ) → position_of c.in_ok-tree.tree.entries q ≡ update_all (eq_by_cmp key_cmp) (λ _. None) (numbered 0 c.args.list.items) q
made c q =
    let all : take c.loop-position.position c.args.list.items ≡ c.args.list.items = take_all c.loop-position.position c.args.list.items (omega (arith, c.args.list.ok.0)) in
    let numbers : c.loop-position.positions.items ≡ numbered 0 c.args.list.items = c.loop-position.invariant ∙ ap (numbered 0) all in
    let source = YieldsList-from_vec c.loop-position.positions.items c.into_iter.ensures.rest (c.into_iter.ensures.len ∙ c.loop-position.positions.ok.0) in
    let collected = fact_from_collect {E = Unit {0}} (IsFromIterResult key_cmp) (Ok c.in_ok-tree.tree) c.in_ok-tree.ensures.ran source in
    collected.0 q ∙ ap (λ (ps : Positions). update_all (eq_by_cmp key_cmp) (λ _. None) ps q) numbers

pub returns-clause-indexed : goal.returns-clause-indexed
returns-clause-indexed c = numbered_indexed c.args.list.items c.requires.ascending c.in_ok-tree.tree.entries (made (goal.at.returns-clause-indexed c).After-note)

pub returns-clause-all : goal.returns-clause-all
returns-clause-all c = numbered_inserted c.args.list.items c.requires.ascending c.in_ok-tree.tree.entries (made (goal.at.returns-clause-all c).After-note)
