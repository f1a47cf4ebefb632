use Rattle.std.proofs.Common.{◌≡◌, ◌<◌, ◌+◌, ◌∙◌, ℕ, List, [], get_or, length, arith}
use Rattle.std.specs.Cmp.Lexicographic.{nat_list_cmp_total}
use Rattle.std.specs.Map.{keys_of}
use Rattle.std.specs.declared.cmp.Ordering.TheVariants.{Less}
use Rattle.std.proofs.Math.ListN.{get_or-map}
use Rattle.std.proofs.lemmas.Map.Entries.{length-keys_of}
use Rattle.std.proofs.lemmas.Map.Keys.{sorted_from_all_adjacent}
use Rattle.rv_ledger.specs.Entries.{AreAscending}
use Rattle.rv_ledger.specs.Key.{key_cmp}
use Rattle.rv_ledger.proofs.store.do_ascend.Goals as goal

-- the keys of entries ascend if each is below the next
ascending : (es : List (List ℕ × List ℕ)) → ((k : ℕ) (d : List ℕ × List ℕ) → k + 1 < length es → key_cmp (get_or es k d).0 (get_or es (k + 1) d).0 ≡ Less) → AreAscending es
ascending es h = sorted_from_all_adjacent nat_list_cmp_total (keys_of es) [] (λ k l.
    let key_at = λ (i : ℕ). get_or-map (λ (e : List ℕ × List ℕ). e.0) es i ([], []) in
    (λ i. key_cmp (key_at k i) (key_at (k + 1) i)) ∙ h k ([], []) (omega (arith, length-keys_of es)))

pub returns : goal.returns
returns c = λ _. ascending c.args.entries.now (λ k d l. c.loop-i.invariant k d (omega arith))
