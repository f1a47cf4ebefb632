-- The entries from a key on, by the tree of positions.
use Rattle.std.proofs.Common.{◌≡◌, ◌∷◌, ◌&&◌, ◌∙◌, ℕ, List, [], Bool, true, false, cond, not, ap, refl}
use Rattle.std.specs.declared.cmp.Ordering.{Ordering}
use Rattle.std.specs.declared.cmp.Ordering.TheVariants.{Less, Equal, Greater}
use Rattle.std.specs.declared.ops.Bound.TheVariants.{Included, Unbounded}
use Rattle.std.specs.BTreeMap.Range.{entries_between, range_contains}
use Rattle.std.specs.Cmp.Lexicographic.{nat_list_cmp_total}
use Rattle.std.specs.List.{filter}
use Rattle.std.specs.Ordering.{is_le, is_lt, ordering_reverse}
use Rattle.rv_ledger.specs.Key.{key_cmp}
use Rattle.rv_ledger.specs.Ranges.{is_from}
use Rattle.rv_ledger.specs.Positions.{EntryList, Positions, in_order, value_in}

reversed : (o : Ordering) → (is_le (ordering_reverse o) && true) ≡ not (is_lt o)
reversed Less = refl
reversed Equal = refl
reversed Greater = refl

-- a key is in the range from another one on exactly if it is not before it
in_range : (from key value : List ℕ) → range_contains key_cmp (Included from) Unbounded key ≡ is_from from (key, value)
in_range from key value = ap (λ o. is_le o && true) (nat_list_cmp_total.antisymm from key) ∙ reversed (key_cmp key from)

next_from : (b c : Bool) → b ≡ c → (e : List ℕ × ℕ) (ps : Positions) (list rest : EntryList) → in_order ps list ≡ rest
    → in_order (cond b (e ∷ ps) ps) list ≡ cond c ((e.0, value_in list e.1) ∷ rest) rest
next_from true true same e ps list rest is = ap (λ (es : EntryList). (e.0, value_in list e.1) ∷ es) is
next_from false false same e ps list rest is = is
next_from true false same e ps list rest is = cc
next_from false true same e ps list rest is = cc

-- the positions in that range are those of the entries from the key on
pub in_order_from : (from : List ℕ) (ps : Positions) (list : EntryList) → in_order (entries_between key_cmp (Included from) Unbounded ps) list ≡ filter (is_from from) (in_order ps list)
in_order_from from [] list = refl
in_order_from from (e ∷ ps) list = next_from _ _ (in_range from e.0 (value_in list e.1)) e (entries_between key_cmp (Included from) Unbounded ps) list _ (in_order_from from ps list)
