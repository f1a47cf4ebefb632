-- What holds of the value at each key holds of each entry, and the other way round.
use Rattle.std.proofs.Common.{◌≡◌, ℕ, Bool, true, false, T, cond, List, [], ◌∷◌, All, Option, Some, None, Ordering, Less, Equal, Greater, refl, sym, subst}
use Rattle.std.specs.Prelude.{IfSome}
use Rattle.std.specs.Ordering.{eq_by_cmp}
use Rattle.std.specs.Cmp.{tied_itself}
use Rattle.std.specs.Cmp.Lexicographic.{nat_list_cmp_total}
use Rattle.std.specs.FinMap.{FinMap, find, get, insert, remove, empty, entries, entries_sorted, is_sorted, get-entries, get-empty, get-insert, get-remove}
use Rattle.std.specs.FinMap.Entries.{below_all}
use Rattle.std.proofs.Math.Facts.{and_yes}
use Rattle.std.proofs.lemmas.List.Elements.{All-nil, All-cons, All-head, All-tail}
use Rattle.rv_ledger.specs.Key.{key_cmp}
use Rattle.rv_ledger.proofs.SortedKeys.{not_below}

module _ {X : Type 0} (P : X → Type 0) where
  abbrev pub EachValue : FinMap key_cmp X → Type 0
  EachValue m = (key : List ℕ) → IfSome (get m key) P

  abbrev pub EachEntry : List (List ℕ × X) → Type 0
  EachEntry es = All (λ entry. P entry.1) es

  either : (b : Bool) (one other : Option X) → IfSome one P → IfSome other P → IfSome (cond b one other) P
  either true one other h k = h
  either false one other h k = k

  pub none_kept : EachValue empty
  none_kept key = subst (λ (o : Option X). IfSome o P) (sym (get-empty key_cmp key)) tt

  pub insert_keeps : (m : FinMap key_cmp X) (k : List ℕ) (v : X) → P v → EachValue m → EachValue (insert m k v)
  insert_keeps m k v p h key =
      subst (λ (o : Option X). IfSome o P) (sym (get-insert nat_list_cmp_total m k v key)) (either (eq_by_cmp key_cmp key k) (Some v) (get m key) p (h key))

  pub remove_keeps : (m : FinMap key_cmp X) (k : List ℕ) → EachValue m → EachValue (remove m k)
  remove_keeps m k h key =
      subst (λ (o : Option X). IfSome o P) (sym (get-remove nat_list_cmp_total m k key)) (either (eq_by_cmp key_cmp key k) None (get m key) tt (h key))

  -- from the entries to the values
  found : (es : List (List ℕ × X)) (q : List ℕ) → EachEntry es → IfSome (find key_cmp q es) P
  found [] q h = tt
  found (e ∷ es) q h =
      either (eq_by_cmp key_cmp q e.0) (Some e.1) (find key_cmp q es) (All-head (λ entry. P entry.1) e es h) (found es q (All-tail (λ entry. P entry.1) e es h))

  pub values_from : (m : FinMap key_cmp X) → EachEntry (entries m) → EachValue m
  values_from m h key = subst (λ (o : Option X). IfSome o P) (sym (get-entries m key)) (found (entries m) key h)

  -- and the converse: what is found after the first entry has another key
  behind_first : (e : List ℕ × X) (es : List (List ℕ × X)) → T (below_all key_cmp e.0 es) → ((q : List ℕ) → IfSome (find key_cmp q (e ∷ es)) P) → (q : List ℕ) → IfSome (find key_cmp q es) P
  behind_first e es below h q = by (key_cmp q e.0) refl
    where
      by : (o : Ordering) → key_cmp q e.0 ≡ o → IfSome (find key_cmp q es) P
      by Less same = rw same at (h q)
      by Equal same = subst (λ (o : Option X). IfSome o P) (sym (not_below q e.0 es same below)) tt
      by Greater same = rw same at (h q)

  each_held : (es : List (List ℕ × X)) → T (is_sorted key_cmp es) → ((q : List ℕ) → IfSome (find key_cmp q es) P) → EachEntry es
  each_held [] sorted h = All-nil (λ entry. P entry.1)
  each_held (e ∷ es) sorted h =
      let here : P e.1 = rw (tied_itself nat_list_cmp_total e.0) at (h e.0) in
      let order = and_yes (below_all key_cmp e.0 es) (is_sorted key_cmp es) sorted in
      All-cons (λ entry. P entry.1) e es here (each_held es order.1 (behind_first e es order.0 h))

  pub entries_from : (m : FinMap key_cmp X) → EachValue m → EachEntry (entries m)
  entries_from m h = each_held (entries m) (entries_sorted m) (λ q. subst (λ (o : Option X). IfSome o P) (get-entries m q) (h q))
