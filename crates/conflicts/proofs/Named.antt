-- The lines of a block's text name its waits, and no others.
use Rattle.std.proofs.Common.{◌≡◌, ◌↔◌, ◌<◌, ◌≤◌, ◌⊎◌, ◌++◌, ◌||◌, ◌+◌, inl, inr, ℕ, zero, suc, Bool, true, false, cond, List, [], ◌∷◌, length, map, nat_lt, reverse, Option, Some, None, is_some, refl, sym, ap, subst, ◌∙◌, arith}
use Rattle.std.specs.FinMap as finite
use Rattle.std.specs.List.{flat_map, fold, list_any, range_with_len, slice_get}
use Rattle.std.specs.Option.{option_map}
use Rattle.std.specs.Ordering.{eq_by_cmp}
use Rattle.std.specs.Cmp.{eq_by_cmp_equiv}
use Rattle.std.specs.Cmp.Lexicographic.{nat_list_cmp_total}
use Rattle.std.proofs.lemmas.Bool.{ltb-false, ltb-true}
use Rattle.std.proofs.lemmas.List.{reverse-append}
use Rattle.std.proofs.lemmas.Option.{slice_get-map}
use Rattle.rv_ledger.proofs.Entries.{key_cmp-IsAntisymmetric}
use Rattle.rv_ledger.specs.Call.{Invocation}
use Rattle.rv_ledger.specs.Change.{ContentChange}
use Rattle.rv_ledger.specs.Key.{Storage, key_cmp}
use Rattle.rv_ledger.specs.declared.change.Change.TheVariants as change
use Rattle.rv_ledger.specs.declared.receipt.Receipt.{Receipt}
use Rattle.rv_step.specs.Fold.{receipts_of, store_before}
use Rattle.conflicts.specs.declared.key_waits.KeyWaits.{KeyWaits}
use Rattle.conflicts.specs.ByKey.{CallByKey, call_by_key, calls_by_key, earliest_named, key_waits_at, key_waits_from, key_waits_of}
use Rattle.conflicts.specs.Paths.{WaitsAt, waits_in_call}
use Rattle.conflicts.specs.Reads.{Keys}
use Rattle.conflicts.specs.Sums.{HotKeyView, all_waits, calls_changing, hot_key_of, keys_of_calls, keys_waited}
use Rattle.conflicts.specs.Text.{IsNamed, key_waits_in_call}
use Rattle.conflicts.specs.Waits.{CallView, Wait, call_view_of, calls_of, change_in, keys_read_by, waits_at, waits_for, waits_of, writers_named}
use Rattle.conflicts.proofs.Counted.{one_writer, writer_first, writers_from}
use Rattle.conflicts.proofs.Earlier.{at_index}
use Rattle.conflicts.proofs.Noted.{named_more, named_none, noted, tied}

-- ---- elements of lists

abbrev In : {X : Type 0} → List X → X → Type 0
In xs x = (k : ℕ) × (slice_get xs k ≡ Some x)

none_in : {X : Type 0} {P : Type 0} (x : X) → In [] x → P
none_in x (k, e) = cc

in_left : {X : Type 0} (xs ys : List X) (x : X) → In xs x → In (xs ++ ys) x
in_left [] ys x h = none_in x h
in_left (a ∷ xs) ys x (zero, e) = (zero, e)
in_left (a ∷ xs) ys x (suc k, e) = let rest = in_left xs ys x (k, e) in (suc rest.0, rest.1)

in_right : {X : Type 0} (xs ys : List X) (x : X) → In ys x → In (xs ++ ys) x
in_right [] ys x h = h
in_right (a ∷ xs) ys x h = let rest = in_right xs ys x h in (suc rest.0, rest.1)

in_either : {X : Type 0} (xs ys : List X) (x : X) → In (xs ++ ys) x → In xs x ⊎ In ys x
in_either [] ys x h = inr h
in_either (a ∷ xs) ys x (zero, e) = inl (zero, e)
in_either {X = X} (a ∷ xs) ys x (suc k, e) = onward (in_either xs ys x (k, e))
  where
    onward : In xs x ⊎ In ys x → In (a ∷ xs) x ⊎ In ys x
    onward (inl h) = inl (suc h.0, h.1)
    onward (inr h) = inr h

module _ {X Y : Type 0} (f : X → List Y) where
  in_flat : (xs : List X) (x : X) (y : Y) → In xs x → In (f x) y → In (flat_map f xs) y
  in_flat [] x y h own = none_in x h
  in_flat (a ∷ xs) x y (zero, e) own = let same : a ≡ x = cc in in_left (f a) (flat_map f xs) y (subst (λ (z : X). In (f z) y) (sym same) own)
  in_flat (a ∷ xs) x y (suc k, e) own = in_right (f a) (flat_map f xs) y (in_flat xs x y (k, e) own)

  abbrev FromOne : List X → Y → Type 0
  FromOne xs y = (x : X) × In xs x × In (f x) y

  from_one : (xs : List X) (y : Y) → In (flat_map f xs) y → FromOne xs y
  from_one [] y h = none_in y h
  from_one (a ∷ xs) y h = onward (from_one xs y) (in_either (f a) (flat_map f xs) y h)
    where
      onward : (In (flat_map f xs) y → FromOne xs y) → In (f a) y ⊎ In (flat_map f xs) y → FromOne (a ∷ xs) y
      onward further (inl own) = (a, (zero, refl), own)
      onward further (inr rest) = let from = further rest in (from.0, (suc from.1.0, from.1.1), from.2)

in_map : {X Y : Type 0} (f : X → Y) (xs : List X) (x : X) → In xs x → In (map f xs) (f x)
in_map f xs x (k, e) = (k, slice_get-map f xs k ∙ ap (option_map f) e)

from_map : {X Y : Type 0} (f : X → Y) (xs : List X) (y : Y) → In (map f xs) y → (x : X) × In xs x × (f x ≡ y)
from_map f [] y h = none_in y h
from_map f (a ∷ xs) y (zero, e) = let same : f a ≡ y = cc in (a, (zero, refl), same)
from_map f (a ∷ xs) y (suc k, e) = let rest = from_map f xs y (k, e) in (rest.0, (suc rest.1.0, rest.1.1), rest.2)

-- ---- the waits at a key

for_in : (key calls : List ℕ) (i : ℕ) → In calls i → In (waits_for key calls) (record { writer = i; key = key })
for_in key calls i h = in_map (λ (writer : ℕ). record { writer = writer; key = key }) calls i h

of_for : (k calls : List ℕ) (i : ℕ) (key : List ℕ) → In (waits_for k calls) (record { writer = i; key = key }) → (k ≡ key) × In calls i
of_for k calls i key h =
    let from = from_map (λ (writer : ℕ). record { writer = writer; key = k }) calls (record { writer = i; key = key }) h in
    (ap (λ (w : Wait). w.key) from.2, subst (In calls) (ap (λ (w : Wait). w.writer) from.2) from.1)

key_in : (key : List ℕ) (o : Option ℕ) (from : ℕ) → o ≡ Some from → In (key_waits_from key o) (record { from = from; key = key })
key_in key o from e = subst (λ (p : Option ℕ). In (key_waits_from key p) (record { from = from; key = key })) (sym e) (zero, refl)

of_key : (k : List ℕ) (o : Option ℕ) (from : ℕ) (key : List ℕ) → In (key_waits_from k o) (record { from = from; key = key }) → (k ≡ key) × (o ≡ Some from)
of_key k None from key h = none_in (record { from = from; key = key }) h
of_key k (Some f) from key (zero, e) =
    let own : KeyWaits = record { from = f; key = k } in
    let other : KeyWaits = record { from = from; key = key } in
    let same : own ≡ other = cc in
    (ap (λ (w : KeyWaits). w.key) same, ap (λ (w : KeyWaits). Some w.from) same)
of_key k (Some f) from key (suc n, e) = cc

-- ---- the calls that a read names

first_of_two : (xs : List ℕ) (y : ℕ) → (slice_get xs 0 ≡ None) × (slice_get (xs ++ y ∷ []) 0 ≡ Some y) ⊎ (slice_get (xs ++ y ∷ []) 0 ≡ slice_get xs 0)
first_of_two [] y = inl (refl, refl)
first_of_two (x ∷ xs) y = inr refl

module _ (receipts : List Receipt) (key : List ℕ) where
  abbrev Writes : ℕ → Type 0
  Writes i = is_some (change_in (slice_get receipts i) key) ≡ true

  -- the calls of a list are those that write the key from the last of them on
  record AreFrom (calls : List ℕ) (j : ℕ) : Type 0 where
    pub some : (i : ℕ) → In calls i → (from : ℕ) × (slice_get (reverse calls) 0 ≡ Some from) × (from ≤ i) × (i < j) × Writes i
    pub all : (i from : ℕ) → slice_get (reverse calls) 0 ≡ Some from → from ≤ i → i < j → Writes i → In calls i
    pub below : (from : ℕ) → slice_get (reverse calls) 0 ≡ Some from → from < j

  no_calls : AreFrom [] 0
  no_calls = record {
    some = λ i h. none_in i h;
    all = λ i from e less below writes. cc;
    below = λ from e. cc;
  }

  module _ (j : ℕ) (calls : List ℕ) (h : AreFrom calls j) where
    split : (i : ℕ) → i < suc j → (i < j) ⊎ (i ≡ j)
    split i less = by_test (nat_lt i j) refl
      where
        by_test : (t : Bool) → nat_lt i j ≡ t → (i < j) ⊎ (i ≡ j)
        by_test true e = inl (omega (arith, ltb-true i j e))
        by_test false e = inr (omega (arith, ltb-false i j e, less))

    unchanged : change_in (slice_get receipts j) key ≡ None → AreFrom calls (suc j)
    unchanged none = record {
      some = λ i is. let old = h.some i is in (old.0, old.1, old.2, omega (arith, old.3), old.4);
      all = λ i from e less below writes. either i from e less writes (split i below);
      below = λ from e. let less = h.below from e in omega (arith, less);
    }
      where
        either : (i from : ℕ) → slice_get (reverse calls) 0 ≡ Some from → from ≤ i → Writes i → (i < j) ⊎ (i ≡ j) → In calls i
        either i from e less writes (inl below) = h.all i from e less below writes
        either i from e less writes (inr same) =
            let not : false ≡ true = sym (ap is_some (ap (λ (n : ℕ). change_in (slice_get receipts n) key) same ∙ none)) ∙ writes in
            cc

    hidden : Writes j → AreFrom (j ∷ []) (suc j)
    hidden own = record {
      some = λ i is. only i is;
      all = λ i from e less below writes. here i from e less below;
      below = λ from e. let same : j ≡ from = cc in omega (arith, same);
    }
      where
        only : (i : ℕ) → In (j ∷ []) i → (from : ℕ) × (slice_get (reverse (j ∷ [])) 0 ≡ Some from) × (from ≤ i) × (i < suc j) × Writes i
        only i (zero, e) = let same : j ≡ i = cc in (j, refl, omega (arith, same), omega (arith, same), subst Writes same own)
        only i (suc k, e) = cc

        here : (i from : ℕ) → slice_get (reverse (j ∷ [])) 0 ≡ Some from → from ≤ i → i < suc j → In (j ∷ []) i
        here i from e less below =
            let first : j ≡ from = cc in
            let same : j ≡ i = omega (arith, first, less, below) in
            (zero, ap (λ (n : ℕ). Some n) same)

    passed : Writes j → AreFrom (j ∷ calls) (suc j)
    passed own = record {
      some = some;
      all = λ i from e less below writes. either i from e less writes (split i below) (first_of_two (reverse calls) j);
      below = λ from e. first from e (first_of_two (reverse calls) j);
    }
      where
        reversed : slice_get (reverse (j ∷ calls)) 0 ≡ slice_get (reverse calls ++ j ∷ []) 0
        reversed = ap (λ (l : List ℕ). slice_get l 0) (reverse-append (j ∷ []) calls)

        Of : ℕ → Type 0
        Of i = (from : ℕ) × (slice_get (reverse (j ∷ calls)) 0 ≡ Some from) × (from ≤ i) × (i < suc j) × Writes i

        newest : (o : Option ℕ) → slice_get (reverse calls) 0 ≡ o → (slice_get (reverse calls) 0 ≡ None) × (slice_get (reverse calls ++ j ∷ []) 0 ≡ Some j) ⊎ (slice_get (reverse calls ++ j ∷ []) 0 ≡ slice_get (reverse calls) 0) → Of j
        newest o e (inl none) = (j, reversed ∙ none.1, omega arith, omega arith, own)
        newest (Some from) e (inr same) = let less = h.below from e in (from, reversed ∙ same ∙ e, omega (arith, less), omega arith, own)
        newest None e (inr same) = empty (reverse calls) refl
          where
            empty : (l : List ℕ) → l ≡ reverse calls → Of j
            empty [] is = (j, reversed ∙ ap (λ (l : List ℕ). slice_get (l ++ j ∷ []) 0) (sym is), omega arith, omega arith, own)
            empty (x ∷ l) is = let not : Some x ≡ None = ap (λ (l : List ℕ). slice_get l 0) is ∙ e in cc

        some : (i : ℕ) → In (j ∷ calls) i → Of i
        some i (zero, e) = let same : j ≡ i = cc in subst Of same (newest (slice_get (reverse calls) 0) refl (first_of_two (reverse calls) j))
        some i (suc k, e) = later (h.some i (k, e)) (first_of_two (reverse calls) j)
          where
            later : (from : ℕ) × (slice_get (reverse calls) 0 ≡ Some from) × (from ≤ i) × (i < j) × Writes i
                → (slice_get (reverse calls) 0 ≡ None) × (slice_get (reverse calls ++ j ∷ []) 0 ≡ Some j) ⊎ (slice_get (reverse calls ++ j ∷ []) 0 ≡ slice_get (reverse calls) 0) → Of i
            later (from, is, less, below, writes) (inl none) = let not : None ≡ Some from = sym none.0 ∙ is in cc
            later (from, is, less, below, writes) (inr same) = (from, reversed ∙ same ∙ is, less, omega (arith, below), writes)

        either : (i from : ℕ) → slice_get (reverse (j ∷ calls)) 0 ≡ Some from → from ≤ i → Writes i → (i < j) ⊎ (i ≡ j)
            → (slice_get (reverse calls) 0 ≡ None) × (slice_get (reverse calls ++ j ∷ []) 0 ≡ Some j) ⊎ (slice_get (reverse calls ++ j ∷ []) 0 ≡ slice_get (reverse calls) 0) → In (j ∷ calls) i
        either i from e less writes (inr same) two = (zero, ap (λ (n : ℕ). Some n) (sym same))
        either i from e less writes (inl below) (inl none) =
            let first : Some j ≡ Some from = sym none.1 ∙ sym reversed ∙ e in
            let same : j ≡ from = cc in
            absurd (omega (arith, same, less, below))
        either i from e less writes (inl below) (inr same) =
            let old = h.all i from (sym same ∙ sym reversed ∙ e) less below writes in
            (suc old.0, old.1)

        first : (from : ℕ) → slice_get (reverse (j ∷ calls)) 0 ≡ Some from
            → (slice_get (reverse calls) 0 ≡ None) × (slice_get (reverse calls ++ j ∷ []) 0 ≡ Some j) ⊎ (slice_get (reverse calls ++ j ∷ []) 0 ≡ slice_get (reverse calls) 0) → from < suc j
        first from e (inl none) =
            let is : Some j ≡ Some from = sym none.1 ∙ sym reversed ∙ e in
            let same : j ≡ from = cc in
            omega (arith, same)
        first from e (inr same) = let less = h.below from (sym same ∙ sym reversed ∙ e) in omega (arith, less)

    one_more : (c : Option ContentChange) → change_in (slice_get receipts j) key ≡ c → AreFrom (noted j c calls) (suc j)
    one_more None e = unchanged e
    one_more (Some (change.Sum amount)) e = passed (ap is_some e)
    one_more (Some (change.Value value)) e = hidden (ap is_some e)
    one_more (Some change.Gone) e = hidden (ap is_some e)

  named_are : (j : ℕ) → AreFrom (writers_named receipts key j) j
  named_are zero = subst (λ (l : List ℕ). AreFrom l zero) (sym (named_none receipts key)) no_calls
  named_are (suc j) = subst (λ (l : List ℕ). AreFrom l (suc j)) (sym (named_more receipts key j)) (one_more j (writers_named receipts key j) (named_are j) (change_in (slice_get receipts j) key) refl)

  -- ---- the writers of a key

  abbrev WritesIn : List Receipt → ℕ → Type 0
  WritesIn xs i = is_some (change_in (slice_get xs i) key) ≡ true

  abbrev Place : ℕ → List Receipt → ℕ → Type 0
  Place n xs i = (m : ℕ) × (i ≡ n + m) × WritesIn xs m

  one_in : (n : ℕ) (y : Receipt) (b : Bool) (i : ℕ) → In (cond b (n ∷ []) []) i → (i ≡ n) × (b ≡ true)
  one_in n y true i (zero, e) = let same : n ≡ i = cc in (sym same, refl)
  one_in n y true i (suc k, e) = cc
  one_in n y false i (k, e) = cc

  of_writers : (n : ℕ) (xs : List Receipt) (i : ℕ) → In (writers_from n xs key) i → Place n xs i
  of_writers n [] i h = none_in i h
  of_writers n (y ∷ ys) i h = onward (of_writers (n + 1) ys i) (in_either (one_writer key n y) (writers_from (n + 1) ys key) i (subst (λ (l : List ℕ). In l i) (writer_first key n y ys) h))
    where
      onward : (In (writers_from (n + 1) ys key) i → Place (n + 1) ys i) → In (one_writer key n y) i ⊎ In (writers_from (n + 1) ys key) i → Place n (y ∷ ys) i
      onward further (inl own) = let is = one_in n y (is_some (change_in (Some y) key)) i own in (zero, omega (arith, is.0), is.1)
      onward further (inr rest) = let from = further rest in (suc from.0, omega (arith, from.1), from.2)

  in_writers : (n : ℕ) (xs : List Receipt) (m : ℕ) → WritesIn xs m → In (writers_from n xs key) (n + m)
  in_writers n [] m writes = cc
  in_writers n (y ∷ ys) zero writes =
      subst (λ (l : List ℕ). In l (n + 0)) (sym (writer_first key n y ys)) (in_left (one_writer key n y) (writers_from (n + 1) ys key) (n + 0)
      (subst (λ (b : Bool). In (cond b (n ∷ []) []) (n + 0)) (sym writes) (zero, ap (λ (k : ℕ). Some k) (omega arith))))
  in_writers n (y ∷ ys) (suc m) writes =
      subst (λ (l : List ℕ). In l (n + suc m)) (sym (writer_first key n y ys)) (in_right (one_writer key n y) (writers_from (n + 1) ys key) (n + suc m)
      (subst (In (writers_from (n + 1) ys key)) (omega arith) (in_writers (n + 1) ys m writes)))

-- ---- the keys at which some call waits

kept_in : (q : List ℕ) (ws : List Wait) (m : Keys) → finite.contains_key m q ≡ true → finite.contains_key (fold (λ keys wait. finite.insert keys wait.key tt) m ws) q ≡ true
kept_in q [] m h = h
kept_in q (wait ∷ ws) m h = kept_in q ws (finite.insert m wait.key tt) (ap is_some (finite.get-insert nat_list_cmp_total m wait.key tt q) ∙ either (eq_by_cmp key_cmp q wait.key))
  where
    either : (b : Bool) → is_some (cond b (Some tt) (finite.get m q)) ≡ true
    either true = refl
    either false = h

waited_in : (ws : List Wait) (m : Keys) (wait : Wait) → In ws wait → finite.contains_key (fold (λ keys wait. finite.insert keys wait.key tt) m ws) wait.key ≡ true
waited_in [] m wait h = none_in wait h
waited_in (first ∷ ws) m wait (zero, e) =
    let same : first ≡ wait = cc in
    kept_in wait.key ws (finite.insert m first.key tt)
    (ap is_some (finite.get-insert nat_list_cmp_total m first.key tt wait.key)
    ∙ ap (λ (w : Wait). is_some (cond (eq_by_cmp key_cmp wait.key w.key) (Some tt) (finite.get m wait.key))) same
    ∙ ap (λ (b : Bool). is_some (cond b (Some tt) (finite.get m wait.key))) ((eq_by_cmp_equiv nat_list_cmp_total).refl wait.key))
waited_in (first ∷ ws) m wait (suc k, e) = waited_in ws (finite.insert m first.key tt) wait (k, e)

any_in : (q : List ℕ) (keys : List (List ℕ)) → list_any (eq_by_cmp key_cmp q) keys ≡ true → In keys q
any_in q [] h = cc
any_in q (key ∷ keys) h =
    elim (eq_by_cmp key_cmp q key) as (λ b. eq_by_cmp key_cmp q key ≡ b → (b || list_any (eq_by_cmp key_cmp q) keys) ≡ true → In (key ∷ keys) q) [
      | true ↦ λ same _. (zero, ap (λ (k : List ℕ). Some k) (sym (key_cmp-IsAntisymmetric q key (tied (key_cmp q key) same))))
      | false ↦ λ _ later. let rest = any_in q keys later in (suc rest.0, rest.1)
    ] refl h

-- ---- both

module _ (block : List Invocation) (store : Storage) (j i : ℕ) (key : List ℕ) where
  abbrev receipts : List Receipt
  receipts = receipts_of block store

  abbrev keys : List (List ℕ)
  keys = finite.keys (keys_read_by (slice_get block j) (store_before block j store))

  abbrev wait : Wait
  wait = record { writer = i; key = key }

  abbrev Range : Option ℕ → Type 0
  Range o = slice_get (range_with_len 0 (length block)) j ≡ o

  call_at : {V : Type 0} (f : ℕ → V) (o : Option ℕ) → Range o → slice_get (map f (range_with_len 0 (length block))) j ≡ option_map f o
  call_at f o e = slice_get-map f (range_with_len 0 (length block)) j ∙ ap (option_map f) e

  abbrev hot : HotKeyView
  hot = hot_key_of receipts (calls_of block store) key

  hot_in : In (calls_of block store) (call_view_of block store j) → In (waits_of block store j) wait → In (keys_of_calls block store) hot
  hot_in call is =
      let waits = in_flat (λ (c : CallView). c.waits) (calls_of block store) (call_view_of block store j) wait call is in
      let has = waited_in (all_waits (calls_of block store)) finite.empty wait waits in
      in_map (hot_key_of receipts (calls_of block store)) (finite.keys (keys_waited (calls_of block store))) key
      (any_in key (finite.keys (keys_waited (calls_of block store))) (sym (finite.contains_key-keys (keys_waited (calls_of block store)) key) ∙ has))

  abbrev Named : Type 0
  Named = IsNamed (calls_by_key block store) (keys_of_calls block store) j i key

  from_zero : 0 + i ≡ i
  from_zero = omega arith

  on_line : (slice_get (calls_by_key block store) j ≡ Some (call_by_key block store j)) → (from : ℕ) → In (key_waits_of block store j) (record { from = from; key = key })
      → In (key_waits_in_call (slice_get (calls_by_key block store) j)) (record { from = from; key = key })
  on_line line from (k, e) = (k, ap (λ (c : Option CallByKey). slice_get (key_waits_in_call c) k) line ∙ e)

  to_lines : (In (calls_of block store) (call_view_of block store j)) → (slice_get (calls_by_key block store) j ≡ Some (call_by_key block store j)) → In (waits_of block store j) wait → Named
  to_lines call line is =
      let at = from_one (waits_at receipts j) keys wait is in
      let own = of_for at.0 (writers_named receipts at.0 j) i key at.2 in
      let named = (named_are receipts key j).some i (subst (λ (k : List ℕ). In (writers_named receipts k j) i) own.0 own.1) in
      let there : In keys key = subst (In keys) own.0 at.1 in
      let waits = in_flat (key_waits_at receipts j) keys key (record { from = named.0; key = key }) there (key_in key (earliest_named receipts key j) named.0 named.1) in
      record {
        from = named.0;
        hot = hot;
        wait = on_line line named.0 waits;
        writers = hot_in call is;
        key_is = refl;
        writer = subst (In (calls_changing receipts key)) from_zero (in_writers receipts key 0 receipts i named.4);
        behind = named.2;
        below = named.3;
      }

  from_lines : (slice_get (calls_by_key block store) j ≡ Some (call_by_key block store j)) → Named → In (waits_of block store j) wait
  from_lines line h =
      let at = from_one (key_waits_at receipts j) keys (record { from = h.from; key = key }) (h.wait.0, ap (λ (c : Option CallByKey). slice_get (key_waits_in_call c) h.wait.0) (sym line) ∙ h.wait.1) in
      let own = of_key at.0 (earliest_named receipts at.0 j) h.from key at.2 in
      let there : In keys key = subst (In keys) own.0 at.1 in
      let first : earliest_named receipts key j ≡ Some h.from = ap (λ (k : List ℕ). earliest_named receipts k j) (sym own.0) ∙ own.1 in
      let found = from_map (hot_key_of receipts (calls_of block store)) (finite.keys (keys_waited (calls_of block store))) h.hot h.writers in
      let same : found.0 ≡ key = ap (λ (k : HotKeyView). k.key) found.2 ∙ h.key_is in
      let writers : h.hot.writers ≡ calls_changing receipts key = sym (ap (λ (k : HotKeyView). k.writers) found.2) ∙ ap (calls_changing receipts) same in
      let place = of_writers receipts key 0 receipts i (subst (λ (l : List ℕ). In l i) writers h.writer) in
      let at_i : i ≡ place.0 = omega (arith, place.1) in
      let writes = subst (λ (n : ℕ). is_some (change_in (slice_get receipts n) key) ≡ true) (sym at_i) place.2 in
      in_flat (waits_at receipts j) keys key wait there (for_in key (writers_named receipts key j) i ((named_are receipts key j).all i h.from first h.behind h.below writes))

  -- a call that is not there
  no_lines : Range None → Named → WaitsAt (calls_of block store) j i key
  no_lines e h =
      let none = ap (λ (c : Option CallByKey). slice_get (key_waits_in_call c) h.wait.0) (call_at (call_by_key block store) None e) in
      let line : KeyWaits = record { from = h.from; key = key } in
      let not : None ≡ Some line = sym none ∙ h.wait.1 in
      cc

  no_waits : Range None → WaitsAt (calls_of block store) j i key → Named
  no_waits e (k, is) =
      let none = ap (λ (c : Option CallView). slice_get (waits_in_call c) k) (call_at (call_view_of block store) None e) in
      let not : None ≡ Some wait = sym none ∙ is in
      cc

  by_place : (Range None) ⊎ (Range (Some (0 + j))) → WaitsAt (calls_of block store) j i key ↔ Named
  by_place (inl e) = (no_waits e, no_lines e)
  by_place (inr e) =
      let call : slice_get (calls_of block store) j ≡ Some (call_view_of block store j) = call_at (call_view_of block store) (Some (0 + j)) e ∙ ap (λ (n : ℕ). Some (call_view_of block store n)) (omega arith) in
      let line : slice_get (calls_by_key block store) j ≡ Some (call_by_key block store j) = call_at (call_by_key block store) (Some (0 + j)) e ∙ ap (λ (n : ℕ). Some (call_by_key block store n)) (omega arith) in (
        λ h. to_lines (j, call) line (h.0, ap (λ (c : Option CallView). slice_get (waits_in_call c) h.0) (sym call) ∙ h.1),
        λ h. let is = from_lines line h in (is.0, ap (λ (c : Option CallView). slice_get (waits_in_call c) is.0) call ∙ is.1),
      )

  pub lines_name : WaitsAt (calls_of block store) j i key ↔ Named
  lines_name = by_place (at_index 0 (length block) j)
