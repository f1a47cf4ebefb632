-- What a map has after an entry was changed, or writes were applied to a storage, and which keys a run must move.
use Rattle.std.proofs.Common.{◌≡◌, ◌≢◌, ◌&&◌, ◌||◌, ℕ, Bool, true, false, not, cond, T, is_some, option_map, fold, map, List, [], ◌∷◌, ◌++◌, Option, None, Some, refl, sym, ap, ◌∙◌, inl, inr}
use Rattle.std.specs.declared.cmp.Ordering.{Ordering}
use Rattle.std.specs.declared.cmp.Ordering.TheVariants.{Less, Equal, Greater}
use Rattle.std.specs.Ordering.{ordering_then, is_eq, is_lt, eq_by_cmp}
use Rattle.std.specs.Cmp.{eq_by_cmp_equiv, nat_cmp_total, tied_itself}
use Rattle.std.specs.Cmp.Lexicographic.{nat_list_cmp_total}
use Rattle.std.specs.List.{AllByRecursion, list_any, filter}
use Rattle.std.specs.FinMap.{FinMap, get, entries, entries_sorted, get-entries, get-insert, get-remove, contains_key, contains_key-keys, find, is_sorted}
use Rattle.std.specs.FinMap.Entries.{below_all}
use Rattle.std.proofs.lemmas.Bool.{or_parts}
use Rattle.std.proofs.lemmas.List.Folds.{list_any-append}
use Rattle.std.proofs.lemmas.Map.Lookups.{exact_bytes}
use Rattle.std.proofs.lemmas.Map.Views.{tells_apart}
use Rattle.rv_ledger.specs.Change.{Content, ContentChange, add, apply_change}
use Rattle.rv_ledger.specs.declared.change.Change.TheVariants as change
use Rattle.std.proofs.Math.Facts.{and_yes}
use Rattle.rv_ledger.specs.Key.{Storage, WriteMap, key_cmp}
use Rattle.rv_ledger.proofs.SortedKeys.{less}
use Rattle.rv_ledger.specs.Applied.{apply_writes, apply_write}
use Rattle.mvmap.specs.Versions.{Entry, Stands, Estimate, Place, Versions, changed, place_cmp}
use Rattle.mvmap.proofs.Places.{get_changed, get_other}
use Rattle.stm_state.specs.declared.state.Recorded.{Recorded}
use Rattle.stm_state.specs.Steps.{written_by, left_over, wrote, has_new_key, keys_of, keys_to_move, write_of}
use Rattle.stm_state.specs.Parts.{has_key}
use Rattle.stm_state.proofs.Invariant.{AreDistinct}

-- ---- each entry of a map is what the map has at its key

-- an entry is still found after a lower key is put before it
found_later : {X : Type 0} (e : List ℕ × X) (es xs : List (List ℕ × X)) → T (below_all key_cmp e.0 xs) → AllByRecursion (λ x. find key_cmp x.0 es ≡ Some x.1) xs → AllByRecursion (λ x. find key_cmp x.0 (e ∷ es) ≡ Some x.1) xs
found_later e es [] h k = tt
found_later e es (x ∷ xs) h k =
    let both = and_yes (is_lt (key_cmp e.0 x.0)) (below_all key_cmp e.0 xs) h in
    let below : key_cmp e.0 x.0 ≡ Less = less (key_cmp e.0 x.0) both.0 in
    let other : eq_by_cmp key_cmp x.0 e.0 ≡ false = (eq_by_cmp_equiv nat_list_cmp_total).symm x.0 e.0 ∙ ap is_eq below in
    (ap (λ b. cond b (Some e.1) (find key_cmp x.0 es)) other ∙ k.0, found_later e es xs both.1 k.1)

-- each entry of a list in order is found at its key
found_each : {X : Type 0} (es : List (List ℕ × X)) → T (is_sorted key_cmp es) → AllByRecursion (λ x. find key_cmp x.0 es ≡ Some x.1) es
found_each [] h = tt
found_each (e ∷ es) h = let both = and_yes (below_all key_cmp e.0 es) (is_sorted key_cmp es) h in (
  ap (λ o. cond (is_eq o) (Some e.1) (find key_cmp e.0 es)) (tied_itself nat_list_cmp_total e.0),
  found_later e es es both.0 (found_each es both.1),
)

-- what follows for one element follows for all
all_map : {X : Type 0} (P Q : X → Type 0) → ((x : X) → P x → Q x) → (xs : List X) → AllByRecursion P xs → AllByRecursion Q xs
all_map P Q f [] h = tt
all_map P Q f (x ∷ xs) h = (f x h.0, all_map P Q f xs h.1)

-- a map has each of its entries at its key
pub entries_found : {X : Type 0} (m : FinMap key_cmp X) → AllByRecursion (λ e. get m e.0 ≡ Some e.1) (entries m)
entries_found m = all_map (λ e. find key_cmp e.0 (entries m) ≡ Some e.1) (λ e. get m e.0 ≡ Some e.1) (λ e h. get-entries m e.0 ∙ h) (entries m) (found_each (entries m) (entries_sorted m))

-- ---- keys of writes

-- some write is at a key
abbrev pub at_key : {X : Type 0} → List ℕ → List (List ℕ × X) → Bool
at_key key es = list_any (eq_by_cmp key_cmp key) (map (λ e. e.0) es)

-- keys that compare as equal are equal
pub same_key : (key k : List ℕ) → eq_by_cmp key_cmp key k ≡ true → key ≡ k
same_key key k h = tells_apart exact_bytes key k h

-- among the writes whose keys pass a test, one is at a key exactly if the key passes the test and some write is at it
at_key_filter : {X : Type 0} (p : List ℕ → Bool) (key : List ℕ) (es : List (List ℕ × X)) → at_key key (filter (λ e. p e.0) es) ≡ (p key && at_key key es)
at_key_filter p key [] = none (p key)
  where
    none : (b : Bool) → false ≡ (b && false)
    none true = refl
    none false = refl
at_key_filter {X} p key (e ∷ es) = go (at_key_filter p key es) (p e.0) refl (eq_by_cmp key_cmp key e.0) refl (p key) refl
  where
    go : at_key key (filter (λ e. p e.0) es) ≡ (p key && at_key key es) → (a : Bool) → p e.0 ≡ a → (b : Bool) → eq_by_cmp key_cmp key e.0 ≡ b → (c : Bool) → p key ≡ c
        → at_key key (cond a (e ∷ filter (λ e. p e.0) es) (filter (λ e. p e.0) es)) ≡ (c && (b || at_key key es))
    go rest true ha true hb true hc = ap (λ t. t || at_key key (filter (λ e. p e.0) es)) hb
    go rest true ha true hb false hc = let one : p key ≡ p e.0 = ap p (same_key key e.0 hb) in cc
    go rest true ha false hb c hc = ap (λ t. t || at_key key (filter (λ e. p e.0) es)) hb ∙ rest ∙ ap (λ t. t && at_key key es) hc
    go rest false ha true hb true hc = let one : p key ≡ p e.0 = ap p (same_key key e.0 hb) in cc
    go rest false ha true hb false hc = rest ∙ ap (λ t. t && at_key key es) hc
    go rest false ha false hb c hc = rest ∙ ap (λ t. t && at_key key es) hc

-- if no write's key passes a test, a key that some write is at does not pass it
at_key_none : {X : Type 0} (p : List ℕ → Bool) (key : List ℕ) (es : List (List ℕ × X)) → list_any (λ e. p e.0) es ≡ false → at_key key es ≡ true → p key ≡ false
at_key_none p key [] h k = cc
at_key_none p key (e ∷ es) h k =
    let both = or_parts (p e.0) (list_any (λ x. p x.0) es) h in
    go (at_key_none p key es both.1) (eq_by_cmp key_cmp key e.0) refl k both.0
  where
    go : (at_key key es ≡ true → p key ≡ false) → (b : Bool) → eq_by_cmp key_cmp key e.0 ≡ b → (b || at_key key es) ≡ true → p e.0 ≡ false → p key ≡ false
    go rest true hb h2 h3 = ap p (same_key key e.0 hb) ∙ h3
    go rest false hb h2 h3 = rest h2

-- ---- the versions with one entry changed

-- a change at one writer's place leaves the other writers' entries
pub changed_other : (v : Versions) (k : List ℕ) (i : ℕ) (o : Option Entry) (key : List ℕ) (j : ℕ) → j ≢ i → get (changed v (k, i) o) (key, j) ≡ get v (key, j)
changed_other v k i o key j ne = elim (get_other v (k, i) o (key, j)) [ inl p ↦ p | inr q ↦ absurd (ne (ap (λ (p : Place). p.1) q)) ]

-- a comparison with `Equal` after it stays the same
then_equal : (o : Ordering) → ordering_then o Equal ≡ o
then_equal Less = refl
then_equal Equal = refl
then_equal Greater = refl

-- places of one writer are equal exactly if their keys are
one_writer : (key k : List ℕ) (i : ℕ) → eq_by_cmp place_cmp (key, i) (k, i) ≡ eq_by_cmp key_cmp key k
one_writer key k i = ap is_eq (ap (ordering_then (key_cmp key k)) (tied_itself nat_cmp_total i) ∙ then_equal (key_cmp key k))

-- the entry of that writer at a key afterwards
pub changed_at : (v : Versions) (k : List ℕ) (i : ℕ) (o : Option Entry) (key : List ℕ) → get (changed v (k, i) o) (key, i) ≡ cond (eq_by_cmp key_cmp key k) o (get v (key, i))
changed_at v k i o key = get_changed v (k, i) o (key, i) ∙ ap (λ b. cond b o (get v (key, i))) (one_writer key k i)

-- ---- the keys that a record must move

-- some write of the last run is at a key exactly if the run has a write there
pub at_key_last : (key : List ℕ) (last : Option Recorded) → at_key key (written_by last) ≡ is_some (write_of last key)
at_key_last key None = refl
at_key_last key (Some run) = sym (contains_key-keys run.receipt.writes key)

-- a key is withdrawn exactly if the last run wrote it and this one did not
left_at : (key : List ℕ) (last : Option Recorded) (writes : WriteMap) → at_key key (left_over last writes) ≡ (not (is_some (get writes key)) && is_some (write_of last key))
left_at key last writes = at_key_filter (λ k. not (contains_key writes k)) key (written_by last) ∙ ap (λ b. not (is_some (get writes key)) && b) (at_key_last key last)

-- the keys that a run must move are those that it or the last run wrote
pub to_move : (key : List ℕ) (last : Option Recorded) (writes : WriteMap) → has_key key (keys_to_move last writes) ≡ (is_some (get writes key) || (not (is_some (get writes key)) && is_some (write_of last key)))
to_move key last writes =
    list_any-append (eq_by_cmp key_cmp key) (keys_of (entries writes)) (keys_of (left_over last writes))
    ∙ ap (λ b. b || at_key key (left_over last writes)) (sym (contains_key-keys writes key))
    ∙ ap (λ b. is_some (get writes key) || b) (left_at key last writes)

-- the first key of a list in order is not among the later ones
not_above : {X : Type 0} (e : List ℕ × X) (es : List (List ℕ × X)) → T (below_all key_cmp e.0 es) → at_key e.0 es ≡ false
not_above e [] h = refl
not_above e (x ∷ es) h =
    let both = and_yes (is_lt (key_cmp e.0 x.0)) (below_all key_cmp e.0 es) h in
    ap (λ b. b || at_key e.0 es) (ap is_eq (less (key_cmp e.0 x.0) both.0)) ∙ not_above e es both.1

-- so the keys of a list in order are distinct
distinct_in_order : {X : Type 0} (es : List (List ℕ × X)) → T (is_sorted key_cmp es) → AreDistinct (map (λ e. e.0) es)
distinct_in_order [] h = tt
distinct_in_order (e ∷ es) h = let both = and_yes (below_all key_cmp e.0 es) (is_sorted key_cmp es) h in (not_above e es both.0, distinct_in_order es both.1)

and_false : (a : Bool) → (a && false) ≡ false
and_false true = refl
and_false false = refl

-- keys that pass a test stay distinct
distinct_filter : {X : Type 0} (p : List ℕ → Bool) (es : List (List ℕ × X)) → AreDistinct (map (λ e. e.0) es) → AreDistinct (map (λ e. e.0) (filter (λ e. p e.0) es))
distinct_filter p [] h = tt
distinct_filter {X} p (e ∷ es) h = go (distinct_filter p es h.1) (p e.0)
  where
    go : AreDistinct (map (λ x. x.0) (filter (λ x. p x.0) es)) → (b : Bool) → AreDistinct (map (λ x. x.0) (cond b (e ∷ filter (λ x. p x.0) es) (filter (λ x. p x.0) es)))
    go rest true = (at_key_filter p e.0 es ∙ ap (λ t. p e.0 && t) h.0 ∙ and_false (p e.0), rest)
    go rest false = rest

pub or_true : (a b : Bool) → b ≡ true → (a || b) ≡ true
or_true true b h = refl
or_true false b h = h

-- two lists of distinct keys that share none are distinct together
distinct_append : (xs ys : List (List ℕ)) → AreDistinct xs → AreDistinct ys → ((key : List ℕ) → has_key key xs ≡ true → has_key key ys ≡ false) → AreDistinct (xs ++ ys)
distinct_append [] ys hx hy apart = hy
distinct_append (x ∷ xs) ys hx hy apart = (
  list_any-append (eq_by_cmp key_cmp x) xs ys ∙ ap (λ b. b || has_key x ys) hx.0 ∙ apart x (ap (λ b. b || has_key x xs) (ap is_eq (tied_itself nat_list_cmp_total x))),
  distinct_append xs ys hx.1 hy (λ key h. apart key (or_true (eq_by_cmp key_cmp key x) (has_key key xs) h)),
)

-- the keys that only the last run wrote are distinct
distinct_left : (last : Option Recorded) (writes : WriteMap) → AreDistinct (keys_of (left_over last writes))
distinct_left None writes = tt
distinct_left (Some run) writes = distinct_filter (λ k. not (contains_key writes k)) (entries run.receipt.writes) (distinct_in_order (entries run.receipt.writes) (entries_sorted run.receipt.writes))

-- the keys that a run must move are distinct
pub distinct_to_move : (last : Option Recorded) (writes : WriteMap) → AreDistinct (keys_to_move last writes)
distinct_to_move last writes =
    distinct_append (keys_of (entries writes)) (keys_of (left_over last writes)) (distinct_in_order (entries writes) (entries_sorted writes)) (distinct_left last writes)
    (λ key h. left_at key last writes ∙ ap (λ b. not b && is_some (write_of last key)) (contains_key-keys writes key ∙ h))

-- if a run wrote a key, it has a write there
wrote_says : (last : Option Recorded) (key : List ℕ) → not (wrote last key) ≡ false → is_some (write_of last key) ≡ true
wrote_says None key h = cc
wrote_says (Some run) key h = go (is_some (get run.receipt.writes key)) h
  where
    go : (b : Bool) → not b ≡ false → b ≡ true
    go true h = refl
    go false h = cc

-- a run without a new key wrote only at keys of the last run
pub no_new_key : (last : Option Recorded) (writes : WriteMap) (key : List ℕ) → has_new_key last writes ≡ false → is_some (get writes key) ≡ true → is_some (write_of last key) ≡ true
no_new_key last writes key none there =
    wrote_says last key (at_key_none (λ k. not (wrote last k)) key (entries writes) none (sym (contains_key-keys writes key) ∙ there))

-- ---- entries by what a run wrote

-- a version made from what a run wrote is at its incarnation, and the run wrote its change
pub version_is : (o : Option ContentChange) (m n : ℕ) (x : ContentChange) → option_map (λ c. Stands m c) o ≡ Some (Stands n x) → (n ≡ m) × (o ≡ Some x)
version_is None m n x h = cc
version_is (Some c) m n x h = (cc, let same : c ≡ x = cc in ap Some same)

-- an estimate is not a version
pub no_version : (o : Option ContentChange) (n : ℕ) (x : ContentChange) → option_map (λ c. Estimate) o ≡ Some (Stands n x) → ⊥
no_version None n x h = cc
no_version (Some c) n x h = cc

-- ---- writes applied to a storage

-- what a key has after a change, if there is one
abbrev pub content_after : Option ContentChange → Content → Content
content_after None old = old
content_after (Some c) old = apply_change c old

chosen : (k key : List ℕ) (store : Storage) (amount : ℕ) (b : Bool) → (b ≡ true → key ≡ k) → cond b (Some (add (get store k) amount)) (get store key) ≡ cond b (Some (add (get store key) amount)) (get store key)
chosen k key store amount true same = ap (λ q. Some (add (get store q) amount)) (sym (same refl))
chosen k key store amount false same = refl

-- what a storage has at a key after one write
get_applied : (store : Storage) (k : List ℕ) (c : ContentChange) (key : List ℕ) → get (apply_write store k c) key ≡ cond (eq_by_cmp key_cmp key k) (apply_change c (get store key)) (get store key)
get_applied store k (change.Value value) key = get-insert nat_list_cmp_total store k value key
get_applied store k change.Gone key = get-remove nat_list_cmp_total store k key
get_applied store k (change.Sum amount) key =
    get-insert nat_list_cmp_total store k (add (get store k) amount) key ∙ chosen k key store amount (eq_by_cmp key_cmp key k) (same_key key k)

-- the change at a key among some writes, of which at most one is at that key
abbrev change_at : List ℕ → List (List ℕ × ContentChange) → Option ContentChange
change_at key [] = None
change_at key (e ∷ es) = cond (eq_by_cmp key_cmp key e.0) (Some e.1) (change_at key es)

none_at : (key : List ℕ) (es : List (List ℕ × ContentChange)) → at_key key es ≡ false → change_at key es ≡ None
none_at key [] h = refl
none_at key (e ∷ es) h = let both = or_parts (eq_by_cmp key_cmp key e.0) (at_key key es) h in ap (λ b. cond b (Some e.1) (change_at key es)) both.0 ∙ none_at key es both.1

-- a storage after writes with distinct keys
applied_all : (es : List (List ℕ × ContentChange)) (store : Storage) (key : List ℕ) → AreDistinct (map (λ e. e.0) es) → get (fold (λ before write. apply_write before write.0 write.1) store es) key ≡ content_after (change_at key es) (get store key)
applied_all [] store key distinct = refl
applied_all (e ∷ es) store key distinct =
    applied_all es (apply_write store e.0 e.1) key distinct.1
    ∙ ap (content_after (change_at key es)) (get_applied store e.0 e.1 key)
    ∙ go (eq_by_cmp key_cmp key e.0) refl
  where
    go : (b : Bool) → eq_by_cmp key_cmp key e.0 ≡ b → content_after (change_at key es) (cond b (apply_change e.1 (get store key)) (get store key)) ≡ content_after (cond b (Some e.1) (change_at key es)) (get store key)
    go true h = ap (λ o. content_after o (apply_change e.1 (get store key))) (ap (λ k. change_at k es) (same_key key e.0 h) ∙ none_at e.0 es distinct.0)
    go false h = refl

found_change : (key : List ℕ) (es : List (List ℕ × ContentChange)) → change_at key es ≡ find key_cmp key es
found_change key [] = refl
found_change key (e ∷ es) = ap (cond (eq_by_cmp key_cmp key e.0) (Some e.1)) (found_change key es)

-- after some writes, a storage has at a key what the key's change makes of the content before
pub applied_get : (store : Storage) (writes : WriteMap) (key : List ℕ) → get (apply_writes store writes) key ≡ content_after (get writes key) (get store key)
unfolding apply_writes
applied_get store writes key =
    applied_all (entries writes) store key (distinct_in_order (entries writes) (entries_sorted writes))
    ∙ ap (λ o. content_after o (get store key)) (found_change key (entries writes) ∙ sym (get-entries writes key))
