-- The changes of a block once all its sums are known.
use Rattle.std.proofs.Common.{◌≡◌, ◌<◌, ◌≤◌, ℕ, zero, suc, Bool, true, false, cond, T, List, [], ◌∷◌, map, length, slice_get, Option, None, Some, IsSome, refl, sym, ap, subst, ◌∙◌, arith}
use Rattle.std.specs.FinMap.{find, get, entries, entries_sorted, get-entries, contains_key, contains_key-keys, is_sorted}
use Rattle.std.specs.FinMap.Entries.{below_all}
use Rattle.std.specs.Cmp.{eq_by_cmp_equiv}
use Rattle.std.specs.Cmp.Lexicographic.{nat_list_cmp_total}
use Rattle.std.specs.List.{AllByRecursion, Contains}
use Rattle.std.specs.List.Sorted.{IsStrictlySortedBy}
use Rattle.std.specs.Map.{keys_of}
use Rattle.std.specs.Ordering.{eq_by_cmp, is_lt}
use Rattle.std.specs.declared.cmp.Ordering.TheVariants.{Less}
use Rattle.std.proofs.Math.Facts.{and_yes}
use Rattle.std.proofs.lemmas.Map.Views.{list_any-from_Contains}
use Rattle.overlay.proofs.WithChanges.{content_or, get_with_contents, same_at_all}
use Rattle.overlay.specs.Overlay.{Changes, with_contents}
use Rattle.rv_ledger.proofs.SortedKeys.{less}
use Rattle.rv_ledger.specs.Applied.{apply_writes}
use Rattle.rv_ledger.specs.Change.{Content, ContentChange, add, apply_change}
use Rattle.rv_ledger.specs.Entries.{AreAscending}
use Rattle.rv_ledger.specs.Key.{Storage, WriteMap, key_cmp}
use Rattle.rv_ledger.specs.declared.change.Change.TheVariants as change
use Rattle.stm_state.proofs.Writes.{applied_get, content_after}
use Rattle.host_block.specs.Changes.{Agrees, listed_changes, resolved}
use Rattle.host_block.specs.Ordered.{AreSumsKnown, sum_keys}
use Rattle.host_block.proofs.Changing.{same_key}

abbrev Entries : Type 0
Entries = List (List ℕ × ContentChange)

-- the place of a sum's key among the keys of sums
abbrev IsPlaced : List (List ℕ) → List ℕ → Type 0
IsPlaced keys q = (k : ℕ) × (k < length keys) × (slice_get keys k ≡ Some q)

later : (key q : List ℕ) (keys : List (List ℕ)) → IsPlaced keys q → IsPlaced (key ∷ keys) q
later key q keys at = (suc at.0, omega (arith, at.1), at.2)

placed : (es : Entries) (q : List ℕ) (amount : ℕ) → find key_cmp q es ≡ Some (change.Sum amount) → IsPlaced (sum_keys es) q
placed [] q amount h = cc
placed ((key, c) ∷ es) q amount h = go (placed es q amount) c (eq_by_cmp key_cmp q key) refl h
  where
    go : (find key_cmp q es ≡ Some (change.Sum amount) → IsPlaced (sum_keys es) q) → (c : ContentChange) (b : Bool) → eq_by_cmp key_cmp q key ≡ b → cond (eq_by_cmp key_cmp q key) (Some c) (find key_cmp q es) ≡ Some (change.Sum amount) → IsPlaced (sum_keys ((key, c) ∷ es)) q
    go rest (change.Sum a) true e h = (zero, omega arith, ap Some (sym (same_key q key e)))
    go rest (change.Sum a) false e h = later key q (sum_keys es) (rest (sym (ap (λ b. cond b (Some (change.Sum a)) (find key_cmp q es)) e) ∙ h))
    go rest (change.Value v) true e h = let wrong : Some (change.Value v) ≡ Some (change.Sum amount) = sym (ap (λ b. cond b (Some (change.Value v)) (find key_cmp q es)) e) ∙ h in cc
    go rest (change.Value v) false e h = rest (sym (ap (λ b. cond b (Some (change.Value v)) (find key_cmp q es)) e) ∙ h)
    go rest change.Gone true e h = let wrong : Some change.Gone ≡ Some (change.Sum amount) = sym (ap (λ b. cond b (Some change.Gone) (find key_cmp q es)) e) ∙ h in cc
    go rest change.Gone false e h = rest (sym (ap (λ b. cond b (Some change.Gone) (find key_cmp q es)) e) ∙ h)

-- all sums are known if each of their keys is
pub sums_known : (bases : Changes) (changes : WriteMap) (keys : List (List ℕ)) (count : ℕ) → keys ≡ sum_keys (entries changes) → length keys ≤ count
    → ((k : ℕ) (key : List ℕ) → k < count → slice_get keys k ≡ Some key → IsSome (get bases key)) → AreSumsKnown changes bases
sums_known bases changes keys count is past known key amount h =
    let at = placed (entries changes) key amount (sym (get-entries changes key) ∙ h) in
    let within : at.0 < length keys = subst (λ ks. at.0 < length ks) (sym is) at.1 in
    known at.0 key (omega (arith, within, past)) (ap (λ ks. slice_get ks at.0) is ∙ at.2)

none_is : IsSome {T = Content} None → ⊥
none_is some = cc

-- a change over what is known is the change over what each such storage has
resolved_is : (c : ContentChange) (base : Option Content) (before : Content) → ((content : Content) → base ≡ Some content → before ≡ content)
    → ((amount : ℕ) → c ≡ change.Sum amount → IsSome base) → resolved c base ≡ apply_change c before
resolved_is (change.Value value) base before same known = refl
resolved_is change.Gone base before same known = refl
resolved_is (change.Sum amount) (Some content) before same known = ap (λ z. Some (add z amount)) (sym (same content refl))
resolved_is (change.Sum amount) None before same known = absurd (none_is (known amount refl))

abbrev pub list_of : Changes → Entries → List (List ℕ × Content)
list_of bases es = map (λ entry. (entry.0, resolved entry.1 (get bases entry.0))) es

found_content : (bases : Changes) (q : List ℕ) (before : Content) (es : Entries) → ((content : Content) → get bases q ≡ Some content → before ≡ content)
    → ((amount : ℕ) → find key_cmp q es ≡ Some (change.Sum amount) → IsSome (get bases q))
    → content_or (find key_cmp q (list_of bases es)) before ≡ content_after (find key_cmp q es) before
found_content bases q before [] same known = refl
found_content bases q before ((key, c) ∷ es) same known = go (found_content bases q before es same) (eq_by_cmp key_cmp q key) refl
  where
    go : (((amount : ℕ) → find key_cmp q es ≡ Some (change.Sum amount) → IsSome (get bases q)) → content_or (find key_cmp q (list_of bases es)) before ≡ content_after (find key_cmp q es) before) → (b : Bool) → eq_by_cmp key_cmp q key ≡ b → content_or (cond (eq_by_cmp key_cmp q key) (Some (resolved c (get bases key))) (find key_cmp q (list_of bases es))) before ≡ content_after (cond (eq_by_cmp key_cmp q key) (Some c) (find key_cmp q es)) before
    go rest true e =
        ap (λ b. content_or (cond b (Some (resolved c (get bases key))) (find key_cmp q (list_of bases es))) before) e
        ∙ ap (λ k. resolved c (get bases k)) (sym (same_key q key e))
        ∙ resolved_is c (get bases q) before same (λ amount is. known amount (ap (λ b. cond b (Some c) (find key_cmp q es)) e ∙ ap Some is))
        ∙ sym (ap (λ b. content_after (cond b (Some c) (find key_cmp q es)) before) e)
    go rest false e =
        ap (λ b. content_or (cond b (Some (resolved c (get bases key))) (find key_cmp q (list_of bases es))) before) e
        ∙ rest (λ amount is. known amount (ap (λ b. cond b (Some c) (find key_cmp q es)) e ∙ is))
        ∙ sym (ap (λ b. content_after (cond b (Some c) (find key_cmp q es)) before) e)

-- the listed changes lead to the storage with the changes
pub listed_leads : (bases : Changes) (changes : WriteMap) (store : Storage) → Agrees bases store → AreSumsKnown changes bases → with_contents store (listed_changes bases changes) ≡ apply_writes store changes
listed_leads bases changes store agrees known = same_at_all _ _ (λ q.
    get_with_contents store (listed_changes bases changes) q
    ∙ found_content bases q (get store q) (entries changes) (λ content is. agrees q content is) (λ amount is. known q amount (get-entries changes q ∙ is))
    ∙ ap (λ o. content_after o (get store q)) (sym (get-entries changes q))
    ∙ sym (applied_get store changes q))

same_keys : (bases : Changes) (es : Entries) → keys_of (list_of bases es) ≡ keys_of es
same_keys bases [] = refl
same_keys bases (e ∷ es) = ap (λ ks. e.0 ∷ ks) (same_keys bases es)

below_each : (k : List ℕ) (es : Entries) → T (below_all key_cmp k es) → AllByRecursion (λ y. key_cmp k y ≡ Less) (keys_of es)
below_each k [] h = tt
below_each k (e ∷ es) h = let both = and_yes (is_lt (key_cmp k e.0)) (below_all key_cmp k es) h in (less (key_cmp k e.0) both.0, below_each k es both.1)

in_order : (es : Entries) → T (is_sorted key_cmp es) → IsStrictlySortedBy key_cmp (keys_of es)
unfolding IsStrictlySortedBy
in_order [] h = tt
in_order (e ∷ es) h = let both = and_yes (below_all key_cmp e.0 es) (is_sorted key_cmp es) h in (below_each e.0 es both.0, in_order es both.1)

-- the listed changes ascend
pub listed_ascends : (bases : Changes) (changes : WriteMap) → AreAscending (listed_changes bases changes)
listed_ascends bases changes = subst (IsStrictlySortedBy key_cmp) (sym (same_keys bases (entries changes))) (in_order (entries changes) (entries_sorted changes))

-- a listed key is one of the changes
pub listed_is_changed : (bases : Changes) (changes : WriteMap) (key : List ℕ) → Contains (keys_of (listed_changes bases changes)) key → contains_key changes key ≡ true
listed_is_changed bases changes key has =
    contains_key-keys changes key
    ∙ list_any-from_Contains (eq_by_cmp_equiv nat_list_cmp_total) key (keys_of (entries changes)) (subst (λ (ks : List (List ℕ)). Contains ks key) (same_keys bases (entries changes)) has)
