-- Making the changes of a storage one after another in the rows of its tree.
use Rattle.std.proofs.Common.{◌≡◌, ◌≤◌, ℕ, length, IfSome, List, [], ◌∷◌, fold, Some, None, cond, T, refl, sym, ap, ◌∙◌, Ordering, Less, Equal, Greater, is_eq}
use Rattle.std.specs.List.{AllByRecursion}
use Rattle.std.specs.Cmp.Lexicographic.{nat_list_cmp_total}
use Rattle.std.specs.FinMap.{find, get, entries, entries_sorted, get-entries, is_sorted}
use Rattle.sqlite_value.specs.Order.{Row}
use Rattle.rv_ledger.specs.Change.{Content}
use Rattle.rv_ledger.specs.Key.{Storage, key_cmp}
use Rattle.session_tree.specs.Entries.{rows_of, changed_rows}
use Rattle.session_tree.proofs.Rows.{changed, below_first, sorted_rest, with_content}
use Rattle.rv_ledger.specs.Applied.{set_content}
use Rattle.overlay.specs.Overlay.{Changes, with_changes}
use Rattle.session_file.specs.Kept.{AreEntries}
use Rattle.session_file.proofs.Limits.{entries_set}
use Rattle.overlay.proofs.WithChanges.{content_or, same_at_all, get_set, get_with_changes}

abbrev pub Entries : Type 0
Entries = List (List ℕ × Content)

-- each entry made, in order
abbrev pub all_set : Storage → Entries → Storage
all_set store es = fold (λ s e. set_content s e.0 e.1) store es

-- a storage has at the keys of entries what another one has
abbrev pub AgreesOn : Storage → Storage → Entries → Type 0
AgreesOn at base es = AllByRecursion (λ e. get at e.0 ≡ get base e.0) es

-- rows in which some changes are made, and the entries that are left
pub record IsPartWay (base goal : Storage) (rows : List Row) (rest : Entries) : Type 0 where
  pub at : Storage
  pub shows : rows ≡ rows_of at
  pub more : all_set at rest ≡ goal
  pub agrees : AgreesOn at base rest
  pub limits : AreEntries base → AreEntries at

not_there : (q : List ℕ) (es : Entries) → AllByRecursion (λ f. key_cmp q f.0 ≡ Less) es → find key_cmp q es ≡ None
not_there q [] low = refl
not_there q (e ∷ es) low = rw low.0 (not_there q es low.1)

after_tie : (q k : List ℕ) → key_cmp q k ≡ Equal → (fs : Entries) → AllByRecursion (λ f. key_cmp k f.0 ≡ Less) fs → AllByRecursion (λ f. key_cmp q f.0 ≡ Less) fs
after_tie q k t [] low = tt
after_tie q k t (f ∷ fs) low = (nat_list_cmp_total.congr q k f.0 t ∙ low.0, after_tie q k t fs low.1)

-- entries in the order of their keys, made one after another
pub get_all_set : (s : Storage) (es : Entries) (q : List ℕ) → T (is_sorted key_cmp es) → get (all_set s es) q ≡ content_or (find key_cmp q es) (get s q)
get_all_set s [] q up = refl
get_all_set s (e ∷ es) q up =
    get_all_set (set_content s e.0 e.1) es q (sorted_rest e es up) ∙ ap (content_or (find key_cmp q es)) (get_set s e.0 e.1 q) ∙ go (key_cmp q e.0) refl (below_first e es up)
  where
    go : (o : Ordering) → key_cmp q e.0 ≡ o → AllByRecursion (λ f. key_cmp e.0 f.0 ≡ Less) es
        → content_or (find key_cmp q es) (cond (is_eq o) e.1 (get s q)) ≡ content_or (cond (is_eq o) (Some e.1) (find key_cmp q es)) (get s q)
    go Less t low = refl
    go Greater t low = refl
    go Equal t low = ap (λ f. content_or f e.1) (not_there q es (after_tie q e.0 t es low))

-- all entries of the changes, made one after another, make them
pub all_changes : (s : Storage) (d : Changes) → all_set s (entries d) ≡ with_changes s d
all_changes s d = same_at_all _ _ (λ q. get_all_set s (entries d) q (entries_sorted d) ∙ ap (λ o. content_or o (get s q)) (sym (get-entries d q)) ∙ sym (get_with_changes s d q))

none_differ : (s : Storage) (es : Entries) → AgreesOn s s es
none_differ s [] = tt
none_differ s (e ∷ es) = (refl, none_differ s es)

-- nothing is made yet
pub at_first : (base : Storage) (d : Changes) (rows : List Row) → rows ≡ rows_of base → IsPartWay base (with_changes base d) rows (entries d)
at_first base d rows is = record { at = base; shows = is; more = all_changes base d; agrees = none_differ base (entries d); limits = λ all. all }

still_agrees : (base at : Storage) (k : List ℕ) (c : Content) (es : Entries) → AllByRecursion (λ f. key_cmp k f.0 ≡ Less) es → AgreesOn at base es → AgreesOn (set_content at k c) base es
still_agrees base at k c [] low h = tt
still_agrees base at k c (f ∷ fs) low h = (
  get_set at k c f.0 ∙ rw (nat_list_cmp_total.antisymm f.0 k, low.0) h.0,
  still_agrees base at k c fs low.1 h.1,
)

pub set_is : (s : Storage) (k : List ℕ) (c : Content) → with_content s k c ≡ set_content s k c
set_is s k None = refl
set_is s k (Some v) = refl

-- one more entry is made
pub one_more : (base goal : Storage) (rows now : List Row) (e : List ℕ × Content) (es : Entries) → T (is_sorted key_cmp (e ∷ es)) → now ≡ changed_rows e.0 (get base e.0) e.1 rows
    → length e.0 ≡ 32 → IfSome e.1 (λ v. length v ≤ 256) → IsPartWay base goal rows (e ∷ es) → IsPartWay base goal now es
one_more base goal rows now e es up is key value h = record {
  at = set_content h.at e.0 e.1;
  shows = is ∙ ap (changed_rows e.0 (get base e.0) e.1) h.shows ∙ changed h.at e.0 (get base e.0) e.1 h.agrees.0 ∙ ap rows_of (set_is h.at e.0 e.1);
  more = h.more;
  agrees = still_agrees base h.at e.0 e.1 es (below_first e es up) h.agrees.1;
  limits = λ all. entries_set h.at e.0 e.1 key value (h.limits all);
}
