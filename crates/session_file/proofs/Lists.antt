-- Entries by ascending keys: reading them one after another, and writing them.
use Rattle.std.proofs.Common.{◌≡◌, ◌≤◌, ◌++◌, ℕ, List, [], ◌∷◌, append_assoc, map, length, Option, Some, None, T, refl, sym, ap, subst, ◌∙◌, Less, arith}
use Rattle.std.specs.Bool.{⊤}
use Rattle.std.specs.List.{AllByRecursion}
use Rattle.std.specs.Cmp.{tied_itself}
use Rattle.std.specs.Cmp.Lexicographic.{nat_list_cmp_total}
use Rattle.std.specs.FinMap.{empty, entries, entries_sorted, entries-insert, insert, is_sorted, len-empty, len-entries, put}
use Rattle.std.proofs.lemmas.List.{append-nil, map-append}
use Rattle.sqlite_value.specs.Keys.{plain}
use Rattle.sqlite_value.specs.Order.{Row}
use Rattle.sqlite_trees.specs.Tree.{insert_entry, remove_entry}
use Rattle.rv_ledger.specs.Key.{key_cmp}
use Rattle.session_tree.specs.Entries.{ByteMap, entry_row, rows_of}
use Rattle.session_tree.proofs.Rows.{below_first, row_order, sorted_rest}
use Rattle.session_file.specs.Rows.{AreTaken, DoFit, IsAbove}

abbrev pub Pairs : Type 0
Pairs = List (List ℕ × List ℕ)

-- entries by ascending keys
abbrev pub AreRising : Pairs → Type 0
AreRising [] = ⊤
AreRising (e ∷ es) = AllByRecursion (λ f. key_cmp e.0 f.0 ≡ Less) es × AreRising es

-- the key of the last entry
abbrev pub last_key : Pairs → Option (List ℕ)
last_key [] = None
last_key (e ∷ []) = Some e.0
last_key (e ∷ f ∷ es) = last_key (f ∷ es)

pub last_pushed : (es : Pairs) (e : List ℕ × List ℕ) → last_key (es ++ e ∷ []) ≡ Some e.0
last_pushed [] e = refl
last_pushed (f ∷ []) e = refl
last_pushed (f ∷ g ∷ es) e = last_pushed (g ∷ es) e

-- what is above the last key is above each
pub above_all : (key : List ℕ) (es : Pairs) → AreRising es → IsAbove key (last_key es) → AllByRecursion (λ e. key_cmp e.0 key ≡ Less) es
above_all key [] up h = tt
above_all key (e ∷ []) up h = (h, tt)
above_all key (e ∷ f ∷ es) up h =
    let rest = above_all key (f ∷ es) up.1 h in
    (nat_list_cmp_total.trans e.0 f.0 key up.0.0 rest.0, rest)

pub all_pushed : (P : List ℕ × List ℕ → Type 0) (es : Pairs) (e : List ℕ × List ℕ) → AllByRecursion P es → P e → AllByRecursion P (es ++ e ∷ [])
all_pushed P [] e all this = (this, tt)
all_pushed P (f ∷ fs) e all this = (all.0, all_pushed P fs e all.1 this)

sorted_rising : (es : Pairs) → T (is_sorted key_cmp es) → AreRising es
sorted_rising [] up = tt
sorted_rising (e ∷ es) up = (below_first e es up, sorted_rising es (sorted_rest e es up))

-- the entries of a map ascend
pub map_rising : (m : ByteMap) → AreRising (entries m)
map_rising m = sorted_rising (entries m) (entries_sorted m)

-- a row that comes next is one of an entry above those before
pub record IsNext (fits : List ℕ → Type 0) (taken : Pairs) (given : Row) : Type 0 where
  pub entry : List ℕ × List ℕ
  pub row : given ≡ entry_row entry
  pub key : length entry.0 ≡ 32
  pub value : fits entry.1
  pub above : IsAbove entry.0 (last_key taken)

pub one_key : (e f : List ℕ × List ℕ) → entry_row e ≡ entry_row f → e.0 ≡ f.0
one_key e f is = cc

pub next_entry : (fits : List ℕ → Type 0) (taken : Pairs) (given : Row) (left : List Row) (es : Pairs) → map entry_row taken ++ given ∷ left ≡ map entry_row es → AreRising es → DoFit fits es → IsNext fits taken given
next_entry fits [] given left [] is up all = absurd (cc)
next_entry fits [] given left (f ∷ fs) is up all =
    let this : given ≡ entry_row f = cc in
    record { entry = f; row = this; key = all.0.0; value = all.0.1; above = tt }
next_entry fits (t ∷ ts) given left [] is up all = absurd (cc)
next_entry fits (t ∷ []) given left (f ∷ []) is up all = absurd (cc)
next_entry fits (t ∷ []) given left (f ∷ g ∷ gs) is up all =
    let first : entry_row t ≡ entry_row f = cc in
    let this : given ≡ entry_row g = cc in
    record { entry = g; row = this; key = all.1.0.0; value = all.1.0.1; above = ap (λ k. key_cmp k g.0) (one_key t f first) ∙ up.0.0 }
next_entry fits (t ∷ u ∷ us) given left (f ∷ fs) is up all =
    let rest : map entry_row (u ∷ us) ++ given ∷ left ≡ map entry_row fs = cc in
    let it = next_entry fits (u ∷ us) given left fs rest up.1 all.1 in
    record { entry = it.entry; row = it.row; key = it.key; value = it.value; above = it.above }

pub no_entries : entries (empty {X = List ℕ} {R = key_cmp}) ≡ []
no_entries = none (entries (empty {X = List ℕ} {R = key_cmp})) (sym (len-entries (empty {X = List ℕ} {R = key_cmp})) ∙ len-empty key_cmp (List ℕ))
  where
    none : (es : Pairs) → length es ≡ 0 → es ≡ []
    none [] h = refl
    none (e ∷ es) h = absurd (omega arith)

-- so do they whose keys have 32 bytes and whose values fit
pub all_named : (fits : List ℕ → Type 0) (es : Pairs) → DoFit fits es → AllByRecursion (λ e. length e.0 ≡ 32) es
all_named fits [] all = tt
all_named fits (e ∷ es) all = (all.0.0, all_named fits es all.1)

keep_above : (e : List ℕ × List ℕ) (es : Pairs) → AllByRecursion (λ f. key_cmp e.0 f.0 ≡ Less) es → remove_entry plain (entry_row e) (map entry_row es) ≡ map entry_row es
keep_above e [] low = refl
keep_above e (f ∷ fs) low = rw (row_order f e, nat_list_cmp_total.antisymm f.0 e.0, low.0) (ap (λ l. entry_row f ∷ l) (keep_above e fs low.1))

-- the first row is removed
pub first_removed : (e : List ℕ × List ℕ) (es : Pairs) → AreRising (e ∷ es) → remove_entry plain (entry_row e) (map entry_row (e ∷ es)) ≡ map entry_row es
first_removed e es up = rw (row_order e e, tied_itself nat_list_cmp_total e.0, tied_itself nat_list_cmp_total e.1) (keep_above e es up.0)

-- a row above all is inserted at the end
pub last_inserted : (es : Pairs) (e : List ℕ × List ℕ) → AllByRecursion (λ f. key_cmp f.0 e.0 ≡ Less) es → insert_entry plain (entry_row e) (map entry_row es) ≡ map entry_row (es ++ e ∷ [])
last_inserted [] e low = refl
last_inserted (f ∷ fs) e low = rw (row_order f e, low.0) (ap (λ l. entry_row f ∷ l) (last_inserted fs e low.1))

-- what is before an entry is below it
pub before_below : (es : Pairs) (e : List ℕ × List ℕ) (rest : Pairs) → AreRising (es ++ e ∷ rest) → AllByRecursion (λ f. key_cmp f.0 e.0 ≡ Less) es
before_below [] e rest up = tt
before_below (f ∷ fs) e rest up = (middle fs up.0, before_below fs e rest up.1)
  where
    middle : (gs : Pairs) → AllByRecursion (λ g. key_cmp f.0 g.0 ≡ Less) (gs ++ e ∷ rest) → key_cmp f.0 e.0 ≡ Less
    middle [] all = all.0
    middle (g ∷ gs) all = middle gs all.1

put_last : (key value : List ℕ) (es : Pairs) → AllByRecursion (λ e. key_cmp e.0 key ≡ Less) es → put key_cmp key value es ≡ es ++ (key, value) ∷ []
put_last key value [] low = refl
put_last key value (e ∷ es) low = rw (nat_list_cmp_total.antisymm key e.0, low.0) (ap (λ l. e ∷ l) (put_last key value es low.1))

-- a key above all is inserted at the end
pub entries-inserted : (m : ByteMap) (key value : List ℕ) → AllByRecursion (λ e. key_cmp e.0 key ≡ Less) (entries m) → entries (insert m key value) ≡ entries m ++ (key, value) ∷ []
entries-inserted m key value low = entries-insert nat_list_cmp_total m key value ∙ put_last key value (entries m) low

-- rows in which some entries are inserted, and the entries that are left
pub record IsInserted (all rest : Pairs) (Begun : Type 0) (rows : List Row) : Type 0 where
  pub done : Pairs
  pub whole : done ++ rest ≡ all
  pub fits : DoFit (λ v. length v ≤ 256) done
  pub shows : Begun → rows ≡ map entry_row done

-- none is inserted yet
pub at_first : (all : Pairs) (Begun : Type 0) (rows : List Row) → (Begun → rows ≡ []) → IsInserted all all Begun rows
at_first all Begun rows is = record { done = []; whole = refl; fits = tt; shows = is }

-- one more is inserted
pub one_more : (all : Pairs) (Before Begun : Type 0) (rows now : List Row) (e : List ℕ × List ℕ) (es : Pairs) → (Begun → Before) → (Begun → now ≡ insert_entry plain (entry_row e) rows)
    → length e.0 ≡ 32 → length e.1 ≤ 256 → AreRising all → IsInserted all (e ∷ es) Before rows → IsInserted all es Begun now
one_more all Before Begun rows now e es before is key value up h = record {
  done = h.done ++ e ∷ [];
  whole = append_assoc h.done (e ∷ []) es ∙ h.whole;
  fits = all_pushed _ h.done e h.fits (key, value);
  shows = λ begun. is begun ∙ ap (insert_entry plain (entry_row e)) (h.shows (before begun)) ∙ last_inserted h.done e (before_below h.done e es (subst AreRising (sym h.whole) up));
}

-- a row that was read next, in a tree of a map
pub found_next : (fits : List ℕ → Type 0) (taken : Pairs) (given : Row) (rest left rows : List Row) (m : ByteMap) → map entry_row taken ++ rest ≡ rows → rest ≡ given ∷ left → rows ≡ rows_of m → DoFit fits (entries m) → IsNext fits taken given
found_next fits taken given rest left rows m was step is all = next_entry fits taken given left (entries m) (ap (λ l. map entry_row taken ++ l) (sym step) ∙ was ∙ is) (map_rising m) all

-- rows of which one more was taken
pub rows_pushed : (taken : Pairs) (e : List ℕ × List ℕ) (now : Pairs) (given : Row) (rest left rows : List Row) → now ≡ taken ++ e ∷ [] → given ≡ entry_row e → rest ≡ given ∷ left → map entry_row taken ++ rest ≡ rows → map entry_row now ++ left ≡ rows
rows_pushed taken e now given rest left rows is row step was =
    ap (λ t. map entry_row t ++ left) is ∙ ap (λ l. l ++ left) (map-append entry_row taken (e ∷ [])) ∙ append_assoc (map entry_row taken) (entry_row e ∷ []) left
    ∙ ap (λ r. map entry_row taken ++ r ∷ left) (sym row) ∙ ap (λ l. map entry_row taken ++ l) (sym step) ∙ was

-- The rows before a cursor were taken: what took them is made of their entries, and this is the key of the last one. After a failure
-- (not `clean`) they may be other rows.
pub record AreTakenUpTo (made_of : ByteMap → Type 0) (fits : List ℕ → Type 0) (key : Option (List ℕ)) (clean : Type 0) (left rows : List Row) : Type 0 where
  pub taken : ByteMap
  pub made : made_of taken
  pub fit : DoFit fits (entries taken)
  pub last : key ≡ last_key (entries taken)
  pub before : clean → map entry_row (entries taken) ++ left ≡ rows

-- none is taken yet
pub none_taken : (made_of : ByteMap → Type 0) (fits : List ℕ → Type 0) (clean : Type 0) (left rows : List Row) → made_of empty → (clean → left ≡ rows) → AreTakenUpTo made_of fits None clean left rows
none_taken made_of fits clean left rows made is = record {
  taken = empty;
  made = made;
  fit = rw no_entries tt;
  last = rw no_entries refl;
  before = λ now. rw no_entries (is now);
}

-- one more is taken
pub one_taken : (before_of after_of : ByteMap → Type 0) (fits : List ℕ → Type 0) (last : Option (List ℕ)) (before after : Type 0) (key value : List ℕ) (given : Row) (rest left rows : List Row)
    → ((m : ByteMap) → AllByRecursion (λ e. key_cmp e.0 key ≡ Less) (entries m) → before_of m → after_of (insert m key value)) → IsAbove key last → length key ≡ 32 → fits value → given ≡ entry_row (key, value)
    → (after → before) → (after → rest ≡ given ∷ left) → AreTakenUpTo before_of fits last before rest rows → AreTakenUpTo after_of fits (Some key) after left rows
one_taken before_of after_of fits last before after key value given rest left rows takes above count fit row earlier step h =
    let es = entries h.taken in
    let low = above_all key es (map_rising h.taken) (subst (IsAbove key) h.last above) in
    let is : entries (insert h.taken key value) ≡ es ++ (key, value) ∷ [] = entries-inserted h.taken key value low in record {
      taken = insert h.taken key value;
      made = takes h.taken low h.made;
      fit = subst (DoFit fits) (sym is) (all_pushed _ es (key, value) h.fit (count, fit));
      last = sym (ap last_key is ∙ last_pushed es (key, value));
      before = λ now. rows_pushed es (key, value) (entries (insert h.taken key value)) given rest left rows is row (step now) (h.before (earlier now));
    }

-- all are taken
pub all_taken : (made_of : ByteMap → Type 0) (fits : List ℕ → Type 0) (last : Option (List ℕ)) (clean now : Type 0) (left rows : List Row) → (now → clean) → (now → left ≡ []) → AreTakenUpTo made_of fits last clean left rows
    → AreTaken made_of fits now rows
all_taken made_of fits last clean now left rows earlier none h = record {
  taken = h.taken;
  made = h.made;
  fit = h.fit;
  are_all = λ is. sym (h.before (earlier is)) ∙ ap (λ l. map entry_row (entries h.taken) ++ l) (none is) ∙ append-nil (map entry_row (entries h.taken));
}

-- programs with names of 32 bytes have files that fit
pub programs_fit : (fits : List ℕ → Type 0) (es : Pairs) → ((file : List ℕ) → fits file) → AllByRecursion (λ e. length e.0 ≡ 32) es → DoFit fits es
programs_fit fits [] takes all = tt
programs_fit fits (e ∷ es) takes all = ((all.0, takes e.1), programs_fit fits es takes all.1)
