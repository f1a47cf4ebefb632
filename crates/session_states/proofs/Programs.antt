-- Programs that are loaded from files.
use Rattle.std.proofs.Common.{◌≡◌, ℕ, Bool, true, false, cond, List, [], ◌∷◌, length, Option, Some, None, Ordering, Less, Equal, Greater, is_eq, refl, sym, ap, subst, ◌∙◌, arith}
use Rattle.std.specs.List.{AllByRecursion}
use Rattle.std.specs.Ordering.{eq_by_cmp}
use Rattle.std.specs.Cmp.{tied_itself}
use Rattle.std.specs.Cmp.Lexicographic.{nat_list_cmp_total}
use Rattle.std.specs.FinMap.{empty, entries, find, get, get-empty, get-entries, get-insert, get-remove, insert, len, len-empty, len-entries, remove, same_entries_map, same_map}
use Rattle.elf32.specs.Layout.{Layout}
use Rattle.rv_ledger.specs.Key.{key_cmp}
use Rattle.rv_ledger.proofs.Entries.{key_cmp-IsAntisymmetric}
use Rattle.session_tree.specs.Entries.{ByteMap}
use Rattle.session_turns.specs.Programs.{ProgramsByName}
use Rattle.session_states.specs.States.{AreLoadedFrom, IsLoadedFrom}

-- no files, and no programs
pub none_loaded : AreLoadedFrom empty empty
none_loaded name = rw (get-empty {X = List ℕ} key_cmp name, get-empty {X = Layout} key_cmp name) tt

equal : (order : Ordering) → is_eq order ≡ true → order ≡ Equal
equal Less h = cc
equal Equal h = refl
equal Greater h = cc

one_key : (q name : List ℕ) → eq_by_cmp key_cmp q name ≡ true → q ≡ name
one_key q name same = key_cmp-IsAntisymmetric q name (equal (key_cmp q name) same)

one_way : (name file : List ℕ) (image : Layout) (q : List ℕ) (files : ByteMap) (programs : ProgramsByName) (b : Bool) → eq_by_cmp key_cmp q name ≡ b → IsLoadedFrom name (Some file) (Some image)
    → IsLoadedFrom q (get files q) (get programs q) → IsLoadedFrom q (cond b (Some file) (get files q)) (cond b (Some image) (get programs q))
one_way name file image q files programs true same this others =
    subst (λ n. IsLoadedFrom n (Some file) (Some image)) (sym (one_key q name same)) this
one_way name file image q files programs false same this others = others

-- one more file and its program
pub one_loaded : (files : ByteMap) (programs : ProgramsByName) (name file : List ℕ) (image : Layout) → AreLoadedFrom files programs → IsLoadedFrom name (Some file) (Some image)
    → AreLoadedFrom (insert files name file) (insert programs name image)
one_loaded files programs name file image all this q =
    rw (get-insert nat_list_cmp_total files name file q, get-insert nat_list_cmp_total programs name image q)
    (one_way name file image q files programs (eq_by_cmp key_cmp q name) refl this (all q))

without : (q : List ℕ) (file : Option (List ℕ)) (image : Option Layout) (b : Bool) → IsLoadedFrom q file image → IsLoadedFrom q (cond b None file) (cond b None image)
without q file image true h = tt
without q file image false h = h

-- one file less, and without its program
pub one_forgotten : (files : ByteMap) (programs : ProgramsByName) (name : List ℕ) → AreLoadedFrom files programs → AreLoadedFrom (remove files name) (remove programs name)
one_forgotten files programs name all q =
    rw (get-remove nat_list_cmp_total files name q, get-remove nat_list_cmp_total programs name q)
    (without q (get files q) (get programs q) (eq_by_cmp key_cmp q name) (all q))

one_image : (name : List ℕ) (file : Option (List ℕ)) (p q : Option Layout) → IsLoadedFrom name file p → IsLoadedFrom name file q → p ≡ q
one_image name None None None a b = refl
one_image name None (Some p) q a b = absurd a
one_image name None None (Some q) a b = absurd b
one_image name (Some file) None q a b = absurd a
one_image name (Some file) (Some p) None a b = absurd b
one_image name (Some file) (Some p) (Some q) a b =
    let left = a.1 in
    let right = b.1 in cc

-- files have one set of programs at most
pub loaded_once : (files : ByteMap) (p q : ProgramsByName) → AreLoadedFrom files p → AreLoadedFrom files q → p ≡ q
loaded_once files p q a b = same_map nat_list_cmp_total key_cmp-IsAntisymmetric p q (λ name. one_image name (get files name) (get p name) (get q name) (a name) (b name))

-- no programs, by their number
pub no_length : (programs : ProgramsByName) → len programs ≡ 0 → programs ≡ empty
no_length programs none =
    let no : ProgramsByName = empty in
    same_entries_map programs no (nothing (entries programs) (sym (len-entries programs) ∙ none) ∙ sym (nothing (entries no) (sym (len-entries no) ∙ len-empty key_cmp Layout)))
  where
    nothing : (es : List (List ℕ × Layout)) → length es ≡ 0 → es ≡ []
    nothing [] is = refl
    nothing (e ∷ es) is = absurd (omega arith)

-- if the programs of files are none, there are no files
pub no_files : (files : ByteMap) → AreLoadedFrom files empty → files ≡ empty
no_files files all = same_map nat_list_cmp_total key_cmp-IsAntisymmetric files empty (λ name.
    none_here name (get files name) (rw (get-empty {X = Layout} key_cmp name) at (all name)) ∙ sym (get-empty {X = List ℕ} key_cmp name))
  where
    none_here : (name : List ℕ) (file : Option (List ℕ)) → IsLoadedFrom name file None → file ≡ None
    none_here name None h = refl
    none_here name (Some file) h = absurd h

-- ---- one file after another

no_program : (name file : List ℕ) (image : Option Layout) → ((image : Layout) → ¬ IsLoadedFrom name (Some file) (Some image)) → ¬ IsLoadedFrom name (Some file) image
no_program name file None none h = h
no_program name file (Some image) none h = none image h

tied : (name : List ℕ) → eq_by_cmp key_cmp name name ≡ true
tied name =
    let same : key_cmp name name ≡ Equal = tied_itself nat_list_cmp_total name in
    rw same refl

-- after a file that is no program of its name, the files have no programs
pub none_after : (files : ByteMap) (name file : List ℕ) → ((image : Layout) → ¬ IsLoadedFrom name (Some file) (Some image)) → (programs : ProgramsByName) → ¬ AreLoadedFrom (insert files name file) programs
none_after files name file none programs all =
    no_program name file (get programs name) none (rw (get-insert nat_list_cmp_total files name file name, tied name) at (all name))

still_one : (q : List ℕ) (old : Option (List ℕ)) (file : List ℕ) (image : Option Layout) (b : Bool) → (b ≡ true → old ≡ None) → IsLoadedFrom q (cond b (Some file) old) image → IsLoadedFrom q old (cond b None image)
still_one q old file image true absent h = rw (absent refl) tt
still_one q old file image false absent h = h

-- a name below another is not that name
apart : (low high : List ℕ) → key_cmp low high ≡ Less → eq_by_cmp key_cmp high low ≡ false
apart low high less = rw (nat_list_cmp_total.antisymm high low, less) refl

none_below : (key : List ℕ) (es : List (List ℕ × List ℕ)) → AllByRecursion (λ e. key_cmp e.0 key ≡ Less) es → find key_cmp key es ≡ None
none_below key [] low = refl
none_below key (e ∷ es) low = rw (apart e.0 key low.0) (none_below key es low.1)

-- files that have no programs have none after one more
pub none_still : (files : ByteMap) (name file : List ℕ) → AllByRecursion (λ e. key_cmp e.0 name ≡ Less) (entries files) → ((programs : ProgramsByName) → ¬ AreLoadedFrom files programs)
    → (programs : ProgramsByName) → ¬ AreLoadedFrom (insert files name file) programs
none_still files name file low none programs all =
    let absent : get files name ≡ None = get-entries files name ∙ none_below name (entries files) low in
    none (remove programs name) (λ q. rw (get-remove nat_list_cmp_total programs name q)
    (still_one q (get files q) file (get programs q) (eq_by_cmp key_cmp q name) (λ same. ap (get files) (one_key q name same) ∙ absent) (rw (get-insert nat_list_cmp_total files name file q) at (all q))))
