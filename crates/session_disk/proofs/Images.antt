-- The files of a session, as a recovery finds them.
use Rattle.std.proofs.Common.{◌≡◌, ◌⊎◌, ℕ, List, [], length, take, slice_index, Some, true, refl, sym, ap, subst, ◌∙◌, inl, inr, arith, get_or-take}
use Rattle.std.proofs.Math.Logic.{∥∥₁_map}
use Rattle.sqlite_wal.specs.Recovery.{Image, AreWhole}
use Rattle.sqlite_wal.proofs.AppendLemmas.{some_value}
use Rattle.sqlite_wal.proofs.CreateLemmas.{begun_is_not_blank}
use Rattle.sqlite_pages.specs.PageMap.{PageMap}
use Rattle.sqlite_pool.specs.File.{IsSoundFile, in_use}
use Rattle.sqlite_pool.specs.Header.{first_page}
use Rattle.sqlite_pool.specs.Opening.{IsBlankFile, IsNew}
use Rattle.sqlite_pool.specs.Stored.{Recovers, RecoversAs, sealed}
use Rattle.sqlite_pool.specs.StoredLaws.{carried, recovers_once, trimmed_some, trimmed_whole}
use Rattle.sqlite_pool.proofs.ProbeLemmas.{first_byte}
use Rattle.sqlite_trees.specs.Tree.{Trees}
use Rattle.sqlite_trees.specs.declared.store.Shape.TheVariants.{Table}
use Rattle.sqlite_store.specs.declared.catalog.Wanted.{Wanted}
use Rattle.sqlite_store.specs.Db.{rows_at, roots_of, IsFile}
use Rattle.sqlite_store.specs.Listing.{IsOurs}
use Rattle.sqlite_store.specs.Opening.{IsEmptyFile, IsFresh}
use Rattle.sqlite_store.proofs.BuildLemmas.{new_is_empty}
use Rattle.session_disk.specs.Tables.{session_schema}
use Rattle.session_disk.specs.Sessions.{database_page_size, AreFoundIn, BeginsWell, IsBereft, IsFileCutShort, IsSession}

-- a database of a session lists its tables
pub has_rows : (pages : PageMap) → IsOurs database_page_size true session_schema pages → ¬ (rows_at database_page_size (in_use database_page_size pages) Table 1 ≡ [])
unfolding session_schema roots_of
has_rows pages ours none = let listed = (ours.numbered refl).listed in cc

-- what a database begins with
first_of : (image : Image) (pages : PageMap) → Recovers database_page_size image pages → BeginsWell image → (first : List ℕ) × (pages 1 ≡ Some (take database_page_size first)) × (length first ≡ database_page_size) × (slice_index first 0 ≡ 83)
first_of image pages found begins =
    let (first, is) = some_value (found.stored 1) found.whole.first in
    let len = found.whole.sized 1 first is in
    (first, ap (λ (p : PageMap). p 1) (sym found.shows) ∙ trimmed_some database_page_size found.stored 1 first is, len, begins found.stored first found.found is len)

-- files from which the pages of a database are recovered are not blank
pub not_blank : (image : Image) (pages : PageMap) → Recovers database_page_size image pages → BeginsWell image → (other : Image) → Recovers database_page_size other pages → ¬ IsBlankFile database_page_size other
not_blank image pages found begins other now blank =
    let one = first_of image pages found begins in
    let (first, is) = some_value (now.stored 1) now.whole.first in
    let len = now.whole.sized 1 first is in
    let shown = ap (λ (p : PageMap). p 1) (sym now.shows) ∙ trimmed_some database_page_size now.stored 1 first is in
    let front : take database_page_size first ≡ take database_page_size one.0 = cc in
    let byte : slice_index first 0 ≡ 83 =
    sym (get_or-take database_page_size first 0 0 (omega arith)) ∙ ap (λ (b : List ℕ). slice_index b 0) front ∙ get_or-take database_page_size one.0 0 0 (omega arith) ∙ one.3 in
    let gate = first_byte database_page_size (omega arith) in
    begun_is_not_blank (sealed (first_page database_page_size)) first database_page_size other now.stored now.found is len (omega arith) (byte ∙ sym gate) (λ none. let never = sym gate ∙ none in omega arith) blank

-- files with pages have a database file
pub not_bereft : (size : ℕ) (image : Image) (pages : PageMap) → Recovers size image pages → ¬ IsBereft image
not_bereft size image pages found (none, log) = let some = found.found.present in omega (arith, some, none)

-- files of a session that are not blank have pages
pub some_file : (image : Image) → IsSession image → ¬ IsBlankFile database_page_size image → (pages : PageMap) × Recovers database_page_size image pages × ((schema : List Wanted) × IsFile database_page_size schema pages)
some_file image (inl file) some = (file.pages, file.found, (session_schema, file.ours.file))
some_file image (inr (inl blank)) some = absurd (some blank.0)
some_file image (inr (inr empty)) some = (empty.0, empty.1, ([], empty.2.0))

pub some_sound : (image : Image) → IsSession image → ¬ IsBlankFile database_page_size image → (pages : PageMap) × Recovers database_page_size image pages × IsSoundFile database_page_size pages
some_sound image (inl file) some = (file.pages, file.found, file.ours.file.sound)
some_sound image (inr (inl blank)) some = absurd (some blank.0)
some_sound image (inr (inr empty)) some = (empty.0, empty.1, empty.2.0.sound)

-- files from which the same pages are recovered are a session's, too
pub same_session : (image now : Image) → IsSession image → ¬ IsBlankFile database_page_size image → RecoversAs database_page_size image now → IsSession now
same_session image now (inl file) some alike = inl (record { pages = file.pages; found = carried database_page_size image now alike file.pages file.found; ours = file.ours })
same_session image now (inr (inl blank)) some alike = absurd (some blank.0)
same_session image now (inr (inr empty)) some alike = inr (inr (empty.0, carried database_page_size image now alike empty.0 empty.1, empty.2))

-- so is what a first open leaves if it is cut
pub on_the_way : (image : Image) → IsBlankFile database_page_size image ⊎ ((pages : PageMap) × Recovers database_page_size image pages × (IsNew database_page_size pages ⊎ ∥ IsFresh database_page_size session_schema pages ∥₁)) → ∥ IsFileCutShort image ∥₁
on_the_way image (inl blank) = ∣ inr blank ∣₁
on_the_way image (inr made) = elim made.2 [
  | inl new ↦
      let whole : AreWhole database_page_size made.0 = subst (AreWhole database_page_size) made.1.shows (trimmed_whole database_page_size made.1.stored made.1.whole) in
      ∣ inl (inr (inr (made.0, made.1, new_is_empty database_page_size made.0 whole new))) ∣₁
  | inr fresh ↦ ∥∥₁_map fresh (λ it. inl (inl (record { pages = made.0; found = made.1; ours = it.0 })))
]

-- a session with these pages and no table in them is begun, and one with tables is not
pub begun_again : (image now : Image) (pages : PageMap) → IsSession image → ¬ IsBlankFile database_page_size image → Recovers database_page_size image pages → Recovers database_page_size now pages
    → rows_at database_page_size (in_use database_page_size pages) Table 1 ≡ [] → IsBlankFile database_page_size now ⊎ ((same : PageMap) × Recovers database_page_size now same × IsEmptyFile database_page_size same)
begun_again image now pages (inl file) some found again none =
    absurd (has_rows pages (subst (IsOurs database_page_size true session_schema) (recovers_once database_page_size image file.pages pages file.found found) file.ours) none)
begun_again image now pages (inr (inl blank)) some found again none = absurd (some blank.0)
begun_again image now pages (inr (inr empty)) some found again none = inr (pages, again, subst (IsEmptyFile database_page_size) (recovers_once database_page_size image empty.0 pages empty.1 found) empty.2)

pub ours_again : (image now : Image) (pages : PageMap) → IsSession image → ¬ IsBlankFile database_page_size image → Recovers database_page_size image pages → Recovers database_page_size now pages
    → ¬ (rows_at database_page_size (in_use database_page_size pages) Table 1 ≡ []) → (same : PageMap) × Recovers database_page_size now same × IsOurs database_page_size true session_schema same
ours_again image now pages (inl file) some found again rows =
    (pages, again, subst (IsOurs database_page_size true session_schema) (recovers_once database_page_size image file.pages pages file.found found) file.ours)
ours_again image now pages (inr (inl blank)) some found again rows = absurd (some blank.0)
ours_again image now pages (inr (inr empty)) some found again rows =
    absurd (rows (subst (λ p. rows_at database_page_size (in_use database_page_size p) Table 1 ≡ []) (recovers_once database_page_size image empty.0 pages empty.1 found) empty.2.1))

-- what was found in the files as they were recovered was in them before
pub found_before : (image now : Image) (pages : PageMap) → Recovers database_page_size image pages → Recovers database_page_size now pages → BeginsWell image → (db : Trees) → AreFoundIn now db → AreFoundIn image db
found_before image now pages found again begins db (inl holds) = inl (∥∥₁_map holds (λ h.
    let same = recovers_once database_page_size now h.file.pages pages h.file.found again in
    record { file = record { pages = h.file.pages; found = subst (Recovers database_page_size image) (sym same) found; ours = h.file.ours }; rows = h.rows }))
found_before image now pages found again begins db (inr none) = inr (
  ∥∥₁_map none.0 (λ begun. elim begun [
    | inl blank ↦ absurd (not_blank image pages found begins now again blank.0)
    | inr empty ↦
        let same = recovers_once database_page_size now empty.0 pages empty.1 again in
        inr (empty.0, subst (Recovers database_page_size image) (sym same) found, empty.2)
  ]),
  none.1,
)
