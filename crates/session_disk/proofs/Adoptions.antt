-- Files whose tables were read.
use Rattle.std.proofs.Common.{◌≡◌, ◌⊎◌, Bool, true, false, List, [], ◌∷◌, length, ◌==◌, eqb-true, arith, Result, Ok, Err, IfOk, IfErr, refl, sym, ap, subst, subst₂, ◌∙◌}
use Rattle.sqlite_disk.specs.declared.Disk.{Ghosts}
use Rattle.sqlite_pages.specs.PageMap.{PageMap}
use Rattle.sqlite_pool.specs.File.{in_use}
use Rattle.sqlite_pool.specs.Opening.{IsBlankFile}
use Rattle.sqlite_pool.specs.Stored.{Recovers}
use Rattle.sqlite_pool.specs.StoredLaws.{recovers_once}
use Rattle.sqlite_trees.specs.Tree.{Trees}
use Rattle.sqlite_trees.specs.declared.store.Shape.TheVariants.{Table}
use Rattle.sqlite_value.specs.Order.{Row}
use Rattle.sqlite_store.specs.declared.store.open.Unopened.{Unopened}
use Rattle.sqlite_store.specs.Db.{rows_at, IsFile}
use Rattle.sqlite_store.specs.Listing.{IsOurs}
use Rattle.sqlite_store.specs.Opening.{IsEmptyFile}
use Rattle.sqlite_store.specs.Unopened.{HasFileAs, HasSomeFile, IsCatalogOf, IsUnstarted, Opens, image, state_of, wanted_by}
use Rattle.session_disk.specs.Tables.{session_schema}
use Rattle.session_disk.specs.Sessions.{database_page_size, AreFoundIn, BeginsWell, IsSession}
use Rattle.session_disk.proofs.Images.{begun_again, found_before, ours_again, some_file}

pub if_ok : {T E : Type 0} {P Q : T → Type 0} (r : Result T E) → ((x : T) → P x → Q x) → IfOk r P → IfOk r Q
if_ok (Ok x) f h = f x h
if_ok (Err e) f h = tt

pub if_err : {T E : Type 0} {P Q : E → Type 0} (r : Result T E) → ((e : E) → P e → Q e) → IfErr r P → IfErr r Q
if_err (Ok x) f h = tt
if_err (Err e) f h = f e h

pub if_both_ok : {T E : Type 0} {P Q R : T → Type 0} (r : Result T E) → ((x : T) → P x → Q x → R x) → IfOk r P → IfOk r Q → IfOk r R
if_both_ok (Ok x) f h k = f x h k
if_both_ok (Err e) f h k = tt

pub if_both_err : {T E : Type 0} {P Q R : E → Type 0} (r : Result T E) → ((e : E) → P e → Q e → R e) → IfErr r P → IfErr r Q → IfErr r R
if_both_err (Ok x) f h k = tt
if_both_err (Err e) f h k = f e h k

pub no_rows : (rows : List Row) (b : Bool) → b ≡ (length rows == 0) → b ≡ true → rows ≡ []
no_rows [] b is so = refl
no_rows (r ∷ rows) b is so = let h = eqb-true (length (r ∷ rows)) 0 (sym is ∙ so) in absurd (omega arith)

pub some_rows : (rows : List Row) (b : Bool) → b ≡ (length rows == 0) → b ≡ false → ¬ (rows ≡ [])
some_rows [] b is off none = let never = sym is ∙ off in cc
some_rows (r ∷ rows) b is off none = cc

module _ {D : Type 0} {g : Ghosts D} (old : Unopened D g) (size : (state_of old).page_size ≡ database_page_size) where
  pub has_some : ¬ IsBlankFile database_page_size (image old) → IsSession (image old) → HasSomeFile old
  has_some some session = subst (λ n. (pages : PageMap) × Recovers n (image old) pages × ((schema : _) × IsFile n schema pages)) (sym size) (some_file (image old) session some)

  module _ (mid : Unopened D g) (first : Opens old (state_of mid)) (rows : List Row) (catalog : IsCatalogOf old mid rows) where
    pub mid_size : (state_of mid).page_size ≡ database_page_size
    mid_size = first.size ∙ size

    pub before : Recovers database_page_size (image old) catalog.pages
    before = subst (λ n. Recovers n (image old) catalog.pages) size catalog.found

    pub again : Recovers database_page_size (image mid) catalog.pages
    again = subst (λ n. Recovers n (image mid) catalog.pages) size catalog.again

    listed : rows ≡ rows_at database_page_size (in_use database_page_size catalog.pages) Table 1
    listed = catalog.lists ∙ ap (λ n. rows_at n (in_use n catalog.pages) Table 1) size

    pub unstarted : ¬ IsBlankFile database_page_size (image old) → rows ≡ [] → IsSession (image old) → IsUnstarted mid
    unstarted some none session =
        subst (λ n. IsBlankFile n (image mid) ⊎ ((pages : PageMap) × Recovers n (image mid) pages × IsEmptyFile n pages)) (sym mid_size)
        (begun_again (image old) (image mid) catalog.pages session some before again (sym listed ∙ none))

    pub has_file : ¬ IsBlankFile database_page_size (image old) → wanted_by mid ≡ session_schema → ¬ (rows ≡ []) → IsSession (image old) → HasFileAs mid true
    has_file some schema full session =
        subst₂ (λ n s. (pages : PageMap) × Recovers n (image mid) pages × IsOurs n true s pages) (sym mid_size) (sym schema)
        (ours_again (image old) (image mid) catalog.pages session some before again (λ none. full (listed ∙ none)))

    pub found_in : BeginsWell (image old) → (db : Trees) → AreFoundIn (image mid) db → AreFoundIn (image old) db
    found_in begins db = found_before (image old) (image mid) catalog.pages before again begins db

    pub found_old : (committed : PageMap) → Recovers (state_of mid).page_size (image mid) committed → Recovers database_page_size (image old) committed
    found_old committed found =
        subst (Recovers database_page_size (image old)) (recovers_once database_page_size (image mid) catalog.pages committed again (subst (λ n. Recovers n (image mid) committed) mid_size found)) before
