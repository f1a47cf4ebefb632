-- When the log and the database file are those of a session.
use Rattle.std.specs.Prelude.{◌≡◌, ◌⊎◌, ℕ, ◌<◌, ◌^◌, true, List, [], length, slice_index, Some}
use Rattle.sqlite_wal.specs.Recovery as raw
use Rattle.sqlite_wal.specs.Recovery.{Image}
use Rattle.sqlite_pages.specs.PageMap.{PageMap}
use Rattle.sqlite_pool.specs.Opening.{IsBlankFile}
use Rattle.sqlite_pool.specs.Stored.{Recovers}
use Rattle.sqlite_trees.specs.Tree.{Trees}
use Rattle.sqlite_store.specs.Listing.{IsOurs, file_trees}
use Rattle.sqlite_store.specs.Opening.{IsEmptyFile}
use Rattle.session_disk.specs.Tables.{session_schema}

-- the number of bytes in a page
abbrev pub database_page_size : ℕ
database_page_size = 4096

-- a first page that is whole begins with the S of SQLite
abbrev pub BeginsWell : Image → Type 0
BeginsWell image =
    (pages : PageMap) (first : List ℕ) → raw.Recovers database_page_size image pages → pages 1 ≡ Some first → length first ≡ database_page_size → slice_index first 0 ≡ 83

-- the files hold a database with the tables of a session and no other
pub record IsSessionFile (image : Image) : Type 0 where
  pub pages : PageMap
  pub found : Recovers database_page_size image pages
  pub ours : IsOurs database_page_size true session_schema pages

-- an empty database file beside a log with a commit: it is not the file that the log was written for
abbrev pub IsBereft : Image → Type 0
IsBereft image = (length image.db ≡ 0) × ((frames : ℕ) × (0 < frames) × raw.Replays database_page_size image.log frames)

-- there is no database yet, or a sound one with no table
abbrev pub IsBegun : Image → Type 0
IsBegun image = (IsBlankFile database_page_size image × ¬ IsBereft image) ⊎ ((pages : PageMap) × Recovers database_page_size image pages × IsEmptyFile database_page_size pages)

-- a session left them, at whatever moment it was cut
abbrev pub IsSession : Image → Type 0
IsSession image = IsSessionFile image ⊎ IsBegun image

-- what a session or the making of its database leaves if it is cut. The kit says of such a making that there may be no database
-- yet, and not what is in the log then
abbrev pub IsFileCutShort : Image → Type 0
IsFileCutShort image = IsSession image ⊎ IsBlankFile database_page_size image

-- the tables of a session hold these rows
pub record HoldsRows (image : Image) (db : Trees) : Type 0 where
  pub file : IsSessionFile image
  pub rows : db ≡ file_trees database_page_size session_schema file.pages

-- these rows are what the files hold, or they hold no table and there are no rows
abbrev pub AreFoundIn : Image → Trees → Type 0
AreFoundIn image db = ∥ HoldsRows image db ∥₁ ⊎ (∥ IsBegun image ∥₁ × ((tree : ℕ) → tree < 2 ^ 32 → db tree ≡ []))
