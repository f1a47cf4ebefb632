-- What a close leaves.
use Rattle.std.specs.Prelude.{◌≡◌, ℕ, false, true, IsTrue, List, [], ⊤}
use Rattle.sqlite_disk.specs.declared.Disk.{Ghosts}
use Rattle.sqlite_disk.specs.declared.Files.{Files}
use Rattle.sqlite_wal.specs.Files.{outcomes}
use Rattle.sqlite_wal.specs.Reads.{AreClean}
use Rattle.sqlite_wal.specs.Recovery.{Image}
use Rattle.sqlite_pages.specs.PageMap.{PageMap}
use Rattle.sqlite_pool.specs.Stored.{Recovers}
use Rattle.sqlite_trees.specs.Tree.{Trees}
use Rattle.sqlite_trees.specs.View.{View}
use Rattle.sqlite_trees.specs.declared.error.StoreError.{StoreError}
use Rattle.sqlite_trees.specs.declared.error.StoreError.TheVariants.{OutOfMemory, Io, Corrupt, Full, Broken, Unstorable}
use Rattle.sqlite_store.specs.declared.catalog.Wanted.{Wanted}
use Rattle.sqlite_store.specs.Listing.{IsOurs, file_trees}

-- the files hold a sound database, and these are its rows, with those that list its tables
pub record HoldsTrees (image : Image) (db : Trees) : Type 0 where
  pub size : ℕ
  pub tables : List Wanted
  pub pages : PageMap
  pub found : Recovers size image pages
  pub ours : IsOurs size true tables pages
  pub rows : db ≡ file_trees size tables pages

-- the two files hold these rows, and so does the database file with no log
pub record AreFolded (image : Image) (db : Trees) : Type 0 where
  pub both : ∥ HoldsTrees image db ∥₁
  pub alone : ∥ HoldsTrees (record image { log = [] }) db ∥₁

-- whatever a crash leaves, the files of a store that shows this have what was committed, and so has the database file with no log
abbrev pub AreLeftFolded : {D : Type 0} → Ghosts D → Files D → View → Type 0
AreLeftFolded g files v = AreClean g files.log files.db → IsTrue v.is_numbered → (now : Image) → outcomes g files.log files.db now → AreFolded now v.committed

-- why a close fails: for memory, since the disk failed meanwhile, or since the store is shut
abbrev pub MayFailToClose : Type 0 → View → StoreError → Type 0
MayFailToClose failed new OutOfMemory = ⊤
MayFailToClose failed new Io = failed
MayFailToClose failed new Corrupt = failed
MayFailToClose failed new Full = failed
MayFailToClose failed new Broken = new.is_open ≡ false
MayFailToClose failed new Unstorable = ⊥
