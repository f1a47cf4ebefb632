-- A disk that looks at the names of a session's files.
use Rattle.std.specs.Prelude.{◌≡◌, ◌+◌, ◌-◌, ◌^◌, min, ℕ, List, Option, IfSome, false}
use Rattle.sqlite_disk.specs.Disk.{Only}
use Rattle.sqlite_disk.specs.declared.Disk as disks
use Rattle.sqlite_disk.specs.declared.tally.Tally.{Tally}
use Rattle.session_disk.specs.Logs.{FolderView}
use Rattle.session_disk.specs.Looks.{Sees}
use Rattle.session_disk.specs.Names.{AreNamesOf, first_looks, view_of}
use Rattle.session_disk.specs.declared.named_disk.NamedDisk.{NamedDisk}

-- what failed calls met, if this number of writes would have made the file too large: each of them found no room
abbrev pub with_limit : Tally → ℕ → Tally
with_limit tally too_large = record tally { refused = min (tally.refused + too_large) (2 ^ 64 - 1) }

-- a file was just opened at a path, with its names as they were looked at in a folder; no look missed it so far, and no write was
-- too large
pub record IsNamedBy {D F : Type 0} (view : F → Option FolderView) (folder : F) (path : List ℕ) (g : disks.Ghosts D) (file : D) (named : NamedDisk D F) : Type 0 where
  pub inner : named.inner ≡ file
  pub missed : named.missed ≡ 0
  pub too_large : named.too_large ≡ 0
  pub is_lost : named.is_lost ≡ false
  pub names : IfSome (view folder) (λ known. AreNamesOf known path (view_of named.names))
  pub looks : Only (g.seen file) (g.may_leave file) → Sees (view folder) (view named.folder) (first_looks (view_of named.names))
