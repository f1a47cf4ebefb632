-- The log beside a database file: when an open makes it, and when it is removed.
use Rattle.std.specs.Prelude.{◌≡◌, ◌⊎◌, ◌++◌, ◌<◌, ◌+◌, ℕ, Bool, true, false, IsTrue, if◌then◌else◌, List, [], ◌∷◌, length, Option, None, Some, codes, ⊤}
use Rattle.std.specs.String.{string_bytes}
use Rattle.std.specs.declared.string.String.{String}
use Rattle.sqlite_disk.specs.Disk.{MoreFaults}
use Rattle.sqlite_disk.specs.declared.Disk.{Ghosts}
use Rattle.session_disk.specs.declared.fault.OpenFault.{OpenFault}
use Rattle.session_disk.specs.declared.fault.OpenFault.TheVariants.{NotASession}
use Rattle.session_disk.specs.declared.log_folder.FileNumber.{FileNumber}
use Rattle.session_disk.specs.declared.log_folder.Links.{Links}
use Rattle.session_disk.specs.declared.new_log.NewLog.{NewLog}

-- a look at a path: what is done about a link there, and what was found, if anything
pub record Look : Type 0 where
  pub path : List ℕ
  pub links : Links
  pub found : Option FileNumber

-- the path that each path leads to, whether nothing is there, and the paths that were removed and the looks, the last one last
pub record FolderView : Type 0 where
  pub leads : List ℕ → List ℕ
  pub is_free : List ℕ → Bool
  pub removed : List (List ℕ)
  pub looks : List Look

-- if it is known what was removed, these paths are removed then, and no others
abbrev pub Removes : Option FolderView → Option FolderView → List (List ℕ) → Type 0
Removes None new paths = ⊤
Removes (Some old) None paths = ⊥
Removes (Some old) (Some new) paths = new ≡ record old { removed = old.removed ++ paths }

-- SQLite's name of the log of the file that a path leads to (https://sqlite.org/walformat.html)
abbrev pub log_name : FolderView → List ℕ → List ℕ
log_name known path = known.leads path ++ codes "-wal"

abbrev pub paths_of : {A : Type 0} → Option (String A) → List (List ℕ)
paths_of None = []
paths_of (Some path) = string_bytes path ∷ []

-- the log beside the file that a path leads to, if nothing is there yet; otherwise none
abbrev pub IsLogBeside : Option FolderView → List ℕ → NewLog → Type 0
IsLogBeside None path log = ⊤
IsLogBeside (Some known) path log = ((known.is_free (log_name known path) ≡ true) × (paths_of log.path ≡ log_name known path ∷ []))
    ⊎ ((known.is_free (log_name known path) ≡ false) × (log.path ≡ None))

-- A log with fewer bytes than this holds nothing, if its files are refused for that fault. If they are no session's, it is a log
-- that is shorter than its header and the header of a frame, and so has no commit of another process. Otherwise it is empty: a
-- longer one may mark a session that is only half made
abbrev pub idle_bound : OpenFault → ℕ
idle_bound NotASession = 32 + 24
idle_bound fault = 1

abbrev pub IsIdle : OpenFault → List ℕ → Type 0
IsIdle fault log = length log < idle_bound fault

-- a file is found idle, or not. It is found not to be idle only if it is not, or may not be used, or a call failed
abbrev pub IsFoundIdle : {D : Type 0} → Ghosts D → OpenFault → D → D → Bool → Type 0
IsFoundIdle g fault old new true = IsTrue (g.is_clean new) → IsIdle fault (g.seen new)
IsFoundIdle g fault old new false = (g.is_usable old ≡ false) ⊎ MoreFaults (g.faults old) (g.faults new) ⊎ (IsTrue (g.is_clean new) → IsIdle fault (g.seen new) → ⊥)

-- a refused open: a log that it made is removed if it is found idle
pub record IsGivenUp {D : Type 0} (g : Ghosts D) (fault : OpenFault) (old new : D) (log : NewLog) (before after : Option FolderView) : Type 0 where
  pub is_idle : Bool
  pub found : IsFoundIdle g fault old new is_idle
  pub removes : Removes before after (if is_idle then paths_of log.path else [])

-- nothing is removed, or the log beside the file that a path leads to, if nothing was there before
abbrev pub RemovesOwn : Option FolderView → Option FolderView → List ℕ → Type 0
RemovesOwn None new path = ⊤
RemovesOwn (Some old) new path = Removes (Some old) new []
    ⊎ ((old.is_free (log_name old path) ≡ true) × Removes (Some old) new (log_name old path ∷ []))
