-- What an open returns, why it may be refused, and what it then leaves.
use Rattle.std.specs.Prelude.{◌≡◌, ◌⊎◌, ℕ, ◌+◌, IsTrue, ⊤}
use Rattle.sqlite_disk.specs.Disk.{MoreFaults}
use Rattle.sqlite_disk.specs.declared.Disk.{Ghosts}
use Rattle.sqlite_disk.specs.declared.Files.{Files}
use Rattle.sqlite_wal.specs.Files as log_files
use Rattle.sqlite_wal.specs.Files.{outcomes, seen_image}
use Rattle.sqlite_wal.specs.Reads.{AreClean}
use Rattle.sqlite_wal.specs.Recovery.{Image}
use Rattle.sqlite_pool.specs.Stored.{RecoversAs}
use Rattle.sqlite_store.specs.declared.store.FileStore.{FileStore}
use Rattle.sqlite_store.specs.declared.store.open.Unopened.{Unopened}
use Rattle.sqlite_store.specs.FileStore.{IsUnaltered, schema_of, state, view}
use Rattle.sqlite_store.specs.Unopened.{IsFullFile, StopsCreating, AreUsable, files_of, state_of, wanted_by}
use Rattle.session_file.specs.Opening.{IsFresh}
use Rattle.session_file.specs.Staging.{HasTrees}
use Rattle.session_disk.specs.Tables.{session_schema}
use Rattle.session_disk.specs.Sessions.{database_page_size, AreFoundIn, IsFileCutShort, IsSession}
use Rattle.session_disk.specs.declared.fault.OpenFault.{OpenFault}
use Rattle.session_disk.specs.declared.fault.OpenFault.TheVariants.{Busy, HotJournal, Unreadable, NotASession, Full, Memory}
use Rattle.session_disk.specs.declared.leftover.Leftover.{Leftover}
use Rattle.session_disk.specs.declared.leftover.Leftover.TheVariants as left

-- An open fails for memory, a fault of the disk or a limit of the format, or it refuses files that are not what is wanted.
abbrev pub MayOpenFail : ℕ → ℕ → Type 0 → Type 0 → OpenFault → Type 0
MayOpenFail old new AtLimit Wanted Memory = ⊤
MayOpenFail old new AtLimit Wanted Unreadable = MoreFaults old new
MayOpenFail old new AtLimit Wanted Full = AtLimit
MayOpenFail old new AtLimit Wanted NotASession = ¬ Wanted
MayOpenFail old new AtLimit Wanted Busy = ⊥
MayOpenFail old new AtLimit Wanted HotJournal = ⊥

-- If the files held this, a crash leaves of a session what it left before, a session, or one that is cut while it is made. Of
-- others it leaves what it left before, or files with the same content.
pub record LeavesAs (image : Image) (old new : Image → Type 0) : Type 0 where
  pub session : IsSession image → (now : Image) → new now → old now ⊎ ∥ IsFileCutShort now ∥₁
  pub other : ¬ IsSession image → (now : Image) → new now → old now ⊎ RecoversAs database_page_size image now

-- what reads of the two files return
abbrev pub files_image : {D : Type 0} → Ghosts D → Files D → Image
files_image g files = seen_image g files.log files.db

abbrev pub faults_of : {D : Type 0} → Ghosts D → Files D → ℕ
faults_of g files = g.faults files.log + g.faults files.db

module _ {D : Type 0} {g : Ghosts D} where
  -- the files were not opened yet, and will have the tables of a session
  pub record AreFilesUnopened (it : Unopened D g) : Type 0 where
    pub usable : AreUsable it
    pub size : IsTrue (state_of it).is_clean → (state_of it).page_size ≡ database_page_size
    pub schema : wanted_by it ≡ session_schema

  -- the limit of an open that finds a database, or that makes one
  abbrev pub IsFullNow : Unopened D g → Type 0
  IsFullNow it = IsFullFile it ⊎ StopsCreating it

  -- the log and the database file that are left
  abbrev pub files_left : Leftover D g → D × D
  files_left (left.Files files) = (files.log, files.db)
  files_left (left.Unopened files) = files_of files

  abbrev pub faults_left : Leftover D g → ℕ
  faults_left (left.Files files) = faults_of g files
  faults_left (left.Unopened files) = (state_of files).faults

  abbrev pub IsCleanLeft : Leftover D g → Type 0
  IsCleanLeft (left.Files files) = AreClean g files.log files.db
  IsCleanLeft (left.Unopened files) = IsTrue (state_of files).is_clean

  abbrev pub IsFullLeft : Leftover D g → Type 0
  IsFullLeft (left.Files files) = log_files.IsHuge database_page_size (files_image g files)
  IsFullLeft (left.Unopened files) = IsFullNow files

  -- what a crash leaves then
  abbrev pub outcomes_left : Leftover D g → Image → Type 0
  outcomes_left (left.Files files) = outcomes g files.log files.db
  outcomes_left (left.Unopened files) = (state_of files).may_leave

  -- why files are refused: NotASession says that no session left them
  abbrev pub FailsToOpen : Files D → Leftover D g → OpenFault → Type 0
  FailsToOpen files rest = MayOpenFail (faults_of g files) (faults_left rest) (IsFullLeft rest) (IsSession (files_image g files))

  -- what a refused open leaves
  abbrev pub LeavesFiles : Files D → Leftover D g → Type 0
  LeavesFiles files rest = LeavesAs (files_image g files) (outcomes g files.log files.db) (outcomes_left rest)

  -- the store has the tables of a session and no other, and its transaction made none
  pub record IsSessionStore (it : FileStore D g) : Type 0 where
    pub size : (state it).page_size ≡ database_page_size
    pub schema : schema_of it ≡ session_schema
    pub unaltered : IsUnaltered it
    pub numbered : IsTrue (view it).is_numbered

  -- it was opened over files that held this
  pub record AreFilesOpened (image : Image) (it : FileStore D g) : Type 0 where
    pub tables : IsSessionStore it
    pub fresh : IsFresh (view it)
    pub is_open : IsTrue (view it).is_open
    pub trees : HasTrees (view it)
    pub found : AreFoundIn image (view it).committed
