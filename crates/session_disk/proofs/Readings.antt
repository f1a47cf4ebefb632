-- Files that were read before they are opened.
use Rattle.std.proofs.Common.{◌≡◌, ◌+◌, ◌≤◌, IsTrue, sym, ap, ap₂, subst, ◌∙◌, le_refl, arith}
use Rattle.sqlite_disk.specs.declared.Disk.{Ghosts}
use Rattle.sqlite_disk.specs.declared.Files.{Files}
use Rattle.sqlite_wal.specs.Files.{IsHuge, outcomes, seen_image}
use Rattle.sqlite_wal.specs.Reads.{AreClean, OnlyReads, are_clean}
use Rattle.sqlite_wal.specs.Recovery.{Image}
use Rattle.sqlite_wal.proofs.CleanLemmas.{both_clean}
use Rattle.sqlite_store.specs.declared.store.open.Unopened.{Unopened}
use Rattle.sqlite_store.specs.Unopened.{files_of, image, state_of}
use Rattle.session_disk.specs.Sessions.{database_page_size, IsSession}
use Rattle.session_disk.specs.Opening.{FailsToOpen, LeavesFiles, MayOpenFail, faults_of, files_image}
use Rattle.session_disk.specs.declared.fault.OpenFault.{OpenFault}
use Rattle.session_disk.specs.declared.leftover.Leftover.{Leftover}
use Rattle.session_disk.specs.declared.leftover.Leftover.TheVariants as left
use Rattle.session_disk.proofs.Causes.{wider}
use Rattle.session_disk.proofs.Leavings.{from_earlier, only_reads}
use Rattle.session_disk.proofs.Stores.{pool_files}

module _ {D : Type 0} (g : Ghosts D) (old new : Files D) (log : OnlyReads g old.log new.log) (db : OnlyReads g old.db new.db) where
  pub same_image : files_image g new ≡ files_image g old
  same_image = ap₂ (λ a b. let i : Image = record { log = a; db = b } in i) log.seen db.seen

  pub was_clean : AreClean g new.log new.db → AreClean g old.log old.db
  was_clean clean = both_clean _ _ _ _ log.clean db.clean clean

  fewer : (now : Image) → outcomes g new.log new.db now → outcomes g old.log old.db now
  fewer now may = (log.crash now.log may.0, db.crash now.db may.1)

  -- a call that only reads refuses them
  pub fails_by_reading : (fault : OpenFault) → MayOpenFail (faults_of g old) (faults_of g new) (IsHuge database_page_size (files_image g old)) (IsSession (files_image g old)) fault → FailsToOpen {g = g} old (left.Files new) fault
  fails_by_reading fault cause = wider _ _ _ _ _ _ _ fault (le_refl _) (subst (IsHuge database_page_size) (sym same_image)) (λ session. session) cause

  pub leaves_by_reading : LeavesFiles {g = g} old (left.Files new)
  leaves_by_reading = only_reads _ _ _ fewer

  -- a later call refuses them
  pub fails_later : faults_of g old ≤ faults_of g new → (rest : Leftover D g) (fault : OpenFault) → FailsToOpen new rest fault → FailsToOpen old rest fault
  fails_later counts rest fault cause = wider _ _ _ _ _ _ _ fault counts (λ limit. limit) (subst IsSession (sym same_image)) cause

  pub leaves_later : (rest : Leftover D g) → LeavesFiles new rest → LeavesFiles old rest
  leaves_later rest leaves = from_earlier _ _ _ _ _ same_image fewer leaves

-- files that were not read
module _ {D : Type 0} (g : Ghosts D) (files rest : Files D) (log : rest.log ≡ files.log) (db : rest.db ≡ files.db) where
  pub leaves_still : LeavesFiles {g = g} files (left.Files rest)
  leaves_still = only_reads _ _ _ (λ now may. (subst (λ l. g.may_leave l now.log) log may.0, subst (λ d. g.may_leave d now.db) db may.1))

-- the files once they are about to be opened
module _ {D : Type 0} {g : Ghosts D} (fresh : Unopened D g) (files : Files D) (made : files_of fresh ≡ (files.log, files.db)) where
  pub seen_files : image fresh ≡ files_image g files
  seen_files = ap (λ f. seen_image g f.0 f.1) made

  clean_same : (state_of fresh).is_clean ≡ are_clean g files.log files.db
  clean_same = (pool_files fresh.pool).1 ∙ ap (λ f. are_clean g f.0 f.1) made

  pub clean_files : IsTrue (state_of fresh).is_clean → AreClean g files.log files.db
  clean_files clean = sym clean_same ∙ clean

  pub faults_files : faults_of g files ≤ (state_of fresh).faults
  faults_files = omega (arith, (pool_files fresh.pool).0, ap (λ f. g.faults f.0 + g.faults f.1) made)

  pub left_files : (now : Image) → (state_of fresh).may_leave now → outcomes g files.log files.db now
  left_files now may = subst (λ f. outcomes g f.0 f.1 now) made ((pool_files fresh.pool).2 now may)
