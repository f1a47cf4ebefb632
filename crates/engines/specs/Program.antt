-- What the program does for a command line: a table from what is asked to what an engine says of it.
use Rattle.std.specs.Prelude.{◌≡◌, ◌⊎◌, ⊤, ℕ, Bool, true, codes, List, [], ◌∷◌, Option, Some, None, IfOk, IfSome, IsOkAnd}
use Rattle.std.specs.Io.KnownBytes.{Appends}
use Rattle.std.specs.Option.{option_map, unwrap_or}
use Rattle.std.specs.declared.convert.Infallible.{Infallible}
use Rattle.block_file.specs.Block.{parsed_block}
use Rattle.block_file.specs.Migrate.{migrated}
use Rattle.block_file.specs.Schedule.{parsed_schedule}
use Rattle.byte_streams.specs.declared.fault.WriteFault.{WriteFault}
use Rattle.byte_streams.specs.declared.fault.WriteFault.TheVariants.{Io, WroteNothing}
use Rattle.byte_streams.specs.Written.{AppendsPart}
use Rattle.clap.specs.Words.{IsAmong, Kinds, Text, fault_of}
use Rattle.clap.specs.declared.error.kind.ErrorKind.TheVariants as kind
use Rattle.cmdline.specs.Line.{Asked, RunOf, SeqOf, ConflictsOf, DriveOf, AsmOf, DisOf, DebugOf, MigrateOf, ChainOf, requested, rvstm_app}
use Rattle.debugger.specs.Session.{AppendsBeginning, MayBeCutOff}
use Rattle.session_durability.specs.Durable.{FileMoment, HoldsState, IsFileAnswer, IsShutBy}
use Rattle.session_durability.specs.Opened.{IsFoundIn}
use Rattle.session_serving.specs.Serving.{IsEndedBy, IsServed}
use Rattle.session_serving.specs.declared.serving.ServeFault.{ServeFault}
use Rattle.session_states.specs.declared.fault.StoreFault.{StoreFault}
use Rattle.stm_core.specs.declared.driving.DriveFault.TheVariants as drive
use Rattle.sqlite_trees.specs.Tree.{Trees}
use Rattle.sqlite_trees.specs.View.{View, doubt}
use Rattle.system_files.specs.Entries.{Entries, IsPut, KeepsFile, Stays}
use Rattle.session_turns.specs.Failures.{IsAnswer}
use Rattle.session_turns.specs.Turn.{new_session}
use Rattle.session_turns.specs.declared.settings.Settings.{Settings}
use Rattle.session_turns.specs.declared.state.State.{State}
use Rattle.workers.specs.declared.fault.RunFault.TheVariants as run
use Rattle.engines.specs.Chain.{cut_of, durably_cut, never_shut}
use Rattle.engines.specs.Conflicts.{AppendsConflicts, IsConflictsFault}
use Rattle.engines.specs.Counts.{AreCountsAlong, AreCountsOfRun, counts_text}
use Rattle.engines.specs.Debug.{replayed_text, IsReplayedFault}
use Rattle.engines.specs.Dis.{IsListingFault, IsSourceFault, file_of_source, listing_of_file}
use Rattle.engines.specs.Drive.{driven_answer, IsScheduledFault}
use Rattle.engines.specs.Engine.{answer_of, loaded_job, IsBlockFault, IsRefusedJob, IsRunFault}
use Rattle.engines.specs.Faults.{refusal_line}
use Rattle.engines.specs.Run.{IsWorkersFault}
use Rattle.engines.specs.Stores.{AreClosed, AsksAsTold, AsksForSession, AsksInVain, KeepsOthers, StoreOrder, TreesAt}
use Rattle.engines.specs.declared.counts.RunCounts.{RunCounts}
use Rattle.engines.specs.declared.fault.FileFault.TheVariants.{Unwritable}
use Rattle.engines.specs.declared.fault.Refusal.{Refusal}
use Rattle.engines.specs.declared.fault.Refusal.TheVariants.{Drive, File, Output, Run, Seq, Store}
use Rattle.engines.specs.declared.fault.SeqFault.TheVariants.{Memory}

-- the bytes of the files, by their paths; None if they are not known
abbrev pub Contents : Type 0
Contents = List ℕ → Option (List ℕ)

-- ---- what a command line asks for

-- what was found on a line that has no fault
abbrev pub if_right : Kinds → Option Asked → Option Asked
if_right [] asked = asked
if_right (kind ∷ kinds) asked = None

-- what a line asks for, with the program's name first; None if it has a fault, or asks for help or the version
unfoldable pub asked_on : List Text → Option Asked
asked_on words = if_right (fault_of rvstm_app words) (requested words)

-- ---- what is printed

-- what is printed of a job that is run
abbrev pub PrintsResult : Contents → Option (List ℕ) → Option (List ℕ) → Text → Type 0
PrintsResult content old new file = IfSome (content file) (λ input.
    IfSome (answer_of content (parsed_block input)) (λ answer. IsOkAnd answer (Appends old new)))

-- the settings of a session, by the options
abbrev pub chain_settings : Option ℕ → Option ℕ → Bool → Bool → Settings
chain_settings limit gas digest brief = record { frame_limit = unwrap_or limit 67108864; frame_gas = gas; keeps_digest = digest; is_brief = brief }

-- what a session prints that a file keeps: it continues from what the file has
abbrev pub PrintsKept : Settings → Option (List ℕ) → Option (List ℕ) → List ℕ → Type 0
PrintsKept settings old new bytes = (first after : FileMoment) × IsServed (IsFileAnswer settings) None first bytes after old new

-- what a session prints: that of a new one, or of one that a file keeps, which has a digest
abbrev pub PrintsSession : Settings → Option Text → Option (List ℕ) → Option (List ℕ) → List ℕ → Type 0
PrintsSession settings None old new bytes = (after : State) × IsServed (IsAnswer settings) None (new_session settings) bytes after old new
PrintsSession settings (Some file) old new bytes = PrintsKept (record settings { keeps_digest = true }) old new bytes

-- what a command that is done prints, over the bytes of the files and of the input
abbrev pub Prints : Contents → Option (List ℕ) → Option (List ℕ) → Option (List ℕ) → Asked → Type 0
Prints content typed old new (RunOf file workers counts) = PrintsResult content old new file
Prints content typed old new (SeqOf file) = PrintsResult content old new file
Prints content typed old new (ConflictsOf file) = IfSome (content file) (λ input.
    IfSome (loaded_job content (parsed_block input)) (λ wanted. IsOkAnd wanted (λ job. AppendsConflicts job old new)))
Prints content typed old new (DriveOf file workers schedule counts) = IfSome (content file) (λ input.
    IfSome (driven_answer content (parsed_block input) workers (option_map parsed_schedule (content schedule))) (λ answer. IsOkAnd answer (Appends old new)))
Prints content typed old new (AsmOf file out) = new ≡ old
Prints content typed old new (DisOf file) = IfSome (content file) (λ bytes. IsOkAnd (listing_of_file bytes) (Appends old new))
Prints content typed old new (DebugOf file call more) = IfSome (content file) (λ input. IfSome typed (λ lines.
    IfSome (loaded_job content (parsed_block input)) (λ job. IsOkAnd (replayed_text more job call lines) (Appends old new))))
Prints content typed old new (MigrateOf file out) = new ≡ old
Prints content typed old new (ChainOf workers limit gas digest brief store) =
    IfSome typed (PrintsSession (chain_settings limit gas digest brief) store old new)

-- the counts that it prints on standard error, if `--counts` is given: those of the run
abbrev pub AreCountsAsked : Contents → Asked → Option RunCounts → Type 0
AreCountsAsked content (RunOf file workers true) (Some counts) = IfSome (content file) (λ input.
    IfSome (loaded_job content (parsed_block input)) (λ wanted. IsOkAnd wanted (λ job. AreCountsOfRun job workers counts)))
AreCountsAsked content (RunOf file workers true) None = ⊥
AreCountsAsked content (DriveOf file workers schedule true) (Some counts) = IfSome (content file) (λ input. IfSome (content schedule) (λ bytes.
    IfSome (loaded_job content (parsed_block input)) (λ wanted. IsOkAnd wanted (λ job.
    IsOkAnd (parsed_schedule bytes) (λ entries. AreCountsAlong job workers entries counts)))))
AreCountsAsked content (DriveOf file workers schedule true) None = ⊥
AreCountsAsked content asked counts = counts ≡ None

-- ---- what is put into files

-- what it puts at a path; `leads` resolves a path
abbrev pub PutsFile : Contents → (List ℕ → List ℕ) → Option Entries → Option Entries → Asked → Type 0
PutsFile content leads old new (AsmOf file out) = IfSome (content file) (λ source. IsOkAnd (file_of_source source) (IsPut old new (leads out)))
PutsFile content leads old new (MigrateOf file out) = IfSome (content file) (λ block. IsOkAnd (migrated block) (IsPut old new (leads out)))
PutsFile content leads old new asked = new ≡ old

-- a refused command has put nothing at OUT
abbrev pub PutsNothing : (List ℕ → List ℕ) → Option Entries → Option Entries → Asked → Type 0
PutsNothing leads old new (AsmOf file out) = Stays old new (leads out)
PutsNothing leads old new (MigrateOf file out) = Stays old new (leads out)
PutsNothing leads old new asked = ⊤

-- however a command ends, `asm` and `migrate` leave FILE as it was, and all others the whole disk
abbrev pub KeepsDisk : {D : Type 0} → (List ℕ → List ℕ) → (D → Option Entries) → D → D → Asked → Type 0
KeepsDisk leads entries old new (AsmOf file out) = KeepsFile (entries old) (entries new) (leads file) (leads out)
KeepsDisk leads entries old new (MigrateOf file out) = KeepsFile (entries old) (entries new) (leads file) (leads out)
KeepsDisk leads entries old new asked = new ≡ old

-- ---- what is asked of the stores

-- which store it opens and closes
abbrev pub AsksStores : Option (List StoreOrder) → Option (List StoreOrder) → Asked → Type 0
AsksStores old new (ChainOf workers limit gas digest brief (Some file)) = AsksForSession old new file
AsksStores old new asked = new ≡ old

-- what a refused command asked of them
abbrev pub AsksAsRefused : Option (List ℕ) → Option (List StoreOrder) → Option (List StoreOrder) → Asked → Refusal → Type 0
AsksAsRefused typed old new (ChainOf workers limit gas digest brief (Some file)) e = AsksInVain old new file × IfSome typed (λ _. AsksAsTold old new file e)
AsksAsRefused typed old new asked e = new ≡ old

-- the store that it opened is closed: files have what a store showed, whatever a crash leaves
abbrev pub ClosesStore : {F : Type 0} → (F → View → Type 0) → Asked → Type 0
ClosesStore {F} are_folded (ChainOf workers limit gas digest brief (Some file)) = AreClosed are_folded
ClosesStore {F} are_folded asked = ⊤

-- what a session printed from a moment on, and what its files hold in the end, if that is known: the session after its last
-- answer; and no wrong answer of the disk was taken as true
abbrev pub KeepsFrom : Settings → FileMoment → Option Trees → Option (List ℕ) → Option (List ℕ) → List ℕ → Type 0
KeepsFrom settings first now old new bytes = (after : FileMoment) × IsServed (IsFileAnswer settings) None first bytes after old new
    × IfSome now (λ db. (doubt after.is_clean ≡ 0) × HoldsState settings after.session db)

-- the session continued from the one that its files held before, or began a new one if they held no rows
abbrev pub KeepsSession : Settings → Option Trees → Option Trees → Option (List ℕ) → Option (List ℕ) → List ℕ → Type 0
KeepsSession settings before now old new bytes = (first : FileMoment) × KeepsFrom settings first now old new bytes
    × IfSome now (λ _. IfSome before (λ found. IsFoundIn settings found first.session))

-- the same of the files at a path and the requests of an input, if these are known; what all others hold stays as it was
abbrev pub KeepsSessionAt : Settings → TreesAt → TreesAt → Text → Option (List ℕ) → Option (List ℕ) → Option (List ℕ) → Type 0
KeepsSessionAt settings before now file typed old new = KeepsOthers before now file × IfSome typed (KeepsSession settings (before file) (now file) old new)

-- what the files of sessions hold after a command that is done
abbrev pub KeepsSessions : Option (List ℕ) → TreesAt → TreesAt → Option (List ℕ) → Option (List ℕ) → Asked → Type 0
KeepsSessions typed before now old new (ChainOf workers limit gas digest brief (Some file)) =
    KeepsSessionAt (record (chain_settings limit gas digest brief) { keeps_digest = true }) before now file typed old new
KeepsSessions typed before now old new asked = now ≡ before

-- ---- refusals

-- how a session is refused, and what it answered by then: want of memory for its input, or a fault that ended it
abbrev pub IsCutSession : Settings → Option (List ℕ) → Option (List ℕ) → List ℕ → Refusal → Type 0
IsCutSession settings old new bytes e = ((new ≡ old) × (e ≡ Seq Memory))
    ⊎ ((fault : ServeFault Infallible) × (after : State) × (e ≡ cut_of fault) × IsEndedBy ⊤ (IsAnswer settings) never_shut fault (new_session settings) bytes after old new)

-- the same of one that a file keeps: also what the file is refused as, before the session or when it is closed after it
abbrev pub IsCutKept : Type 0 → Settings → Option (List ℕ) → Option (List ℕ) → List ℕ → Refusal → Type 0
IsCutKept may_fail settings old new bytes e = ((new ≡ old) × ((e ≡ Seq Memory) ⊎ ((fault : StoreFault) × (e ≡ Store fault))))
    ⊎ ((fault : ServeFault StoreFault) × (first after : FileMoment) × (e ≡ durably_cut fault) × IsEndedBy may_fail (IsFileAnswer settings) (IsShutBy settings) fault first bytes after old new)
    ⊎ (PrintsKept settings old new bytes × ((fault : StoreFault) × (e ≡ Store fault)))

abbrev pub IsRefusedSession : Settings → Option Text → Option (List ℕ) → Option (List ℕ) → List ℕ → Refusal → Type 0
IsRefusedSession settings None old new bytes e = IsCutSession settings old new bytes e
IsRefusedSession settings (Some file) old new bytes e = IsCutKept ⊤ (record settings { keeps_digest = true }) old new bytes e

-- how it is refused, and what it printed by then
abbrev pub IsRefusedAs : Contents → Type 0 → Option (List ℕ) → (WriteFault → Type 0) → Option (List ℕ) → Option (List ℕ) → Asked → Refusal → Type 0
IsRefusedAs content may_fail typed may_refuse old new (RunOf file workers counts) =
    IsRefusedJob (Run run.Memory) (IsWorkersFault may_refuse workers) (content file ≡ None) (content file) content old new
IsRefusedAs content may_fail typed may_refuse old new (SeqOf file) =
    IsRefusedJob (Seq Memory) (IsRunFault may_refuse) (content file ≡ None) (content file) content old new
IsRefusedAs content may_fail typed may_refuse old new (ConflictsOf file) =
    IsRefusedJob (Seq Memory) (IsConflictsFault may_refuse) (content file ≡ None) (content file) content old new
IsRefusedAs content may_fail typed may_refuse old new (DriveOf file workers schedule counts) =
    IsRefusedJob (Drive drive.Memory) (IsScheduledFault (content schedule ≡ None) may_refuse workers (option_map parsed_schedule (content schedule)))
    (content file ≡ None) (content file) content old new
IsRefusedAs content may_fail typed may_refuse old new (AsmOf file out) =
    λ e. (new ≡ old) × ((e ≡ File Unwritable) ⊎ IfSome (content file) (λ bytes. IsSourceFault (content file ≡ None) bytes e))
IsRefusedAs content may_fail typed may_refuse old new (DisOf file) =
    IsListingFault (content file ≡ None) may_refuse (content file) old new
IsRefusedAs content may_fail typed may_refuse old new (DebugOf file call more) =
    λ e. IsRefusedJob (Seq Memory) (IsReplayedFault (MayBeCutOff may_fail typed) may_refuse call) (content file ≡ None) (content file) content old new e
    × IfSome (content file) (λ input. IfSome typed (λ lines. IfSome (loaded_job content (parsed_block input)) (λ job.
    IfOk (replayed_text more job call lines) (AppendsBeginning old new))))
IsRefusedAs content may_fail typed may_refuse old new (MigrateOf file out) =
    λ e. (new ≡ old) × ((e ≡ File Unwritable) ⊎ IfSome (content file) (λ bytes. IsBlockFault (content file ≡ None) (migrated bytes) e))
IsRefusedAs content may_fail typed may_refuse old new (ChainOf workers limit gas digest brief store) =
    λ e. IfSome typed (λ bytes. IsRefusedSession (chain_settings limit gas digest brief) store old new bytes e)

-- ---- what is printed on standard error

-- the counts were printed, if there are any
abbrev pub TellsCounts : Option (List ℕ) → Option (List ℕ) → Option RunCounts → Type 0
TellsCounts old new None = new ≡ old
TellsCounts old new (Some counts) = Appends old new (counts_text counts)

-- the counts could not all be printed, and the refusal that says so was printed, or a beginning of it
abbrev pub CutsCounts : Option (List ℕ) → Option (List ℕ) → RunCounts → Type 0
CutsCounts old new counts = (mid : Option (List ℕ)) × (fault : WriteFault) × AppendsPart old mid (counts_text counts)
    × AppendsBeginning mid new (refusal_line (Output fault))

-- the counts that are asked for were printed
abbrev pub TellsAsked : (Option RunCounts → Type 0) → Option (List ℕ) → Option (List ℕ) → Type 0
TellsAsked counted old new = (counts : Option RunCounts) × counted counts × TellsCounts old new counts

-- a text was printed: a beginning of it, and all of it if no write may fail
abbrev pub TellsText : (WriteFault → Type 0) → Option (List ℕ) → Option (List ℕ) → List ℕ → Type 0
TellsText may_refuse old new text = AppendsBeginning old new text × (¬ (may_refuse Io) → ¬ (may_refuse WroteNothing) → Appends old new text)

-- a command was refused, and the refusal was printed; or it was done, and its counts could not all be printed
abbrev pub IsTold : (WriteFault → Type 0) → (Refusal → Type 0) → Type 0 → (Option RunCounts → Type 0) → Option (List ℕ) → Option (List ℕ) → Type 0
IsTold may_refuse refused printed counted old new = ((e : Refusal) × refused e × TellsText may_refuse old new (refusal_line e))
    ⊎ ((counts : RunCounts) × printed × counted (Some counts) × CutsCounts old new counts)

-- a line has the fault that it asks for help or the version
abbrev pub IsShown : List Text → Type 0
IsShown words = IsAmong kind.DisplayHelp (fault_of rvstm_app words) ⊎ IsAmong kind.DisplayVersion (fault_of rvstm_app words)

-- what is printed if memory for a line ran out
abbrev pub no_memory_line : List ℕ
no_memory_line = codes "error: out of memory\n"
