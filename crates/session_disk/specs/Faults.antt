-- The faults of an open, by the errors of the calls below.
use Rattle.std.specs.Prelude.{ℕ, ◌==◌, if◌then◌else◌}
use Rattle.std_io.specs.IoError.{error_kind}
use Rattle.std_io.specs.declared.io.kind.ErrorKind.{ErrorKind}
use Rattle.std_io.specs.declared.io.kind.ErrorKind.TheVariants as kind
use Rattle.sqlite_std_file.specs.declared.pair.OpenError as path
use Rattle.sqlite_std_file.specs.declared.pair.OpenError.TheVariants as named
use Rattle.sqlite_wal.specs.declared.error.Error as log
use Rattle.sqlite_wal.specs.declared.error.Error.TheVariants as wal
use Rattle.sqlite_store.specs.declared.error.OpenError.{OpenError}
use Rattle.sqlite_store.specs.declared.error.OpenError.TheVariants as opening
use Rattle.session_disk.specs.declared.fault.OpenFault.{OpenFault}
use Rattle.session_disk.specs.declared.fault.OpenFault.TheVariants.{Busy, HotJournal, Unreadable, NotASession, Full, Memory}

abbrev pub probe_fault : log.Error → OpenFault
probe_fault wal.OutOfMemory = Memory
probe_fault (wal.Io e) = Unreadable
probe_fault wal.Full = Full
probe_fault _ = NotASession

abbrev pub store_fault : OpenError → OpenFault
store_fault opening.OutOfMemory = Memory
store_fault opening.Io = Unreadable
store_fault opening.Full = Full
store_fault opening.Refused = NotASession

-- the fault of a call of the system
abbrev pub system_fault : ErrorKind → OpenFault
system_fault kind.OutOfMemory = Memory
system_fault _ = Unreadable

-- the fault of opening the two files at a path
abbrev pub path_fault : path.OpenError → OpenFault
path_fault named.OutOfMemory = Memory
path_fault (named.Io e) = system_fault (error_kind e)
path_fault named.Busy = Busy
path_fault named.HotJournal = HotJournal

-- the fault that an open reports: Full for a failed call, if writes found no room
abbrev pub reported_fault : ℕ → OpenFault → OpenFault
reported_fault refused Unreadable = if refused == 0 then Unreadable else Full
reported_fault refused fault = fault
