-- What is printed of a session's file that is not opened, or did not take a change.
use Rattle.std.specs.Prelude.{codes}
use Rattle.byte_streams.specs.Refusals.{Parts, without_line}
use Rattle.sqlite_trees.specs.declared.error.StoreError.{StoreError}
use Rattle.sqlite_trees.specs.declared.error.StoreError.TheVariants as store
use Rattle.session_states.specs.declared.fault.StoreFault.{StoreFault}
use Rattle.session_states.specs.declared.fault.StoreFault.TheVariants.{Busy, HotJournal, Unreadable, NotASession, OtherVersion, OtherSettings, Damaged, Full, Memory}

abbrev pub store_fault_parts : StoreFault → Parts
store_fault_parts Busy = without_line (codes "store") (codes "Busy") 1
store_fault_parts HotJournal = without_line (codes "store") (codes "HotJournal") 2
store_fault_parts Unreadable = without_line (codes "store") (codes "Unreadable") 3
store_fault_parts NotASession = without_line (codes "store") (codes "NotASession") 4
store_fault_parts OtherVersion = without_line (codes "store") (codes "OtherVersion") 5
store_fault_parts OtherSettings = without_line (codes "store") (codes "OtherSettings") 6
store_fault_parts Damaged = without_line (codes "store") (codes "Damaged") 7
store_fault_parts Full = without_line (codes "store") (codes "Full") 8
store_fault_parts Memory = without_line (codes "store") (codes "Memory") 9

-- the fault of a store's error; a row that is too long for the format, or a number of 2^63 or above, has no room
abbrev pub fault_of_store : StoreError → StoreFault
fault_of_store store.OutOfMemory = Memory
fault_of_store store.Io = Unreadable
fault_of_store store.Corrupt = Damaged
fault_of_store store.Broken = Damaged
fault_of_store store.Full = Full
fault_of_store store.Unstorable = Full
