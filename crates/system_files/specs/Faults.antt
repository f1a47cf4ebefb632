-- The fault of a step that failed.
use Rattle.std_io.specs.declared.io.kind.ErrorKind.{ErrorKind}
use Rattle.std_io.specs.declared.io.kind.ErrorKind.TheVariants.{OutOfMemory}
use Rattle.system_files.specs.declared.fault.ReplaceFault.{ReplaceFault}
use Rattle.system_files.specs.declared.fault.ReplaceFault.TheVariants.{Unwritable, Memory}

-- OutOfMemory is Memory, and any other error is Unwritable
abbrev pub fault_of : ErrorKind → ReplaceFault
fault_of OutOfMemory = Memory
fault_of _ = Unwritable
