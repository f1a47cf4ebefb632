-- No name of a refusal has more than 16 bytes.
use Rattle.std.proofs.Common.{◌≤◌, length, lit≤}
use Rattle.rv_text.specs.Faults as asm
use Rattle.rv_text.specs.declared.fault.AsmCause.{AsmCause}
use Rattle.rv_text.specs.declared.fault.AsmCause.TheVariants as asm_cause
use Rattle.stm_core.specs.Faults as drive
use Rattle.stm_core.specs.declared.driving.DriveFault.{DriveFault}
use Rattle.stm_core.specs.declared.driving.DriveFault.TheVariants as drive_fault
use Rattle.workers.specs.Faults as run
use Rattle.workers.specs.declared.fault.RunFault.{RunFault}
use Rattle.workers.specs.declared.fault.RunFault.TheVariants as run_fault

pub short_asm : (c : AsmCause) → length (asm.name_of c) ≤ 16
short_asm asm_cause.Memory = lit≤ tt
short_asm c = lit≤ tt

pub short_run : (f : RunFault) → length (run.name_of f) ≤ 16
short_run run_fault.Memory = lit≤ tt
short_run f = lit≤ tt

pub short_drive : (f : DriveFault) → length (drive.name_of f) ≤ 16
short_drive drive_fault.Memory = lit≤ tt
short_drive f = lit≤ tt
