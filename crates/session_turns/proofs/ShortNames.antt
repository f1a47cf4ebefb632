-- No name of a refusal has more than 16 bytes.
use Rattle.std.proofs.Common.{◌≤◌, length, lit≤}
use Rattle.block_file.specs.Faults as block
use Rattle.block_file.specs.declared.fault.Cause.{Cause}
use Rattle.block_file.specs.declared.fault.Cause.TheVariants as cause
use Rattle.elf32.specs.Refusals as elf
use Rattle.elf32.specs.declared.error.ElfError.{ElfError}
use Rattle.elf32.specs.declared.error.ElfError.TheVariants as elf_fault

pub short_cause : (c : Cause) → length (block.name_of c) ≤ 16
short_cause cause.Memory = lit≤ tt
short_cause c = lit≤ tt

pub short_elf : (e : ElfError) → length (elf.name_of e) ≤ 16
short_elf elf_fault.Memory = lit≤ tt
short_elf e = lit≤ tt
