use Rattle.elf32.proofs.Loads.{file_loads}
use Rattle.elf32.proofs.writing.file_loads.Goals as goal

pub returns : goal.returns
returns c = file_loads
