use Rattle.elf32.proofs.Ascending.{ascending}
use Rattle.elf32.proofs.words.words_ascend.Goals as goal

pub returns : goal.returns
returns c = ascending
