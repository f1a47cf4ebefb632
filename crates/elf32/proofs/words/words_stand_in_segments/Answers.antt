use Rattle.elf32.proofs.Standing.{standing}
use Rattle.elf32.proofs.words.words_stand_in_segments.Goals as goal

pub returns : goal.returns
returns c = standing
