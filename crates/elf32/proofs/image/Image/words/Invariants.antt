use Rattle.std.proofs.Common.{◌≡◌, take}
use Rattle.std.specs.Prelude.{flat_map}
use Rattle.elf32.specs.Words.{words_of_segment}
use Rattle.elf32.proofs.image.Image.words.Given as goal

abbrev pub invariant-loop-segment : goal.invariant-loop-segment
invariant-loop-segment l = l.words.items ≡ flat_map words_of_segment (take l.segment-index l.segment-items)
