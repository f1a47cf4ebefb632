use Rattle.std.proofs.Common.{◌≡◌, map, take}
use Rattle.elf32.specs.Image.{segment_of}
use Rattle.elf32.proofs.reading.segments.Given as goal

abbrev pub invariant-loop-load : goal.invariant-loop-load
invariant-loop-load l = l.segments.items ≡ map (segment_of l.bytes) (take l.load-index l.loads)
