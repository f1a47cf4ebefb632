use Rattle.std.proofs.Common.{◌≡◌, ◌++◌, map}
use Rattle.std.specs.List.{range_with_len}
use Rattle.elf32.specs.Words.{word_of_segment}
use Rattle.elf32.proofs.segment.Segment.put_words.Given as goal

abbrev pub invariant-loop-k : goal.invariant-loop-k
invariant-loop-k l =
    l.words.items ≡ l.initial.words.items ++ map (word_of_segment l.self) (range_with_len 0 l.k)
