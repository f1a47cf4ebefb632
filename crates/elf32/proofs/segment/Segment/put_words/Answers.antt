use Rattle.std.proofs.Common.{arith, zero-add, append_assoc}
use Rattle.std.proofs.lemmas.List.FromFn.{map-range_with_len_more}
use Rattle.elf32.specs.Words.{word_of_segment}
use Rattle.elf32.proofs.segment.Segment.put_words.Goals as goal

pub loop-k-preserved : goal.loop-k-preserved
loop-k-preserved c =
    let more = map-range_with_len_more (word_of_segment c.args.self.now) 0 c.loop-k.k c.loop-k.k (zero-add _) in
    grind (arith, append_assoc, c.in_ok-push.ensures.items)
