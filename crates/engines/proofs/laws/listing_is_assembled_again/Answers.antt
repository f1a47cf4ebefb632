use Rattle.std.proofs.Common.{arith}
use Rattle.engines.proofs.Again.{put_again}
use Rattle.engines.proofs.laws.listing_is_assembled_again.Goals as goal

pub returns : goal.returns
returns c content leads old new source out printed text is room at puts =
    put_again c.args.words.now (c.words_assembled_again.ensures (omega arith)) content leads old new source out printed text is at puts
