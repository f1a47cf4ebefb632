use Rattle.always_ends.proofs.FairSchedules.{small_blocks_reach_the_end}
use Rattle.always_ends.proofs.SmallBlocks.{eight_calls_are_small, small_blocks_meet_no_limit}
use Rattle.always_ends.proofs.laws.small_blocks_end.Goals as goal

pub returns : goal.returns
returns c = record { limits = small_blocks_meet_no_limit; schedules = small_blocks_reach_the_end; eight = eight_calls_are_small }
