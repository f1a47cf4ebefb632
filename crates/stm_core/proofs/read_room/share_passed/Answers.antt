use Rattle.std.proofs.Common.{◌∙◌, ap}
use Rattle.scheduler.specs.Schedule.{state_of}
use Rattle.stm_core.proofs.Swapped.{swapped_back}
use Rattle.stm_core.proofs.read_room.share_passed.Goals as goal

pub returns-clause-same : goal.returns-clause-same
returns-clause-same c = λ v p. ap (state_of v p)
    (swapped_back c.args.scheduler.now c.swap_answers.new.self c.swap_answers-2.new.self c.args.worker c.args.spare.now.items c.share_last.new.answers.items
    _ _ c.requires
    (λ i answers blocked at. c.share_last.ensures.items ∙ c.swap_answers.ensures.answers i answers blocked at)
    c.swap_answers.ensures.schedule c.swap_answers-2.ensures.schedule)
