use Rattle.std.proofs.Common.{◌-◌, ◌∙◌, ap, vec_capacity, vec_len}
use Rattle.scheduler.specs.Schedule.{state_of}
use Rattle.stm_core.proofs.Swapped.{all_back, room_back, room_made, swapped_back, where_refused}
use Rattle.stm_core.proofs.read_room.make_answer_room.Goals as goal

pub returns-clause-room : goal.returns-clause-room
returns-clause-room c =
    room_made c.reserve-made.result _ _ _ c.reserve-made.ensures.ok c.swap_answers-2.ensures.own_room

pub returns-clause-same : goal.returns-clause-same
returns-clause-same c = λ v p. ap (state_of v p)
    (swapped_back c.args.scheduler.now c.swap_answers.new.self c.swap_answers-2.new.self c.args.worker c.args.spare.now.items c.reserve-made.new.self.items
    _ (vec_capacity c.reserve-made.new.self - vec_len c.reserve-made.new.self) c.requires
    (λ i answers blocked at. c.reserve-made.ensures.items ∙ c.swap_answers.ensures.answers i answers blocked at)
    c.swap_answers.ensures.schedule c.swap_answers-2.ensures.schedule)

pub returns-clause-unchanged : goal.returns-clause-unchanged
returns-clause-unchanged c =
    let back = swapped_back c.args.scheduler.now c.swap_answers.new.self c.swap_answers-2.new.self c.args.worker c.args.spare.now.items c.reserve-made.new.self.items
    _ (vec_capacity c.reserve-made.new.self - vec_len c.reserve-made.new.self) c.requires
    (λ i answers blocked at. c.reserve-made.ensures.items ∙ c.swap_answers.ensures.answers i answers blocked at)
    c.swap_answers.ensures.schedule c.swap_answers-2.ensures.schedule in
    where_refused c.reserve-made.result _ _
    (λ e. all_back c.args.scheduler.now c.swap_answers-2.new.self c.args.worker _ back (room_back _ _ _ _ _ e c.reserve-made.ensures.len c.swap_answers.ensures.room))
    c.reserve-made.ensures.err
