use Rattle.std.proofs.Common.{rules, sym, subst}
use Rattle.stm_state.specs.State.{State, task_at}
use Rattle.stm_core.specs.CoreState.{block_in}
use Rattle.stm_core.specs.Driving.{IsRunOf}
use Rattle.stm_core.proofs.Answered.{read_fits}
use Rattle.stm_core.proofs.driving.read.Goals as goal

pub returns-in_ok-answer_stored-in-Given-clause-fits : goal.returns-in_ok-answer_stored-in-Given-clause-fits
returns-in_ok-answer_stored-in-Given-clause-fits c =
    let b = c.room_for_read.new.self in
    let calls = c.args.core.now.job.block in
    let fits : IsRunOf calls c.args.run (task_at b.state c.args.worker) = subst (λ (s : State). IsRunOf calls c.args.run (task_at s c.args.worker)) (sym c.room_for_read.ensures.state) c.requires.fits in
    read_fits (block_in b) calls c.args.worker c.args.key.now _ c.in-Given.origin c.args.run c.answer_stored.new.self c.requires.asked c.in_ok-answer_stored-in-Given.ensures.ok b.state c.read_sharing.new.self.state (search rules) c.in-Given.ensures.makes.0 fits (search rules)
