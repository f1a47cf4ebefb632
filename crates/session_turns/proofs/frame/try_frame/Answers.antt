use Rattle.std.proofs.Common.{◌<◌, sym, subst, refl}
use Rattle.rv_ledger.specs.Height.{greatest_height}
use Rattle.session_turns.specs.Failures.{MayFailFrame}
use Rattle.session_turns.specs.Stages.{IsRequestAnswered}
use Rattle.session_turns.specs.Turn.{try_turn}
use Rattle.session_turns.specs.declared.answer.Answer.{Answer}
use Rattle.session_turns.proofs.Frames.{try_done, try_stopped}
use Rattle.session_turns.proofs.frame.try_frame.Goals as goal

pub returns-in-Ok : goal.returns-in-Ok
returns-in-Ok g c = (try_done c.args.settings c.args.state.now c.args.bytes.now (c.in-Ok.text, c.in-Ok.field-0-1, c.in-Ok.left) c.if-state-ge-GREATEST_HEIGHT.false c.in-Ok.ensures.says, refl)

pub returns-in-Err : goal.returns-in-Err
returns-in-Err g c = subst
    (λ (a : Answer). IsRequestAnswered (λ failure. (c.args.state.now.height < greatest_height) × MayFailFrame c.args.settings c.args.state.now c.args.bytes.now failure) c.args.state.now (try_turn c.args.settings c.args.state.now c.args.bytes.now) a c.args.state.now)
    (sym c.answer.ensures) (try_stopped c.args.settings c.args.state.now c.args.bytes.now c.in-Err.stop c.if-state-ge-GREATEST_HEIGHT.false c.in-Err.ensures.says c.in-Err.ensures.fails)
