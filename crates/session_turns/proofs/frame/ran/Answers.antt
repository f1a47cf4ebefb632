use Rattle.session_turns.proofs.Frames.{ran_answers, run_fails}
use Rattle.session_turns.specs.Turn.{accepted}
use Rattle.session_turns.proofs.frame.ran.Goals as goal

pub returns-in-Ok-ran_accepted-clause-says : goal.returns-in-Ok-ran_accepted-clause-says
returns-in-Ok-ran_accepted-clause-says g c =
    ran_answers c.args.settings c.args.state.now (accepted c.args.settings c.args.state.now c.args.bytes.now) c.in-Ok.frame c.in-Ok-ran_accepted.ran c.in-Ok.ensures.says c.in-Ok-ran_accepted.ensures.ran

pub returns-in-Err-ran_accepted-clause-fails : goal.returns-in-Err-ran_accepted-clause-fails
returns-in-Err-ran_accepted-clause-fails g c =
    run_fails c.args.settings c.args.state.now c.args.bytes.now c.in-Ok.frame c.in-Err-ran_accepted.failure c.in-Ok.ensures.says c.in-Err-ran_accepted.ensures.failure
