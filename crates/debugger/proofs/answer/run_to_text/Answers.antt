use Rattle.std.proofs.Common.{sym, ap, inl, rules}
use Rattle.debugger.specs.Replay.{has_pc}
use Rattle.debugger.specs.Session.{moved}
use Rattle.debugger.proofs.Stops.{on_err, stop_is}
use Rattle.debugger.proofs.answer.run_to_text.Goals as goal

pub returns-in-Ok-clause-text : goal.returns-in-Ok-clause-text
returns-in-Ok-clause-text c =
    let found = stop_is (has_pc c.args.pc) c.args.replay.now c.run_to.new.self c.in-Ok.ensures in
    rw found (search rules)

pub returns-in-Ok-clause-replay : goal.returns-in-Ok-clause-replay
returns-in-Ok-clause-replay c =
    let found = stop_is (has_pc c.args.pc) c.args.replay.now c.run_to.new.self c.in-Ok.ensures in
    rw found (search rules)

pub returns-in-Ok-clause-err : goal.returns-in-Ok-clause-err
returns-in-Ok-clause-err c =
    let found = stop_is (has_pc c.args.pc) c.args.replay.now c.run_to.new.self c.in-Ok.ensures in
    on_err c.where_line.result _ (inl (sym (ap (moved c.args.replay.now) found)))
