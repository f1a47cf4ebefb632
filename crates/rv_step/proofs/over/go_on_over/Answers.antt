use Rattle.std.proofs.Common.{◌≡◌, ap, rules}
use Rattle.std.specs.FinMap as map
use Rattle.rv_ledger.specs.Lent.{lent_content}
use Rattle.rv_step.proofs.Stops.{stops_fewer}
use Rattle.rv_step.proofs.StorageRuns.{asked_fewer, asked_over, stops_over}
use Rattle.rv_step.specs.Run.{is_running}
use Rattle.rv_step.proofs.over.go_on_over.Goals as goal

pub returns-in-Running : goal.returns-in-Running
returns-in-Running g c = record {
  over = stops_over c.run_until_stop.result (g.S.Contents.storage c.args.store.now) c.args.machine.now c.run_until_stop.new.machine c.args.stage.now c.run_until_stop.new.stage c.in-Running.is c.run_until_stop.ensures;
  fewer = stops_fewer c.run_until_stop.result c.args.machine.now c.run_until_stop.new.machine c.args.stage.now c.run_until_stop.new.stage (ap is_running c.in-Running.is) c.run_until_stop.ensures;
}

pub returns-in-Asked-clause-over : goal.returns-in-Asked-clause-over
returns-in-Asked-clause-over g c =
    let told : lent_content c.of_stored-content.result ≡ map.get (g.S.Contents.storage c.args.store.now) c.in-Asked.key = search rules in
    asked_over c.answer.result (g.S.Contents.storage c.args.store.now) c.args.machine.now c.answer.new.self c.args.stage.now c.answer.new.stage c.in-Asked.key _ c.in-Asked.is told c.answer.ensures

pub returns-in-Asked-clause-fewer : goal.returns-in-Asked-clause-fewer
returns-in-Asked-clause-fewer g c = asked_fewer c.answer.result c.args.machine.now c.answer.new.self c.args.stage.now c.answer.new.stage c.in-Asked.key _ c.in-Asked.is c.answer.ensures
