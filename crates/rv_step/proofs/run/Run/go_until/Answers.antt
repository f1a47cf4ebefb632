use Rattle.std.proofs.Common.{◌≡◌, false, sym}
use Rattle.rv_step.specs.Until.{stops_at}
use Rattle.rv_step.proofs.Walks.{goes_more, one_goes}
use Rattle.rv_step.proofs.run.Run.go_until.Goals as goal

pub loop-made-init : goal.loop-made-init
loop-made-init c = one_goes c.args.stop c.args.most c.args.self.now c.step_one.new.self c.requires.some c.requires.running c.in_ok-step_one.ensures.ok

pub loop-made-preserved : goal.loop-made-preserved
loop-made-preserved c =
    let on : stops_at c.args.stop c.loop-made.self ≡ false = sym (rw c.if-not-stops_at.true at c.stops_at.ensures) in
    goes_more c.args.stop c.args.most c.loop-made.made c.in-Ok.more c.args.self.now c.loop-made.self c.go_on.new.self c.loop-made.invariant on c.in-Ok.ensures.ok
