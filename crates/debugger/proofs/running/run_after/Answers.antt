use Rattle.std.proofs.Common.{◌≡◌, false, arith}
use Rattle.rv_step.specs.Moment.{is_over, moment_over}
use Rattle.debugger.proofs.Further.{further_stands}
use Rattle.debugger.proofs.running.run_after.Goals as goal

pub loop-made-preserved : goal.loop-made-preserved
loop-made-preserved c =
    let made = c.loop-made.made in
    let going : is_over (moment_over c.args.call.now c.args.store.now made) ≡ false = c.requires made c.loop-made-test.true in
    let goes = c.in_ok-more.ensures.ok in
    let more = goes.within in
    let before = c.loop-made.invariant.within in
    record {
      stands = further_stands c.args.call.now c.args.store.now made c.loop-made.run c.go_run.new.run _ _ c.in_ok-more.more c.loop-made.invariant.stands going goes;
      within = omega (arith, more, before);
    }
