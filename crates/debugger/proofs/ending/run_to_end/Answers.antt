use Rattle.std.proofs.Common.{◌≡◌, ◌+◌, ◌≤◌, ◌∙◌, sym, false, None, arith}
use Rattle.rv_step.specs.Moment.{is_over, moment_over}
use Rattle.debugger.proofs.Further.{further_earlier, further_gas, further_stands}
use Rattle.debugger.proofs.MomentMoves.{going_or_ended}
use Rattle.debugger.proofs.Moments.{within_gas}
use Rattle.debugger.proofs.ending.run_to_end.Goals as goal

pub overflow_add-moment : goal.overflow_add-moment
overflow_add-moment c =
    let call = c.args.call.now in
    let store = c.args.store.now in
    let at = c.loop-alloc.invariant in
    let going : is_over (moment_over call store c.loop-alloc.moment) ≡ false =
    going_or_ended _ c.loop-alloc.run.machine c.loop-alloc.run.stage at.stands (sym c.is_ended.ensures ∙ c.loop-alloc-test.true) in
    let near : c.loop-alloc.moment + c.in_ok-more.more ≤ call.gas + 1 =
    further_gas call store c.loop-alloc.moment c.loop-alloc.run c.go_run.new.run None _ c.in_ok-more.more at.stands going c.in_ok-more.ensures.ok at.earlier in
    omega (arith, near, at.gas)

pub loop-alloc-smaller : goal.loop-alloc-smaller
loop-alloc-smaller c =
    let going : is_over (moment_over c.args.call.now c.args.store.now c.loop-alloc.moment) ≡ false =
    going_or_ended _ c.loop-alloc.run.machine c.loop-alloc.run.stage c.loop-alloc.invariant.stands (sym c.is_ended.ensures ∙ c.loop-alloc-test.true) in
    let within = within_gas c.args.call.now c.args.store.now c.loop-alloc.moment going in
    let some = c.in_ok-more.ensures.ok.some in
    omega (arith, within, some)

pub loop-alloc-preserved : goal.loop-alloc-preserved
loop-alloc-preserved c =
    let call = c.args.call.now in
    let store = c.args.store.now in
    let at = c.loop-alloc.invariant in
    let going : is_over (moment_over call store c.loop-alloc.moment) ≡ false =
    going_or_ended _ c.loop-alloc.run.machine c.loop-alloc.run.stage at.stands (sym c.is_ended.ensures ∙ c.loop-alloc-test.true) in
    record {
      gas = at.gas;
      stands = further_stands call store c.loop-alloc.moment c.loop-alloc.run c.go_run.new.run None _ c.in_ok-more.more at.stands going c.in_ok-more.ensures.ok;
      earlier = further_earlier call store c.loop-alloc.moment c.loop-alloc.run c.go_run.new.run None _ c.in_ok-more.more at.stands going c.in_ok-more.ensures.ok at.earlier;
    }
