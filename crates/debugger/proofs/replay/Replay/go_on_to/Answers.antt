use Rattle.std.proofs.Common.{ℕ, ◌<◌, sym, subst, ◌∙◌}
use Rattle.debugger.proofs.MomentMoves.{back_is, no_moment}
use Rattle.debugger.proofs.replay.Replay.go_on_to.Goals as goal

pub returns-then-is_at_end : goal.returns-then-is_at_end
returns-then-is_at_end c = (
  no_moment c.args.moment c.args.self.now c.loop-self.self c.loop-self.invariant.towards.call c.loop-self.invariant.towards.store
      (subst (λ (k : ℕ). k < c.args.moment) c.moment.ensures.value c.loop-self-test.true) (sym c.is_at_end.ensures ∙ c.if-is_at_end.true),
  back_is c.args.self.now c.loop-self.self c.go_back_to.new.self c.moment-first.result c.loop-self.invariant.towards.call c.loop-self.invariant.towards.store c.loop-self.invariant.first
      c.in_ok-go_back_to.ensures.ok,
)
