use Rattle.std.proofs.Common.{arith}
use Rattle.debugger.proofs.MomentMoves.{went_back}
use Rattle.debugger.proofs.replay.Replay.go_to.Goals as goal

pub returns-then-moment : goal.returns-then-moment
returns-then-moment c =
    let less = c.if-moment.true in
    let value = c.moment.ensures.value in
    went_back c.go_back_to.result c.args.moment c.args.self.now c.go_back_to.new.self (λ n below. c.moment.ensures.earlier n (omega (arith, below, less, value)))
    c.go_back_to.ensures.ok c.go_back_to.ensures.err c.go_back_to.ensures.same
