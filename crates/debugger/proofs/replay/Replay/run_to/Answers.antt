use Rattle.debugger.specs.Replay.{has_pc}
use Rattle.debugger.proofs.Further.{fewer_to_come}
use Rattle.debugger.proofs.replay.Replay.run_to.Goals as goal

pub loop-self-smaller : goal.loop-self-smaller
loop-self-smaller c =
    let went = c.in_ok-go_further-2.ensures in
    fewer_to_come (has_pc c.args.pc) c.loop-self.self c.go_further-in-loop-self.new.self went.0 went.1 went.2
