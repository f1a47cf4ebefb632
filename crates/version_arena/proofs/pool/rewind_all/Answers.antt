use Rattle.std.proofs.Common.{ap, ◌∙◌, arith}
use Rattle.std.proofs.lemmas.List.{length-set}
use Rattle.version_arena.specs.Chunks.{capacity_of}
use Rattle.version_arena.proofs.Chunks.{capacity-front, rewind_more}
use Rattle.version_arena.proofs.pool.rewind_all.Goals as goal

pub loop-i-preserved : goal.loop-i-preserved
loop-i-preserved c =
    let i = c.loop-i.i in let xs = c.loop-i.chunks.items in
    let state = rewind_more i c.args.chunks.now.items xs c.index_mut.result.now c.rewind.new.self (omega (arith, c.loop-i-test.true, c.len.ensures)) c.loop-i.invariant.state c.index_mut.ensures.value c.rewind.ensures in
    record { within = omega (arith, c.loop-i-test.true, c.len.ensures, length-set xs i c.rewind.new.self); state = state }

pub returns-clause-capacity : goal.returns-clause-capacity
returns-clause-capacity c = ap capacity_of c.loop-i.invariant.state ∙ capacity-front c.loop-i.i c.args.chunks.now.items
