use Rattle.std.proofs.Common.{◌≡◌, map, take}
use Rattle.stm_state.specs.Steps.{read_of}
use Rattle.stm_core.proofs.reads.many_reads_in.Given as goal

abbrev pub invariant-loop-answer : goal.invariant-loop-answer
invariant-loop-answer l = l.reads ≡ map read_of (take l.answer-index l.answers)
