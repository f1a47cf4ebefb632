use Rattle.std.proofs.Common.{◌≡◌, drop}
use Rattle.rv_step.specs.Replies.{replies_of}
use Rattle.conflicts.specs.Reads.{keys_in, keys_with}
use Rattle.conflicts.proofs.reading.keys_answered.Given as goal

abbrev pub invariant-loop-answer : goal.invariant-loop-answer
invariant-loop-answer l = keys_with l.keys (replies_of (drop l.answer-index l.answers)) ≡ keys_in (replies_of l.answers)
