use Rattle.std.proofs.Common.{arith}
use Rattle.std.specs.FinMap.{len-entries}
use Rattle.stm_core.proofs.recording.check_limits.Goals as goal

pub returns-then-written_count-record_count-clause-full : goal.returns-then-written_count-record_count-clause-full
returns-then-written_count-record_count-clause-full c = λ _. omega (arith, len-entries c.args.writes.now)

pub returns-then-incarnation-eq-INCARNATION_LIMIT-clause-limit : goal.returns-then-incarnation-eq-INCARNATION_LIMIT-clause-limit
returns-then-incarnation-eq-INCARNATION_LIMIT-clause-limit c = λ _. (omega (arith, len-entries c.args.writes.now), omega arith)

pub returns-clause-within : goal.returns-clause-within
returns-clause-within c = (omega (arith, len-entries c.args.writes.now), omega arith)
