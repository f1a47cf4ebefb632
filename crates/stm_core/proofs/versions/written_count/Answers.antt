use Rattle.std.proofs.Common.{arith}
use Rattle.std.specs.FinMap.{len-entries}
use Rattle.stm_core.proofs.versions.written_count.Goals as goal

pub returns-clause-count : goal.returns-clause-count
returns-clause-count c = omega (arith, c.len.ensures, len-entries c.args.writes.now)

pub returns-clause-limit : goal.returns-clause-limit
returns-clause-limit c = omega (arith, c.len.ensures, c.holds.ensures)
