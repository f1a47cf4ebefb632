use Rattle.std.proofs.Common.{rules}
use Rattle.workers.proofs.Ways.{admits}
use Rattle.workers.proofs.done_cell.DoneCell.pass.Goals as goal

pub pass-requires : goal.pass-requires
pass-requires c = (search rules, (search rules, admits))
