use Rattle.std.proofs.Common.{◌≡◌, ◌≤◌}
use Rattle.crossbeam_utils.specs.Seq.{IsSamePass, cell_view}
use Rattle.workers.proofs.done_cell.DoneCell.look.Given as goal

abbrev pub invariant-loop : goal.invariant-loop
invariant-loop g l = IsSamePass l.fn.pass l.pass × (cell_view l.fn.pass ≡ 1 → cell_view l.pass ≡ 1) × (l.looked ≡ l.counter) × (l.end ≤ 64)
