use Rattle.std.proofs.Common.{◌∙◌, ℕ, Some, ap}
use Rattle.rv_ledger.specs.Lent.{lent_change}
use Rattle.mvmap.specs.Versions.{Stands}
use Rattle.mvmap.specs.Reading.{Visible, visible_over}
use Rattle.mvmap.specs.Slots.{seen_in}
use Rattle.mvmap.proofs.Sums.{walk_passes}
use Rattle.mvmap.proofs.walk.walk.Goals as goal

pub loop-writer-preserved : goal.loop-writer-preserved
loop-writer-preserved c =
    let seen : ℕ → Visible = seen_in c.args.arena.now.records c.args.at_key.now in
    let found = c.in-Standing-default-Sum in
    let nearest = found.ensures.1 ∙ ap (λ d. visible_over found.version.writer (Some (Stands found.version.incarnation (lent_change d))) (seen found.version.writer)) found.field-1-is in record {
      passed = rw (c.push_reserved.ensures.items, c.total_amount.ensures)
          (walk_passes seen c.args.i c.loop-writer.below c.loop-writer.passed.items c.loop-writer.sum c.loop-writer.invariant.passed found.version found.amount found.ensures.0 nearest);
      room = c.push_reserved.ensures.capacity ∙ c.loop-writer.invariant.room;
    }
