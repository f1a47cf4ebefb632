use Rattle.std.proofs.Common.{length-set, set, subst}
use Rattle.std.specs.Cmp.{nat_cmp_total}
use Rattle.std.specs.FinMap.{nat_cmp-IsAntisymmetric}
use Rattle.rv_ledger.proofs.Searches.{ascending_set}
use Rattle.mvmap.specs.Writers.{AreWritersAscending}
use Rattle.mvmap.proofs.Searches.{put_at, put_nowhere, refilled}
use Rattle.mvmap.proofs.writers.WriterSlots.put.Goals as goal

pub returns-in-Ok : goal.returns-in-Ok
returns-in-Ok c = rw (c.as_mut_slice.ensures.value, refilled c.self.inside.slots.items (set c.self.inside.slots.items c.in-Ok.at (c.args.writer, c.args.slot)) (length-set _ _ _), c.self.view_is)
    (put_at c.args.self.now (subst AreWritersAscending c.self.view_is c.self.invariant) c.args.writer c.in-Ok.at c.in-Ok.ensures.found c.args.slot)

pub returns-in-Err : goal.returns-in-Err
returns-in-Err c = put_nowhere c.args.self.now (subst AreWritersAscending c.self.view_is c.self.invariant) c.args.writer _ c.in-Err.ensures.absent c.args.slot

pub invariant_of-self : goal.invariant_of-self
invariant_of-self c = rw (c.as_mut_slice.ensures.value, refilled c.self.inside.slots.items (set c.self.inside.slots.items c.in-Ok.at (c.args.writer, c.args.slot)) (length-set _ _ _))
    (ascending_set nat_cmp_total nat_cmp-IsAntisymmetric c.self.inside.slots.items c.args.writer c.in-Ok.at c.args.slot c.self.invariant (rw c.self.view_is c.in-Ok.ensures.found))
