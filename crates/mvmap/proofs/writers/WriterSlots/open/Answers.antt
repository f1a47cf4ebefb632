use Rattle.std.proofs.Common.{arith, subst}
use Rattle.std.specs.Cmp.{nat_cmp_total}
use Rattle.std.specs.FinMap.{nat_cmp-IsAntisymmetric}
use Rattle.rv_ledger.proofs.Searches.{ascending_insert}
use Rattle.mvmap.specs.Writers.{AreWritersAscending}
use Rattle.mvmap.proofs.Searches.{made_in_gap, none_in_gap, there_already}
use Rattle.mvmap.proofs.writers.WriterSlots.open.Goals as goal

pub returns-in-Ok-clause-ok : goal.returns-in-Ok-clause-ok
returns-in-Ok-clause-ok c = there_already _ (subst AreWritersAscending c.self.view_is c.self.invariant) _ _ c.in-Ok.ensures.found

pub invariant_of-self-in-Err : goal.invariant_of-self-in-Err
invariant_of-self-in-Err c = rw c.in_ok-insert_vacant-in-Err.ensures.ok (ascending_insert nat_cmp_total nat_cmp-IsAntisymmetric _ _ _ _ c.self.invariant (rw c.self.view_is c.in-Err.ensures.absent))

pub returns-in_ok-insert_vacant-in-Err-clause-ok : goal.returns-in_ok-insert_vacant-in-Err-clause-ok
returns-in_ok-insert_vacant-in-Err-clause-ok c = rw (c.in_ok-insert_vacant-in-Err.ensures.ok, c.self.view_is) (made_in_gap _ (subst AreWritersAscending c.self.view_is c.self.invariant) _ _ c.in-Err.ensures.absent)

pub returns-in_err-insert_vacant-in-Err-clause-succeeds : goal.returns-in_err-insert_vacant-in-Err-clause-succeeds
returns-in_err-insert_vacant-in-Err-clause-succeeds c there = grind (arith, none_in_gap _ (subst AreWritersAscending c.self.view_is c.self.invariant) _ _ c.in-Err.ensures.absent)
