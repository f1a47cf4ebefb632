use Rattle.std.proofs.Common.{◌≡◌, IsTrue, ap, subst, ◌∙◌, arith}
use Rattle.sqlite_wal.specs.Files.{outcomes}
use Rattle.sqlite_wal.specs.Reads.{AreClean}
use Rattle.sqlite_wal.proofs.StateLemmas.{open_from}
use Rattle.sqlite_pool.proofs.StateLemmas.{clean_is, may_leave_is}
use Rattle.sqlite_trees.proofs.Doubt.{clean_of as sure, no_doubt}
use Rattle.sqlite_trees.specs.View.{View, IsClean}
use Rattle.sqlite_store.specs.FileStore.{state, view}
use Rattle.session_disk.specs.Closing.{AreFolded}
use Rattle.session_disk.proofs.Stores.{folded}
use Rattle.session_disk.proofs.closing.close_files.Goals as goal

pub returns-in-Ok-clause-folded : goal.returns-in-Ok-clause-folded
returns-in-Ok-clause-folded g c honest numbered now may =
    let before = c.rollback.new.self in
    let last = c.checkpoint.new.self in
    let quiet = c.checkpoint.ensures.quiet in
    let sure_now = subst (λ p. AreClean g.D.Disk p.0 p.1) c.close.ensures honest in
    let none : IsClean (view last) = no_doubt _ (clean_is last.pool ∙ sure_now) in
    let clean : IsClean (view before) = omega (arith, quiet.clean) in
    let h = open_from (state before) c.in-Ok.ensures.ready (sure (view before).is_clean clean) in
    let back = c.rollback.ensures.undone.kept clean in
    let on = c.in-Ok.ensures.open none in
    let same = c.checkpoint.ensures.same on in
    let numbered_now : IsTrue (view last).is_numbered = ap (λ (v : View). v.is_numbered) same ∙ back.numbered ∙ numbered in
    let committed : (view last).committed ≡ (view c.args.store).committed = ap (λ (v : View). v.committed) same ∙ back.committed h in
    subst (AreFolded now) committed (folded last g.met.D.Disk.seen_may_stay on numbered_now (c.in-Ok.ensures.moved (c.rollback.ensures.logged (back.was_open h))) now
    (may_leave_is last.pool now sure_now (subst (λ p. outcomes g.D.Disk p.0 p.1 now) c.close.ensures may)))

pub returns-in-Err-clause-err : goal.returns-in-Err-clause-err
returns-in-Err-clause-err g c db may = c.rollback.ensures.quiet.outcomes db (c.checkpoint.ensures.quiet.outcomes db may)
