use Rattle.std.proofs.lemmas.Result.{IfErr-weaker}
use Rattle.session_tree.proofs.Causes.{insert_cause}
use Rattle.session_tree.proofs.Tries.{called}
use Rattle.session_tree.proofs.changing.insert_new.Goals as goal

pub returns-clause-tries : goal.returns-clause-tries
returns-clause-tries g c =
    let old = g.S.Store.view c.args.store.now in
    rw c.in-Some.is (called g.S.Store c.insert.result c.insert.ensures.err
    (λ clean. IfErr-weaker c.insert.result _ _ (λ e why. insert_cause old _ (old.reals c.args.tree) c.args.key.now c.in-Some.value.now _ e c.in_ok-make_row.ensures why) (c.insert.ensures.cause clean))
    c.insert.ensures.told c.insert.ensures.schema c.insert.ensures.quiet)
