use Rattle.std.proofs.Common.{arith}
use Rattle.std.proofs.lemmas.Result.{IfErr-weaker}
use Rattle.sqlite_trees.specs.View.{IsClean}
use Rattle.session_tree.proofs.Causes.{other_limit}
use Rattle.session_tree.proofs.Tries.{called}
use Rattle.session_file.proofs.Causes.{session_stored}
use Rattle.session_file.proofs.writing.put_session.Goals as goal

pub returns-clause-tries : goal.returns-clause-tries
returns-clause-tries g c =
    let old = g.S.Store.view c.args.store.now in
    called g.S.Store c.put.result c.put.ensures.err
    (λ clean.
    let first : IsClean old = omega (arith, c.put.ensures.quiet.clean, clean) in
    IfErr-weaker c.put.result _ _ (λ e why. other_limit old _ _ _ e (λ not. absurd (session_stored c.args.session _ _ c.in_ok-make_session_row.ensures.digest (c.requires.reals first) c.in_ok-make_session_row.ensures.row not)) why) (c.put.ensures.cause clean))
    c.put.ensures.told c.put.ensures.schema c.put.ensures.quiet
