use Rattle.std.proofs.Common.{arith}
use Rattle.std.proofs.lemmas.Result.{IfErr-weaker}
use Rattle.sqlite_trees.specs.View.{IsClean}
use Rattle.session_tree.proofs.Causes.{other_limit}
use Rattle.session_tree.proofs.Tries.{called}
use Rattle.session_file.proofs.Causes.{long_answer}
use Rattle.session_file.proofs.writing.put_answer.Goals as goal

pub returns-clause-tries : goal.returns-clause-tries
returns-clause-tries g c =
    let old = g.S.Store.view c.args.store.now in
    called g.S.Store c.put.result c.put.ensures.err
    (λ clean.
    let first : IsClean old = omega (arith, c.put.ensures.quiet.clean, clean) in
    IfErr-weaker c.put.result _ _ (λ e why. other_limit old _ _ _ e (long_answer (c.args.line.now, c.args.bytes.now) _ _ (c.requires.reals first) c.in_ok-make_answer_row.ensures) why) (c.put.ensures.cause clean))
    c.put.ensures.told c.put.ensures.schema c.put.ensures.quiet
