use Rattle.std.proofs.Common.{arith}
use Rattle.std.proofs.lemmas.Result.{on_ok_weaker}
use Rattle.sqlite_trees.specs.View.{IsClean}
use Rattle.session_tree.proofs.Tries.{after}
use Rattle.session_tree.proofs.Sought.{key_set}
use Rattle.session_tree.proofs.keyed.set_key.Goals as goal

pub returns-clause-ok : goal.returns-clause-ok
returns-clause-ok g c =
    on_ok_weaker c.change_entry.result (λ set clean m is.
    let mid : IsClean (g.S.Store.view c.remove_key.new.store) = omega (arith, c.change_entry.ensures.tries.quiet.clean) in
    key_set _ _ _ _ m c.args.key.now c.args.value.now (c.in_ok-remove_key.ensures.ok mid m is) (set clean))
    c.change_entry.ensures.ok

pub returns-clause-tries : goal.returns-clause-tries
returns-clause-tries g c = after g.S.Store c.change_entry.result c.in_ok-remove_key.ensures.tries c.in_ok-remove_key.ensures.frame c.change_entry.ensures.tries
