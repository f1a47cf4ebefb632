use Rattle.std.proofs.Common.{◌≡◌, arith, rules}
use Rattle.std.proofs.lemmas.Result.{on_ok_weaker}
use Rattle.sqlite_value.specs.declared.value.Value.TheVariants.{Blob}
use Rattle.sqlite_value.specs.Order.{column}
use Rattle.sqlite_trees.specs.View.{IsClean}
use Rattle.session_tree.proofs.Sought.{key_removed, nothing_removed, other_kept, placed}
use Rattle.session_tree.proofs.keyed.remove_key.Goals as goal

pub returns-then-not-branch-clause-ok : goal.returns-then-not-branch-clause-ok
returns-then-not-branch-clause-ok g c clean m is =
    let mid : IsClean (g.S.Store.view c.seek.new.self) = omega (arith, c.next.ensures.quiet.clean) in
    let old : IsClean (g.S.Store.view c.args.store.now) = omega (arith, c.next.ensures.quiet.clean, c.seek.ensures.quiet.clean) in
    let at = placed _ _ _ m c.args.key.now _ c.in_ok-make_key.ensures (c.requires old) is (c.in_ok-seek.ensures.ok mid) in
    nothing_removed _ _ _ _ m c.args.key.now c.next.new.row at (rw c.if-not-branch.true at (c.in_ok-next.ensures.ok clean))

pub returns-then-not-is_of_key-clause-ok : goal.returns-then-not-is_of_key-clause-ok
returns-then-not-is_of_key-clause-ok g c clean m is =
    let mid : IsClean (g.S.Store.view c.seek.new.self) = omega (arith, c.next.ensures.quiet.clean) in
    let old : IsClean (g.S.Store.view c.args.store.now) = omega (arith, c.next.ensures.quiet.clean, c.seek.ensures.quiet.clean) in
    let at = placed _ _ _ m c.args.key.now _ c.in_ok-make_key.ensures (c.requires old) is (c.in_ok-seek.ensures.ok mid) in
    other_kept _ _ _ _ m c.args.key.now c.next.new.row at (rw c.if-not-branch.false at (c.in_ok-next.ensures.ok clean)) (search rules)

pub returns-clause-ok : goal.returns-clause-ok
returns-clause-ok g c =
    on_ok_weaker c.remove.result (λ set clean m is.
    let now : IsClean (g.S.Store.view c.next.new.self) = omega (arith, c.remove.ensures.quiet.clean) in
    let mid : IsClean (g.S.Store.view c.seek.new.self) = omega (arith, c.remove.ensures.quiet.clean, c.next.ensures.quiet.clean) in
    let old : IsClean (g.S.Store.view c.args.store.now) = omega (arith, c.remove.ensures.quiet.clean, c.next.ensures.quiet.clean, c.seek.ensures.quiet.clean) in
    let at = placed _ _ _ m c.args.key.now _ c.in_ok-make_key.ensures (c.requires old) is (c.in_ok-seek.ensures.ok mid) in
    let begins : column c.next.new.row 0 ≡ Blob c.args.key.now = search rules in
    key_removed _ _ _ _ _ m c.args.key.now c.next.new.row (c.requires old) at (rw c.if-not-branch.false at (c.in_ok-next.ensures.ok now)) begins (set clean))
    c.remove.ensures.ok
