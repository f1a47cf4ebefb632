use Rattle.std.proofs.Common.{◌≡◌, List, [], ◌∷◌, arith, rules, refl, sym, ap, ◌∙◌}
use Rattle.std.proofs.lemmas.Result.{err_from_is_err_and}
use Rattle.sqlite_value.specs.Order.{Row}
use Rattle.sqlite_trees.specs.View.{View, IsClean}
use Rattle.sqlite_exec.proofs.CheckLemmas as lemma
use Rattle.session_tree.proofs.Tries.{quiet_on}
use Rattle.session_file.specs.Kept.{answer_row, answer_tree}
use Rattle.session_file.specs.Opening.{answer_parts}
use Rattle.session_file.specs.Rows.{HasNoAnswer}
use Rattle.session_file.proofs.Loads.{all_left}
use Rattle.session_file.proofs.Readings.{quiet_same, read_failed}
use Rattle.session_file.proofs.reading.read_answer.Goals as goal

pub returns-then-not-branch-clause-ok : goal.returns-then-not-branch-clause-ok
returns-then-not-branch-clause-ok g c clean =
    sym (all_left _ _ _ _ answer_tree c.clear.ensures (c.in_ok-seek.ensures.ok (omega (arith, c.next.ensures.quiet.clean))))
    ∙ lemma.ended _ _ 0 c.next.new.row (rw c.if-not-branch.true at (c.in_ok-next.ensures.ok clean))

pub returns-clause-ok : goal.returns-clause-ok
returns-clause-ok g c clean =
    let mid : IsClean (g.S.Store.view c.next.new.self) = omega (arith, c.next-2.ensures.quiet.clean) in
    let all = all_left _ _ _ _ answer_tree c.clear.ensures (c.in_ok-seek.ensures.ok (omega (arith, c.next.ensures.quiet.clean, c.next-2.ensures.quiet.clean))) in
    let one = lemma.stepped _ _ 0 c.next.new.row (rw c.if-not-branch.false at (c.in_ok-next.ensures.ok mid)) in
    let none = lemma.ended _ _ 0 c.next-2.new.row (rw c.if-branch.false at (c.in_ok-next-2.ensures.ok clean)) in
    let row : c.next.new.row ≡ answer_row (answer_parts c.in-Some.answer) = search rules in
    sym all ∙ one ∙ ap (λ (l : List Row). c.next.new.row ∷ l) none ∙ ap (λ (r : Row). r ∷ []) row

pub returns-in_err-seek-clause-reads : goal.returns-in_err-seek-clause-reads
returns-in_err-seek-clause-reads g c =
    let p = err_from_is_err_and c.from_residual.result c.from_residual.ensures.1 in
    rw (p.1, p.2) (read_failed g.S.Store HasNoAnswer c.args.store.now c.args.store.now _ _ (quiet_same g.S.Store c.args.store.now) (λ clean. refl) c.in_err-seek.ensures.cause c.in_err-seek.ensures.told c.seek.ensures.quiet)

pub returns-in_err-next-clause-reads : goal.returns-in_err-next-clause-reads
returns-in_err-next-clause-reads g c =
    let p = err_from_is_err_and c.from_residual-in_err-next.result c.from_residual-in_err-next.ensures.1 in
    rw (p.1, p.2) (read_failed g.S.Store HasNoAnswer c.args.store.now c.seek.new.self _ _ c.seek.ensures.quiet (λ clean. ap (λ (w : View). w.is_broken) (c.in_ok-seek.ensures.ok clean))
    c.in_err-next.ensures.cause c.in_err-next.ensures.told c.next.ensures.quiet)

pub returns-in_err-next-2-clause-reads : goal.returns-in_err-next-2-clause-reads
returns-in_err-next-2-clause-reads g c =
    let p = err_from_is_err_and c.from_residual-in_err-next-2.result c.from_residual-in_err-next-2.ensures.1 in
    rw (p.1, p.2) (read_failed g.S.Store HasNoAnswer c.args.store.now c.next.new.self _ _ (quiet_on g.S.Store _ _ _ c.seek.ensures.quiet c.next.ensures.quiet)
    (λ clean. ap (λ (w : View). w.is_broken) (c.in_ok-next.ensures.moves clean).same ∙ ap (λ (w : View). w.is_broken) (c.in_ok-seek.ensures.ok (omega (arith, c.next.ensures.quiet.clean, clean))))
    c.in_err-next-2.ensures.cause c.in_err-next-2.ensures.told c.next-2.ensures.quiet)
