use Rattle.std.proofs.Common.{◌≡◌, ◌≢◌, List, [], ◌∷◌, arith, rules, refl, sym, ap, ◌∙◌}
use Rattle.std.proofs.lemmas.Result.{err_from_is_err_and}
use Rattle.sqlite_value.specs.Order.{Row}
use Rattle.sqlite_trees.specs.View.{View, IsClean}
use Rattle.sqlite_exec.proofs.CheckLemmas as lemma
use Rattle.session_tree.proofs.Tries.{quiet_on}
use Rattle.session_file.specs.Kept.{IsSessionInLimits, session_row, session_tree}
use Rattle.session_file.specs.Rows.{HasNoSession}
use Rattle.session_file.specs.declared.rows.SessionRow.{SessionRow}
use Rattle.session_file.proofs.Loads.{all_left, no_session, two_sessions}
use Rattle.session_file.proofs.Readings.{quiet_same, read_damaged, read_failed}
use Rattle.session_file.proofs.reading.read_session.Goals as goal

pub returns-then-not-branch-clause-ok : goal.returns-then-not-branch-clause-ok
returns-then-not-branch-clause-ok g c clean =
    sym (all_left _ _ _ _ session_tree c.clear.ensures (c.in_ok-seek.ensures.ok (omega (arith, c.next.ensures.quiet.clean))))
    ∙ lemma.ended _ _ 0 c.next.new.row (rw c.if-not-branch.true at (c.in_ok-next.ensures.ok clean))

pub returns-clause-ok : goal.returns-clause-ok
returns-clause-ok g c clean =
    let mid : IsClean (g.S.Store.view c.next.new.self) = omega (arith, c.next-2.ensures.quiet.clean) in
    let all = all_left _ _ _ _ session_tree c.clear.ensures (c.in_ok-seek.ensures.ok (omega (arith, c.next.ensures.quiet.clean, c.next-2.ensures.quiet.clean))) in
    let one = lemma.stepped _ _ 0 c.next.new.row (rw c.if-not-branch.false at (c.in_ok-next.ensures.ok mid)) in
    let none = lemma.ended _ _ 0 c.next-2.new.row (rw c.if-branch.false at (c.in_ok-next-2.ensures.ok clean)) in
    let row : c.next.new.row ≡ session_row c.in-Some.session = search rules in
    sym all ∙ one ∙ ap (λ (l : List Row). c.next.new.row ∷ l) none ∙ ap (λ (r : Row). r ∷ []) row

pub returns-in_default-clause-reads : goal.returns-in_default-clause-reads
returns-in_default-clause-reads g c =
    read_damaged g.S.Store HasNoSession c.args.store.now c.seek.new.self _ c.seek.ensures.quiet c.next.ensures.quiet (λ clean.
    let all = all_left _ _ _ _ session_tree c.clear.ensures (c.in_ok-seek.ensures.ok (omega (arith, c.next.ensures.quiet.clean))) in
    let one = lemma.stepped _ _ 0 c.next.new.row (rw c.if-not-branch.false at (c.in_ok-next.ensures.ok clean)) in
    let none : (s : SessionRow) → IsSessionInLimits s → c.next.new.row ≢ session_row s = search rules in
    no_session (g.S.Store.view c.args.store.now) c.next.new.row _ (sym all ∙ one) (c.is_of_other_version.ensures.this c.if-is_of_other_version.false) none)

pub returns-then-branch-clause-reads : goal.returns-then-branch-clause-reads
returns-then-branch-clause-reads g c =
    read_damaged g.S.Store HasNoSession c.args.store.now c.next.new.self _ (quiet_on g.S.Store _ _ _ c.seek.ensures.quiet c.next.ensures.quiet) c.next-2.ensures.quiet (λ clean.
    let mid : IsClean (g.S.Store.view c.next.new.self) = omega (arith, c.next-2.ensures.quiet.clean) in
    let all = all_left _ _ _ _ session_tree c.clear.ensures (c.in_ok-seek.ensures.ok (omega (arith, c.next.ensures.quiet.clean, c.next-2.ensures.quiet.clean))) in
    let one = lemma.stepped _ _ 0 c.next.new.row (rw c.if-not-branch.false at (c.in_ok-next.ensures.ok mid)) in
    let two = lemma.stepped _ _ 0 c.next-2.new.row (rw c.if-branch.true at (c.in_ok-next-2.ensures.ok clean)) in
    two_sessions (g.S.Store.view c.args.store.now) c.next.new.row c.next-2.new.row _ (sym all ∙ one ∙ ap (λ (l : List Row). c.next.new.row ∷ l) two) (c.is_of_other_version.ensures.this c.if-is_of_other_version.false))

pub returns-in_err-seek-clause-reads : goal.returns-in_err-seek-clause-reads
returns-in_err-seek-clause-reads g c =
    let p = err_from_is_err_and c.from_residual.result c.from_residual.ensures.1 in
    rw (p.1, p.2) (read_failed g.S.Store HasNoSession c.args.store.now c.args.store.now _ _ (quiet_same g.S.Store c.args.store.now) (λ clean. refl) c.in_err-seek.ensures.cause c.in_err-seek.ensures.told c.seek.ensures.quiet)

pub returns-in_err-next-clause-reads : goal.returns-in_err-next-clause-reads
returns-in_err-next-clause-reads g c =
    let p = err_from_is_err_and c.from_residual-in_err-next.result c.from_residual-in_err-next.ensures.1 in
    rw (p.1, p.2) (read_failed g.S.Store HasNoSession c.args.store.now c.seek.new.self _ _ c.seek.ensures.quiet (λ clean. ap (λ (w : View). w.is_broken) (c.in_ok-seek.ensures.ok clean))
    c.in_err-next.ensures.cause c.in_err-next.ensures.told c.next.ensures.quiet)

pub returns-in_err-next-2-clause-reads : goal.returns-in_err-next-2-clause-reads
returns-in_err-next-2-clause-reads g c =
    let p = err_from_is_err_and c.from_residual-in_err-next-2.result c.from_residual-in_err-next-2.ensures.1 in
    rw (p.1, p.2) (read_failed g.S.Store HasNoSession c.args.store.now c.next.new.self _ _ (quiet_on g.S.Store _ _ _ c.seek.ensures.quiet c.next.ensures.quiet)
    (λ clean. ap (λ (w : View). w.is_broken) (c.in_ok-next.ensures.moves clean).same ∙ ap (λ (w : View). w.is_broken) (c.in_ok-seek.ensures.ok (omega (arith, c.next.ensures.quiet.clean, clean))))
    c.in_err-next-2.ensures.cause c.in_err-next-2.ensures.told c.next-2.ensures.quiet)
