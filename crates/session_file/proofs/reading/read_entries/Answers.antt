use Rattle.std.proofs.Common.{◌≡◌, arith, rules, sym, ap, ◌∙◌, refl, subst}
use Rattle.std.specs.FinMap.{entries}
use Rattle.std.proofs.lemmas.Result.{err_from_is_err_and}
use Rattle.sqlite_value.specs.Order.{bytes, column}
use Rattle.sqlite_trees.specs.View.{View}
use Rattle.sqlite_exec.proofs.CheckLemmas as lemma
use Rattle.session_tree.specs.Entries.{entry_row}
use Rattle.session_file.specs.Rows.{HasNoEntries, IsAbove}
use Rattle.session_file.proofs.Lists.{all_taken, found_next, none_taken, one_key, one_taken}
use Rattle.session_file.proofs.Loads.{all_left}
use Rattle.session_file.proofs.Readings.{quiet_same, read_damaged, read_failed}
use Rattle.session_file.proofs.reading.read_entries.Goals as goal

pub rows-init : goal.rows-init
rows-init g c = (
  search rules,
  search rules,
  search rules,
  none_taken _ _ _ _ _ c.requires.empty (λ clean. all_left _ _ _ _ c.args.tree c.clear.ensures (c.in_ok-seek.ensures.ok clean)),
  search rules,
)

pub returns-then-not-branch-clause-ok : goal.returns-then-not-branch-clause-ok
returns-then-not-branch-clause-ok g c =
    all_taken _ _ _ _ _ _ _ (λ clean. omega (arith, c.next.ensures.quiet.clean, clean)) (λ clean. lemma.ended _ _ 0 c.next.new.row (rw c.if-not-branch.true at (c.in_ok-next.ensures.ok clean))) c.rows.invariant.3

pub returns-in_default-clause-reads : goal.returns-in_default-clause-reads
returns-in_default-clause-reads g c =
    read_damaged g.S.Store (HasNoEntries g.E.Entries.fits c.args.tree) c.args.store.now c.rows.store _ c.rows.invariant.2 c.next.ensures.quiet (λ clean m all is.
    let step = lemma.stepped _ _ 0 c.next.new.row (rw c.if-not-branch.false at (c.in_ok-next.ensures.ok clean)) in
    let it = found_next g.E.Entries.fits (entries c.rows.invariant.3.taken) c.next.new.row _ _ _ m (c.rows.invariant.3.before (omega (arith, c.next.ensures.quiet.clean))) step is all in
    c.in_default.ensures.none refl it.entry.0 it.entry.1 it.key it.row)

pub returns-then-not-is_above-clause-reads : goal.returns-then-not-is_above-clause-reads
returns-then-not-is_above-clause-reads g c =
    read_damaged g.S.Store (HasNoEntries g.E.Entries.fits c.args.tree) c.args.store.now c.rows.store _ c.rows.invariant.2 c.next.ensures.quiet (λ clean m all is.
    let step = lemma.stepped _ _ 0 c.next.new.row (rw c.if-not-branch.false at (c.in_ok-next.ensures.ok clean)) in
    let it = found_next g.E.Entries.fits (entries c.rows.invariant.3.taken) c.next.new.row _ _ _ m (c.rows.invariant.3.before (omega (arith, c.next.ensures.quiet.clean))) step is all in
    let row : c.next.new.row ≡ entry_row (c.in-Some.key, bytes (column c.next.new.row 1)) = c.in-Some.ensures.some in
    let same : entry_row (c.in-Some.key, bytes (column c.next.new.row 1)) ≡ entry_row it.entry = sym row ∙ it.row in
    let key : it.entry.0 ≡ c.in-Some.key = sym (one_key (c.in-Some.key, bytes (column c.next.new.row 1)) it.entry same) in
    c.is_above.ensures.other c.if-not-is_above.true (subst (λ k. IsAbove k c.rows.last) key (subst (IsAbove it.entry.0) (sym c.rows.invariant.3.last) it.above)))

pub returns-then-not-branch-2-clause-reads : goal.returns-then-not-branch-2-clause-reads
returns-then-not-branch-2-clause-reads g c =
    read_damaged g.S.Store (HasNoEntries g.E.Entries.fits c.args.tree) c.args.store.now c.rows.store _ c.rows.invariant.2 c.next.ensures.quiet (λ clean m all is.
    let step = lemma.stepped _ _ 0 c.next.new.row (rw c.if-not-branch.false at (c.in_ok-next.ensures.ok clean)) in
    let it = found_next g.E.Entries.fits (entries c.rows.invariant.3.taken) c.next.new.row _ _ _ m (c.rows.invariant.3.before (omega (arith, c.next.ensures.quiet.clean))) step is all in
    let value : it.entry.1 ≡ c.bytes_of.result.now = sym (c.bytes_of.ensures ∙ ap bytes c.get.ensures ∙ ap (λ r. bytes (column r 1)) it.row) in
    c.in_ok-take.ensures.refused c.if-not-branch-2.true (subst g.E.Entries.fits value it.value))

pub rows-preserved : goal.rows-preserved
rows-preserved g c =
    let value = c.bytes_of.result.now in
    let blob : bytes (column c.next.new.row 1) ≡ value = sym (c.bytes_of.ensures ∙ ap bytes c.get.ensures) in
    let row : c.next.new.row ≡ entry_row (c.in-Some.key, value) = c.in-Some.ensures.some ∙ ap (λ b. entry_row (c.in-Some.key, b)) blob in (
      search rules,
      search rules,
      search rules,
      one_taken _ _ _ c.rows.last _ _ c.in-Some.key value _ _ _ _ (c.in_ok-take.ensures.taken c.if-not-branch-2.false) (c.is_above.ensures.above c.if-not-is_above.false) c.in-Some.ensures.count
          (c.in_ok-take.ensures.fits c.if-not-branch-2.false) row (λ clean. omega (arith, c.next.ensures.quiet.clean, clean))
          (λ clean. lemma.stepped _ _ 0 c.next.new.row (rw c.if-not-branch.false at (c.in_ok-next.ensures.ok clean))) c.rows.invariant.3,
      search rules,
    )

pub returns-in_err-seek-clause-reads : goal.returns-in_err-seek-clause-reads
returns-in_err-seek-clause-reads g c =
    let p = err_from_is_err_and c.from_residual.result c.from_residual.ensures.1 in
    rw (p.1, p.2) (read_failed g.S.Store (HasNoEntries g.E.Entries.fits c.args.tree) c.args.store.now c.args.store.now _ _ (quiet_same g.S.Store c.args.store.now) (λ clean. refl) c.in_err-seek.ensures.cause c.in_err-seek.ensures.told c.seek.ensures.quiet)

pub returns-in_err-next-clause-reads : goal.returns-in_err-next-clause-reads
returns-in_err-next-clause-reads g c =
    let p = err_from_is_err_and c.from_residual-in_err-next.result c.from_residual-in_err-next.ensures.1 in
    rw (p.1, p.2) (read_failed g.S.Store (HasNoEntries g.E.Entries.fits c.args.tree) c.args.store.now c.rows.store _ _ c.rows.invariant.2 (λ clean. ap (λ (w : View). w.is_broken) (c.rows.invariant.1 clean))
    c.in_err-next.ensures.cause c.in_err-next.ensures.told c.next.ensures.quiet)
