use Rattle.std.proofs.Common.{Ok, Err, ◌≡◌, ◌≤◌, ◌∷◌, ◌∙◌, T, IfSome, length, arith, rules, subst, ap, refl}
use Rattle.std.proofs.lemmas.Result.{err_from_is_err_and}
use Rattle.std.specs.FinMap.{is_sorted, get, entries, entries_sorted}
use Rattle.std.specs.Option.{option_copied}
use Rattle.rv_ledger.specs.Key.{key_cmp}
use Rattle.session_file.specs.Kept.{storage_tree}
use Rattle.sqlite_trees.specs.View.{View, IsClean}
use Rattle.session_tree.specs.Entries.{changed_rows}
use Rattle.session_tree.proofs.Rows.{sorted_rest}
use Rattle.session_file.proofs.Changes.{IsPartWay, at_first, one_more}
use Rattle.session_tree.proofs.Tries.{after, failed, weaker_ok}
use Rattle.session_file.proofs.Limits.{copied_short, never_long}
use Rattle.session_file.proofs.writing.change_entries.Goals as goal

pub loop-key-init : goal.loop-key-init
loop-key-init g c =
    let all : c.into_iter-key-iterator.result ≡ entries c.args.changes.now = c.into_iter-key-iterator.ensures.into_iter_gives ∙ c.iter-key-items.ensures in (
      λ clean is. rw all (at_first c.args.base.now c.args.changes.now _ is),
      λ clean t other. refl,
      search rules,
      rw all (entries_sorted c.args.changes.now),
      search rules,
    )

pub loop-key-preserved : goal.loop-key-preserved
loop-key-preserved g c =
    let v = g.S.Store.view in
    let key = c.in-Some.key.now in
    let content = c.in-Some.content.now in
    let was = v c.loop-key.store in
    let now = v c.change_entry.new.store in
    let step : c.loop-key.key-iterator ≡ (key, content) ∷ c.next.new.self = search rules in
    let up : T (is_sorted key_cmp ((key, content) ∷ c.next.new.self)) = subst (λ l. T (is_sorted key_cmp l)) step c.loop-key.invariant.3 in
    let edit : IsClean now → now.trees storage_tree ≡ changed_rows key (get c.args.base.now key) content (was.trees storage_tree) = λ clean. search rules in
    let short : IfSome content (λ v. length v ≤ 256) = search rules in
    let early : IsClean now → IsClean was = λ clean. omega (arith, c.change_entry.ensures.tries.quiet.clean) in (
      λ clean is. one_more _ _ _ _ (key, content) c.next.new.self up (edit clean) c.bytes.ensures.count short (subst (IsPartWay _ _ _) step (c.loop-key.invariant.0 (early clean) is)),
      λ clean t other. (c.in_ok-change_entry.ensures.ok clean).others t other ∙ c.loop-key.invariant.1 (early clean) t other,
      λ clean. (c.in_ok-change_entry.ensures.ok clean).rest ∙ ap (λ (w : View). record w { trees = now.trees; cursors = now.cursors }) (c.loop-key.invariant.2 (early clean)),
      sorted_rest (key, content) c.next.new.self up,
      after g.S.Store (Ok tt) c.loop-key.invariant.4 c.loop-key.invariant.2 (weaker_ok g.S.Store ⊥ c.in_ok-change_entry.ensures.tries),
    )

pub returns-in_err-change_entry-clause-tries : goal.returns-in_err-change_entry-clause-tries
returns-in_err-change_entry-clause-tries g c =
    let count : length c.bytes.result.now ≡ 32 = ap length c.bytes.ensures.value ∙ c.bytes.ensures.count in
    let short = copied_short c.value_bytes-new.result c.value_bytes-new.ensures.short in
    let p = err_from_is_err_and c.from_residual.result c.from_residual.ensures.1 in
    rw (p.1, p.2) (after g.S.Store (Err c.in_err-change_entry.field-0.0) c.loop-key.invariant.4 c.loop-key.invariant.2 (failed g.S.Store ⊥ (never_long c.bytes.result.now (option_copied c.value_bytes-new.result) count short) c.in_err-change_entry.ensures.tries))
