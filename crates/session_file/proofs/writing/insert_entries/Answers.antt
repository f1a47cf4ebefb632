use Rattle.std.proofs.Common.{Ok, Err, ◌≡◌, ◌≤◌, length, Some, ◌∷◌, ◌∙◌, [], arith, rules, subst, ap, refl}
use Rattle.std.proofs.lemmas.Result.{err_from_is_err_and}
use Rattle.std.specs.FinMap.{entries}
use Rattle.sqlite_value.specs.Keys.{plain}
use Rattle.sqlite_trees.specs.Tree.{insert_entry}
use Rattle.sqlite_trees.specs.View.{View, IsClean}
use Rattle.session_tree.specs.Entries.{entry_row}
use Rattle.session_file.specs.Kept.{storage_tree}
use Rattle.session_file.proofs.Lists.{IsInserted, at_first, map_rising, one_more}
use Rattle.session_tree.proofs.Tries.{after, failed, weaker_ok}
use Rattle.session_file.proofs.Limits.{never_long}
use Rattle.session_file.proofs.writing.insert_entries.Goals as goal

pub loop-key-init : goal.loop-key-init
loop-key-init g c =
    let all : c.into_iter-key-iterator.result ≡ entries c.args.storage.now = c.into_iter-key-iterator.ensures.into_iter_gives ∙ c.iter-key-items.ensures in (
      rw all (at_first (entries c.args.storage.now) _ _ (λ begun. begun.1)),
      λ clean t other. refl,
      search rules,
      search rules,
    )

pub loop-key-preserved : goal.loop-key-preserved
loop-key-preserved g c =
    let v = g.S.Store.view in
    let key = c.in-Some.key.now in
    let value = c.in-Some.value.now in
    let was = v c.loop-key.store in
    let now = v c.change_entry.new.store in
    let step : c.loop-key.key-iterator ≡ (key, value) ∷ c.next.new.self = search rules in
    let short : length value ≤ 256 = subst (λ b. length b ≤ 256) c.bytes-in-loop-key.ensures.value c.bytes-in-loop-key.ensures.short in
    let edit : IsClean now → now.trees storage_tree ≡ insert_entry plain (entry_row (key, value)) (was.trees storage_tree) = λ clean. search rules in
    let early : IsClean now → IsClean was = λ clean. omega (arith, c.change_entry.ensures.tries.quiet.clean) in (
      one_more _ _ _ _ _ (key, value) c.next.new.self (λ begun. (early begun.0, begun.1)) (λ begun. edit begun.0) c.bytes.ensures.count short (map_rising c.args.storage.now) (subst (λ l. IsInserted (entries c.args.storage.now) l (IsClean was × ((v c.args.store.now).trees storage_tree ≡ [])) (was.trees storage_tree)) step c.loop-key.invariant.0),
      λ clean t other. (c.in_ok-change_entry.ensures.ok clean).others t other ∙ c.loop-key.invariant.1 (early clean) t other,
      λ clean. (c.in_ok-change_entry.ensures.ok clean).rest ∙ ap (λ (w : View). record w { trees = now.trees; cursors = now.cursors }) (c.loop-key.invariant.2 (early clean)),
      after g.S.Store (Ok tt) c.loop-key.invariant.3 c.loop-key.invariant.2 (weaker_ok g.S.Store ⊥ c.in_ok-change_entry.ensures.tries),
    )

pub returns-in_err-change_entry-clause-tries : goal.returns-in_err-change_entry-clause-tries
returns-in_err-change_entry-clause-tries g c =
    let count : length c.bytes.result.now ≡ 32 = ap length c.bytes.ensures.value ∙ c.bytes.ensures.count in
    let p = err_from_is_err_and c.from_residual.result c.from_residual.ensures.1 in
    rw (p.1, p.2) (after g.S.Store (Err c.in_err-change_entry.field-0.0) c.loop-key.invariant.3 c.loop-key.invariant.2 (failed g.S.Store ⊥ (never_long c.bytes.result.now (Some c.bytes-in-loop-key.result.now) count c.bytes-in-loop-key.ensures.short) c.in_err-change_entry.ensures.tries))
