use Rattle.std.proofs.Common.{◌≡◌, ◌≤◌, ◌<◌, ◌∙◌, ◌+◌, ◌*◌, ◌^◌, ◌++◌, ◌∷◌, [], All, Some, length, length-append, refl, sym, ap, subst, arith}
use Rattle.std.specs.FinMap as finite
use Rattle.std.specs.List.{slice_get}
use Rattle.std.proofs.lemmas.Option.{slice_get_read}
use Rattle.rv_step.specs.Fold.{receipts_of, store_after_call, store_before}
use Rattle.rv_step.specs.Chain.{ends}
use Rattle.conflicts.specs.ByKey.{call_by_key}
use Rattle.conflicts.specs.Calls.{count_at, with_call_changes, with_waits}
use Rattle.conflicts.specs.Greatest.{greatest_from}
use Rattle.conflicts.specs.Paths.{ArePaths}
use Rattle.conflicts.specs.Reads.{keys_read}
use Rattle.conflicts.specs.Table.{after_changes, key_waits_in, waits_in}
use Rattle.conflicts.specs.Waits.{call_view_of, calls_of, gas_in, gas_of_call}
use Rattle.conflicts.proofs.Counted.{AreWriters, all_writers, counts_next, few_waits, no_writers, writers_next}
use Rattle.conflicts.proofs.Earlier.{call_at, earlier}
use Rattle.conflicts.proofs.Longest.{more_within, paths_more, paths_none, same_greatest}
use Rattle.conflicts.proofs.Noted.{Names, call_is, calls_more, names_next, names_none, receipt_at, store_first, store_next}
use Rattle.conflicts.proofs.in_order.all_waits.Goals as goal

pub loop-index-init : goal.loop-index-init
loop-index-init c =
    let receipts = receipts_of c.args.calls.now c.args.store in
    let none = c.in_ok-paths.ensures.items in
    record {
      all = c.in_ok-all.ensures.items;
      store = store_first c.args.calls.now c.args.store;
      named = subst (λ t. Names t receipts 0) (sym c.new.ensures) (names_none receipts);
      writers = subst (λ t. AreWriters t receipts 0) (sym c.new-2.ensures) (no_writers receipts);
      waits = c.new-3.ensures;
      count = ap length none;
      paths = subst (ArePaths (calls_of c.args.calls.now c.args.store)) (sym none) (paths_none (calls_of c.args.calls.now c.args.store));
      bound = subst (λ l. All (λ path. path ≤ 0 * 2 ^ 32) l) (sym none) (λ k d h. absurd (omega (arith, h)));
    }

pub run_next-requires-clause-paths : goal.run_next-requires-clause-paths
run_next-requires-clause-paths c = λ k d h. let less = c.loop-index.invariant.bound k d h in omega (arith, less, c.requires)

pub run_next-requires-clause-waits : goal.run_next-requires-clause-waits
run_next-requires-clause-waits c = λ q.
    let block = c.args.calls.now in
    let index = c.loop-index.index in
    let call = c.index-calls-index.result in
    let named = c.loop-index.progress.named in
    let at : slice_get block index ≡ Some call = slice_get_read block _ index call refl (omega arith) c.index-calls-index.is in
    let same = ap (λ s. with_waits c.loop-index.progress.waits (waits_in named (keys_read call s))) c.loop-index.invariant.store
    ∙ ap (λ m. with_waits m (waits_in named (keys_read call (store_before block index c.args.store)))) c.loop-index.invariant.waits
    ∙ counts_next block c.args.store index call at named c.loop-index.invariant.named in
    subst (λ m. count_at m q < 2 ^ 64) (sym same) (few_waits block c.args.store q (index + 1) (omega (arith, c.requires)))

pub loop-index-preserved : goal.loop-index-preserved
loop-index-preserved c =
    let block = c.args.calls.now in
    let store = c.args.store in
    let receipts = receipts_of block store in
    let index = c.loop-index.index in
    let call = c.index-calls-index.result in
    let named = c.loop-index.progress.named in
    let old = c.loop-index.progress.paths.items in
    let at : slice_get block index ≡ Some call = slice_get_read block _ index call refl (omega arith) c.index-calls-index.is in
    let before = store_before block index store in
    let same : c.loop-index.progress.store ≡ before = c.loop-index.invariant.store in
    let names = c.loop-index.invariant.named in
    let path = (ends call c.loop-index.progress.store).gas + greatest_from old 0 (waits_in named (keys_read call c.loop-index.progress.store)) in
    let items = c.in_ok-next.ensures.path in
    let value = ap (λ s. (ends call s).gas + greatest_from old 0 (waits_in named (keys_read call s))) same
    ∙ ap (λ g. g + greatest_from old 0 (waits_in named (keys_read call before))) (ap gas_in (sym (receipt_at call block store index at)))
    ∙ ap (λ n. gas_of_call block store index + n) (same_greatest old block store index call at named names) in
    record {
      all = c.in_ok-push.ensures.items ∙ calls_more (call_by_key block store) index c.loop-index.all.items c.in_ok-next.next c.loop-index.invariant.all
          (call_is block store index call at named c.in_ok-next.next names
          (c.in_ok-next.ensures.waits ∙ ap (λ s. key_waits_in named (keys_read call s)) same)
          (c.in_ok-next.ensures.gas ∙ ap (λ s. (ends call s).gas) same));
      store = c.in_ok-next.ensures.store ∙ ap (store_after_call call) same ∙ sym (store_next call block store index at);
      named = subst (λ t. Names t receipts (index + 1))
          (sym (c.in_ok-next.ensures.named ∙ ap (λ s. after_changes index (finite.entries (ends call s).writes) named) same))
          (names_next block store index call at named names);
      writers = subst (λ t. AreWriters t receipts (index + 1))
          (sym (c.in_ok-next.ensures.writers ∙ ap (λ s. with_call_changes index (finite.entries (ends call s).writes) c.loop-index.progress.writers) same))
          (writers_next block store index call at c.loop-index.progress.writers c.loop-index.invariant.writers);
      waits = c.in_ok-next.ensures.counts ∙ ap (λ s. with_waits c.loop-index.progress.waits (waits_in named (keys_read call s))) same
          ∙ ap (λ m. with_waits m (waits_in named (keys_read call before))) c.loop-index.invariant.waits
          ∙ counts_next block store index call at named names;
      count = ap length items ∙ length-append old (path ∷ []) ∙ ap (λ n. n + 1) c.loop-index.invariant.count;
      paths = subst (ArePaths (calls_of block store)) (sym (items ∙ ap (λ p. old ++ p ∷ []) value))
          (paths_more (calls_of block store) (earlier block store) old c.loop-index.invariant.paths (call_view_of block store index)
          (ap (slice_get (calls_of block store)) c.loop-index.invariant.count ∙ call_at block store index call at));
      bound = subst (λ l. All (λ p. p ≤ (index + 1) * 2 ^ 32) l) (sym items)
          (more_within old path index c.loop-index.invariant.bound (c.in_ok-next.ensures.bound (index * 2 ^ 32) c.loop-index.invariant.bound));
    }

pub returns-clause-writers : goal.returns-clause-writers
returns-clause-writers c = all_writers c.args.calls.now c.args.store c.loop-index.progress.writers c.loop-index.index (omega arith) c.loop-index.invariant.writers
