use Rattle.std.proofs.Common.{ap, sym, ◌∙◌}
use Rattle.std.specs.FinMap as map
use Rattle.std.specs.Option.{option_map}
use Rattle.std.proofs.lemmas.Result.{on_err_weaker, on_ok_weaker}
use Rattle.rv_ledger.specs.Key.{key_cmp}
use Rattle.rv_ledger.specs.Positions.{by_key, value_in}
use Rattle.rv_ledger.proofs.Entries.{get_value, one_set}
use Rattle.rv_ledger.proofs.Positions.{lookup_in_order}
use Rattle.rv_ledger.proofs.store.Store.put.Goals as goal

pub returns-clause-ok : goal.returns-clause-ok
returns-clause-ok c = on_ok_weaker c.put.result (λ h. one_set (by_key c.self.inside.table) (by_key c.put.new.self) c.args.key c.args.value h ∙ ap (λ m. map.insert m c.args.key c.args.value) c.self.view_is) c.put.ensures.set

pub returns-clause-err : goal.returns-clause-err
returns-clause-err c = on_err_weaker c.put.result (λ h. ap (map.from_entries {R = key_cmp}) h ∙ c.self.view_is) c.put.ensures.unchanged

pub returns-clause-absent : goal.returns-clause-absent
returns-clause-absent c =
    let t = c.self.inside.table in
    on_err_weaker c.put.result (λ h.
    ap (λ m. map.get m c.args.key) (sym c.self.view_is) ∙ get_value (by_key t) c.args.key ∙ lookup_in_order t.tree.entries t.list.items c.args.key ∙ ap (option_map (value_in t.list.items)) h) c.put.ensures.absent
