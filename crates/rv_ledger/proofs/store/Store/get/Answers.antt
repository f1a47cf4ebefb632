use Rattle.std.proofs.Common.{◌∙◌, Some, arith, ap, sym}
use Rattle.std.specs.FinMap as map
use Rattle.std.specs.Option.{option_map}
use Rattle.rv_ledger.specs.Positions.{by_key, value_in}
use Rattle.rv_ledger.proofs.Entries.{get_value}
use Rattle.rv_ledger.proofs.Positions.{lookup_in_order, position_within, value_found}
use Rattle.rv_ledger.proofs.store.Store.get.Goals as goal

pub index-requires : goal.index-requires
index-requires c =
    let t = c.self.inside.table in
    let within = position_within t.tree.entries t.list.items c.self.invariant c.args.key.now c.in-Some.position (sym c.find.ensures ∙ c.in-Some.is) in
    omega (arith, t.list.ok.0)

pub returns-in-Some : goal.returns-in-Some
returns-in-Some c =
    let t = c.self.inside.table in
    let key = c.args.key.now in
    let within = position_within t.tree.entries t.list.items c.self.invariant key c.in-Some.position (sym c.find.ensures ∙ c.in-Some.is) in
    ap Some (sym (value_found t.list.items c.in-Some.position c.index.result.now within c.index.ensures))
    ∙ sym (ap (λ m. map.get m key) (sym c.self.view_is) ∙ get_value (by_key t) key ∙ lookup_in_order t.tree.entries t.list.items key
    ∙ ap (option_map (value_in t.list.items)) (sym c.find.ensures ∙ c.in-Some.is))

pub returns-in-None : goal.returns-in-None
returns-in-None c =
    let t = c.self.inside.table in
    let key = c.args.key.now in
    sym (ap (λ m. map.get m key) (sym c.self.view_is) ∙ get_value (by_key t) key ∙ lookup_in_order t.tree.entries t.list.items key
    ∙ ap (option_map (value_in t.list.items)) (sym c.find.ensures ∙ c.in-None.is))
