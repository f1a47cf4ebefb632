use Rattle.std.proofs.Common.{◌≡◌, ◌++◌, ◌∷◌, [], ◌∙◌, ap, rules, sym}
use Rattle.std.proofs.lemmas.Result.{on_ok_weaker}
use Rattle.std.specs.BTreeMap.{insert_entry, is_at}
use Rattle.std.specs.FinMap as map
use Rattle.std.specs.Map.{lookup}
use Rattle.std.specs.Option.{unwrap_or}
use Rattle.rv_ledger.proofs.Entries.{get_value, one_set}
use Rattle.rv_ledger.specs.Key.{key_cmp}
use Rattle.conflicts.specs.Calls.{calls_at}
use Rattle.conflicts.proofs.Counted.{found_or_none}
use Rattle.conflicts.proofs.call_lists.CallLists.add.Goals as goal

was : (c : goal.After-self-3-1) → c.or_insert_with-list.result.now ≡ calls_at c.args.self.now c.args.key
was c =
    let found = rw c.in_ok-entry.ensures.value at c.or_insert_with-list.ensures.value in
    found_or_none (lookup (is_at (key_cmp c.args.key)) c.self.inside.entries.entries) _ c.or_insert_with-list.result.now found (λ n made. search rules)
    ∙ ap (λ o. unwrap_or o []) (sym (get_value c.self.inside.entries.entries c.args.key) ∙ ap (λ m. map.get m c.args.key) c.self.view_is)

pub returns : goal.returns
returns c =
    let update = c.in_ok-entry.ensures.update in
    let is = update.1 c.push.new.self in
    let new = insert_entry key_cmp c.self.inside.entries.entries c.args.key c.push.new.self in
    let added = on_ok_weaker c.push.result (λ more.
    one_set c.self.inside.entries.entries new c.args.key c.push.new.self (λ q. rw is at ((update.0 c.push.new.self).0 q))
    ∙ ap (λ m. map.insert m c.args.key c.push.new.self) c.self.view_is
    ∙ ap (map.insert c.args.self.now c.args.key) (more ∙ ap (λ l. l ++ c.args.call ∷ []) (was c))) c.push.ensures in
    search rules
