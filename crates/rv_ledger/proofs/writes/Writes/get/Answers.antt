use Rattle.std.proofs.Common.{sym, ap, ◌∙◌}
use Rattle.std.specs.BTreeMap.{is_at}
use Rattle.std.specs.FinMap as map
use Rattle.std.specs.Map.{lookup}
use Rattle.rv_ledger.proofs.Entries.{get_value}
use Rattle.rv_ledger.specs.Key.{key_cmp}
use Rattle.rv_ledger.proofs.writes.Writes.get.Goals as goal

pub returns : goal.returns
returns c = c.get.ensures ∙ ap (lookup (is_at (key_cmp c.args.key.now))) c.as_slice.ensures.value ∙ sym (get_value c.self.inside.entries.items c.args.key.now) ∙ ap (λ m. map.get m c.args.key.now) c.self.view_is
