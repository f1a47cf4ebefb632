use Rattle.std.proofs.Common.{ap, ◌∙◌}
use Rattle.std.specs.FinMap as map
use Rattle.rv_ledger.proofs.Entries.{one_gone}
use Rattle.session_turns.proofs.program_table.ProgramTable.remove.Goals as goal

pub returns : goal.returns
returns c = one_gone c.self.inside.entries.entries c.remove.new.self.entries c.args.name.now c.remove.ensures.updates.0 ∙ ap (λ m. map.remove m c.args.name.now) c.self.view_is
