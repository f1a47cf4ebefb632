use Rattle.std.proofs.Common.{ap, ◌∙◌}
use Rattle.std.specs.Arc.{arc_value}
use Rattle.std.specs.FinMap as map
use Rattle.rv_ledger.proofs.Entries.{one_set}
use Rattle.session_turns.proofs.program_table.ProgramTable.insert.Goals as goal

pub returns-clause-ok : goal.returns-clause-ok
returns-clause-ok c = one_set c.self.inside.entries.entries c.insert.new.self.entries c.args.name (arc_value c.args.image) c.in_ok-insert.ensures.updates.0 ∙ ap (λ m. map.insert m c.args.name (arc_value c.args.image)) c.self.view_is
