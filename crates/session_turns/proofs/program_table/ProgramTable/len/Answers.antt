use Rattle.std.proofs.Common.{sym, ap, ◌∙◌}
use Rattle.std.specs.FinMap as map
use Rattle.rv_ledger.proofs.Entries.{len_in_order}
use Rattle.session_turns.proofs.program_table.ProgramTable.len.Goals as goal

pub returns : goal.returns
returns c = c.len.ensures.len ∙ sym (len_in_order c.self.inside.entries.entries c.len.ensures.ordered) ∙ ap map.len c.self.view_is
