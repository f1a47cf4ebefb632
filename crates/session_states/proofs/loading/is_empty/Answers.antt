use Rattle.std.proofs.Common.{sym, ◌∙◌}
use Rattle.session_states.proofs.Outcomes.{empty_if, if_empty, none_told, some_told}
use Rattle.session_states.proofs.loading.is_empty.Goals as goal

pub returns-clause-same : goal.returns-clause-same
returns-clause-same c told = empty_if c.args.storage.now (sym c.iter.ensures ∙ none_told _ c.iter.result c.next.result _ c.is_none.result c.next.ensures.steps c.is_none.ensures told)

pub returns-clause-other : goal.returns-clause-other
returns-clause-other c told is = some_told _ c.iter.result c.next.result _ c.is_none.result c.next.ensures.steps c.is_none.ensures told (c.iter.ensures ∙ if_empty c.args.storage.now is)
