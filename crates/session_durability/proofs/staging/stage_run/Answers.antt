use Rattle.std.proofs.lemmas.Result.{on_ok_weaker}
use Rattle.session_durability.proofs.Stagings.{staged_as}
use Rattle.session_durability.proofs.staging.stage_run.Goals as goal

pub returns-in-Changed : goal.returns-in-Changed
returns-in-Changed g c =
    staged_as g.S.Store c.stage_changes.result (on_ok_weaker c.stage_changes.result (λ stages s same. rw (c.in-Some.is, c.in-Changed.is, same) stages) c.stage_changes.ensures.ok) c.stage_changes.ensures.err (λ none. none) c.stage_changes.ensures

pub returns-in-Begun : goal.returns-in-Begun
returns-in-Begun g c =
    staged_as g.S.Store c.stage_storage.result (on_ok_weaker c.stage_storage.result (λ stages s same. rw (c.in-Some.is, c.in-Begun.is) stages) c.stage_storage.ensures.ok) c.stage_storage.ensures.err (λ none. none) c.stage_storage.ensures
