use Rattle.std.proofs.Common.{◌≡◌, ◌≤◌, ◌+◌, ◌∙◌, [], ◌∷◌, length, get_or, ap, sym, subst}
use Rattle.mvmap.specs.Versions.{changed}
use Rattle.stm_state.specs.declared.state.CallState.{CallState}
use Rattle.stm_state.specs.declared.state.Task.TheVariants.{Idle}
use Rattle.stm_state.specs.State.{call_at}
use Rattle.stm_state.specs.Steps.{MoveKey, counted, after_move_key, one_step, version_of}
use Rattle.stm_core.specs.Inner.{AreOpen, state_in, writes_at}
use Rattle.stm_core.proofs.HandedRuns.{key_has_place, key_is_promised, move_makes, move_reached}
use Rattle.stm_core.proofs.MadeSteps.{due_at, may_count, named_in}
use Rattle.stm_core.proofs.StepParts.{moved_is, moving_has_keys, moves_key, moves_some_key, names_moving}
use Rattle.stm_core.proofs.state.Core.move_key.Goals as goal

pub next_key-requires-clause-keys : goal.next_key-requires-clause-keys
next_key-requires-clause-keys g c = moving_has_keys (get_or c.self.inside.scheduler.tasks c.args.worker Idle) c.in-Moving.call c.in-Moving.new_key c.in-Moving.ensures

pub unreachable-requires-in_default-next_key : goal.unreachable-requires-in_default-next_key
unreachable-requires-in_default-next_key g c =
    let due = due_at (g.H.JobSource.job c.self.inside.job) c.self.inside.map c.self.inside.promised c.self.inside.scheduler c.self.invariant c.args.self.now c.self.view_is c.args.worker MoveKey c.requires in
    moves_some_key (get_or c.self.inside.scheduler.tasks c.args.worker Idle) due.due_step c.in_default-next_key.ensures.moving

pub call-requires : goal.call-requires
call-requires g c = named_in (g.H.JobSource.job c.self.inside.job) c.self.inside.map c.self.inside.promised c.self.inside.scheduler c.self.invariant c.args.worker c.in-Moving.call (names_moving (get_or c.self.inside.scheduler.tasks c.args.worker Idle) c.in-Moving.call c.in-Moving.new_key c.in-Moving.ensures)

pub move_key-requires-clause-places : goal.move_key-requires-clause-places
move_key-requires-clause-places g c =
    let due = due_at (g.H.JobSource.job c.self.inside.job) c.self.inside.map c.self.inside.promised c.self.inside.scheduler c.self.invariant c.args.self.now c.self.view_is c.args.worker MoveKey c.requires in
    let moves = moves_key (get_or c.self.inside.scheduler.tasks c.args.worker Idle) c.in-Moving.call c.in-Moving.new_key c.in-Some.key.now due.due_step c.in-Moving.ensures c.in-Some.ensures.moving in
    subst (λ (x : CallState). AreOpen c.self.inside.map.places c.in-Moving.call (writes_at x.last (c.in-Some.key.now ∷ []))) (sym c.call.ensures)
    (key_has_place (g.H.JobSource.job c.self.inside.job) c.self.inside.map c.self.inside.promised c.self.inside.scheduler c.self.invariant c.args.self.now c.self.view_is c.args.worker c.in-Moving.call c.requires c.in-Some.key.now moves.0 c.in-Moving.new_key moves.1)

pub move_key-requires-clause-promised : goal.move_key-requires-clause-promised
move_key-requires-clause-promised g c =
    let due = due_at (g.H.JobSource.job c.self.inside.job) c.self.inside.map c.self.inside.promised c.self.inside.scheduler c.self.invariant c.args.self.now c.self.view_is c.args.worker MoveKey c.requires in
    let moves = moves_key (get_or c.self.inside.scheduler.tasks c.args.worker Idle) c.in-Moving.call c.in-Moving.new_key c.in-Some.key.now due.due_step c.in-Moving.ensures c.in-Some.ensures.moving in
    subst (λ (x : CallState). length (writes_at x.last (c.in-Some.key.now ∷ [])) ≤ c.self.inside.promised) (sym c.call.ensures)
    (key_is_promised (g.H.JobSource.job c.self.inside.job) c.self.inside.map c.self.inside.promised c.self.inside.scheduler c.self.invariant c.args.self.now c.self.view_is c.args.worker c.in-Moving.call c.requires c.in-Some.key.now moves.0 c.in-Moving.new_key moves.1)

pub drop_key-requires-clause-counts : goal.drop_key-requires-clause-counts
drop_key-requires-clause-counts g c = may_count (g.H.JobSource.job c.self.inside.job) c.self.inside.map c.self.inside.promised c.self.inside.scheduler c.self.invariant c.args.self.now c.self.view_is c.args.worker MoveKey c.requires

pub invariant_of-self : goal.invariant_of-self
invariant_of-self g c =
    let due = due_at (g.H.JobSource.job c.self.inside.job) c.self.inside.map c.self.inside.promised c.self.inside.scheduler c.self.invariant c.args.self.now c.self.view_is c.args.worker MoveKey c.requires in
    let moves = moves_key (get_or c.self.inside.scheduler.tasks c.args.worker Idle) c.in-Moving.call c.in-Moving.new_key c.in-Some.key.now due.due_step c.in-Moving.ensures c.in-Some.ensures.moving in
    let s = state_in c.self.inside.map c.self.inside.promised c.self.inside.scheduler in
    let versions : c.move_key.new.map.versions ≡ changed s.versions (c.in-Some.key.now, c.in-Moving.call) (version_of (call_at s c.in-Moving.call) c.in-Some.key.now) =
    c.move_key.ensures.versions ∙ ap (λ (x : CallState). changed s.versions (c.in-Some.key.now, c.in-Moving.call) (version_of x c.in-Some.key.now)) c.call.ensures in
    let same : state_in c.move_key.new.map c.move_key.new.promised c.drop_key.new.self ≡ counted one_step c.args.worker (after_move_key c.args.worker c.in-Moving.call c.in-Some.key.now moves.0 c.in-Moving.new_key s) =
    c.drop_key.ensures.moving c.in-Moving.call c.in-Some.key.now moves.0 c.in-Moving.new_key moves.1 c.move_key.new.map.versions (length c.move_key.new.map.arena.records + c.move_key.new.promised)
    ∙ ap (counted one_step c.args.worker) (moved_is c.args.worker c.in-Moving.call c.in-Some.key.now moves.0 c.in-Moving.new_key s c.move_key.new.map.versions (length c.move_key.new.map.arena.records + c.move_key.new.promised) versions c.move_key.ensures.placed) in
    move_reached (g.H.JobSource.job c.self.inside.job) c.self.inside.map c.self.inside.promised c.self.inside.scheduler c.self.invariant c.args.self.now c.self.view_is c.args.worker c.in-Moving.call c.requires c.in-Some.key.now moves.0 c.in-Moving.new_key moves.1 c.move_key.new.map c.move_key.new.promised c.drop_key.new.self same
    c.move_key.ensures.places c.move_key.ensures.placed
    (subst (λ (x : CallState). c.move_key.new.promised + length (writes_at x.last (c.in-Some.key.now ∷ [])) ≡ c.self.inside.promised) c.call.ensures c.move_key.ensures.promised)
    c.move_key.ensures.room c.move_key.ensures.bytes

pub returns : goal.returns
returns g c =
    let due = due_at (g.H.JobSource.job c.self.inside.job) c.self.inside.map c.self.inside.promised c.self.inside.scheduler c.self.invariant c.args.self.now c.self.view_is c.args.worker MoveKey c.requires in
    let moves = moves_key (get_or c.self.inside.scheduler.tasks c.args.worker Idle) c.in-Moving.call c.in-Moving.new_key c.in-Some.key.now due.due_step c.in-Moving.ensures c.in-Some.ensures.moving in
    let s = state_in c.self.inside.map c.self.inside.promised c.self.inside.scheduler in
    let versions : c.move_key.new.map.versions ≡ changed s.versions (c.in-Some.key.now, c.in-Moving.call) (version_of (call_at s c.in-Moving.call) c.in-Some.key.now) =
    c.move_key.ensures.versions ∙ ap (λ (x : CallState). changed s.versions (c.in-Some.key.now, c.in-Moving.call) (version_of x c.in-Some.key.now)) c.call.ensures in
    let same : state_in c.move_key.new.map c.move_key.new.promised c.drop_key.new.self ≡ counted one_step c.args.worker (after_move_key c.args.worker c.in-Moving.call c.in-Some.key.now moves.0 c.in-Moving.new_key s) =
    c.drop_key.ensures.moving c.in-Moving.call c.in-Some.key.now moves.0 c.in-Moving.new_key moves.1 c.move_key.new.map.versions (length c.move_key.new.map.arena.records + c.move_key.new.promised)
    ∙ ap (counted one_step c.args.worker) (moved_is c.args.worker c.in-Moving.call c.in-Some.key.now moves.0 c.in-Moving.new_key s c.move_key.new.map.versions (length c.move_key.new.map.arena.records + c.move_key.new.promised) versions c.move_key.ensures.placed) in
    move_makes (g.H.JobSource.job c.self.inside.job) c.self.inside.map c.self.inside.promised c.self.inside.scheduler c.self.invariant c.args.self.now c.self.view_is c.args.worker c.in-Moving.call c.requires c.in-Some.key.now moves.0 c.in-Moving.new_key moves.1 c.move_key.new.map c.move_key.new.promised c.drop_key.new.self same c.drop_key.ensures.rooms
