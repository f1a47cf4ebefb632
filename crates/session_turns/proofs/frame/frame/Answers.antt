use Rattle.std.proofs.Common.{sym, subst}
use Rattle.session_requests.specs.Requests.{Frame}
use Rattle.session_turns.proofs.Frames.{due_stopped, frame_kept, frame_stopped}
use Rattle.session_turns.specs.Pending.{IsPendingDue, IsPending}
use Rattle.session_turns.specs.declared.pending.Pending.{Pending}
use Rattle.session_turns.proofs.frame.frame.Goals as goal

pub returns-in-Ok-clause-pending : goal.returns-in-Ok-clause-pending
returns-in-Ok-clause-pending g c = subst (λ (p : Pending). IsPending c.args.settings c.args.state.now (Frame c.args.bytes.now) p) (sym c.kept_frame.ensures)
    (frame_kept c.args.settings c.args.state.now c.args.bytes.now c.in-Ok.ran c.if-state-ge-GREATEST_HEIGHT.false c.in-Ok.ensures.says)

pub returns-in-Err-clause-pending : goal.returns-in-Err-clause-pending
returns-in-Err-clause-pending g c = subst (λ (p : Pending). IsPending c.args.settings c.args.state.now (Frame c.args.bytes.now) p) (sym c.stopped_frame.ensures)
    (frame_stopped c.args.settings c.args.state.now c.args.bytes.now c.in-Err.stop c.if-state-ge-GREATEST_HEIGHT.false c.in-Err.ensures.says c.in-Err.ensures.fails)

pub returns-in-Ok-clause-due : goal.returns-in-Ok-clause-due
returns-in-Ok-clause-due g c = subst (λ (p : Pending). IsPendingDue c.args.state.now (Frame c.args.bytes.now) p) (sym c.kept_frame.ensures) c.if-state-ge-GREATEST_HEIGHT.false

pub returns-in-Err-clause-due : goal.returns-in-Err-clause-due
returns-in-Err-clause-due g c = subst (λ (p : Pending). IsPendingDue c.args.state.now (Frame c.args.bytes.now) p) (sym c.stopped_frame.ensures) (due_stopped c.args.state.now c.args.bytes.now c.in-Err.stop c.if-state-ge-GREATEST_HEIGHT.false)
