use Rattle.std.proofs.Common.{sym, subst}
use Rattle.session_requests.specs.Requests.{Frame, with_body}
use Rattle.session_requests.specs.declared.request.RequestLine.{RequestLine}
use Rattle.session_turns.proofs.Frames.{due_long}
use Rattle.session_turns.specs.Pending.{IsPendingDue}
use Rattle.session_turns.specs.declared.pending.Pending.{Pending}
use Rattle.session_turns.proofs.turn.pending_long.Goals as goal

pub returns-in-Frame-clause-due : goal.returns-in-Frame-clause-due
returns-in-Frame-clause-due c bytes =
    subst (λ (line : RequestLine). IsPendingDue c.args.state.now (with_body line bytes) c.long_frame.result) (sym c.in-Frame.is)
    (subst (λ (p : Pending). IsPendingDue c.args.state.now (Frame bytes) p) (sym c.long_frame.ensures) (due_long c.args.state.now bytes))
