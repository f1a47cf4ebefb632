use Rattle.std.proofs.Common.{sym, subst}
use Rattle.session_requests.specs.Requests.{Begin}
use Rattle.session_turns.proofs.Stopped.{begin_pending, undone_stopped}
use Rattle.session_turns.specs.Pending.{IsPending, IsUndone}
use Rattle.session_turns.specs.declared.answer.Answer.{Answer}
use Rattle.session_turns.specs.declared.pending.Pending.TheVariants.{Nothing}
use Rattle.session_turns.proofs.begin.begin.Goals as goal

pub returns-in-Err-clause-pending : goal.returns-in-Err-clause-pending
returns-in-Err-clause-pending c settings = subst
    (λ (a : Answer). IsPending settings c.args.state.now (Begin c.args.height c.args.digest c.args.bytes.now) (Nothing a))
    (sym c.answer.ensures) (begin_pending settings c.args.state.now c.args.height c.args.digest c.args.bytes.now c.in-Err.stop c.in-Err.ensures.err)

pub returns-in-Err-clause-due : goal.returns-in-Err-clause-due
returns-in-Err-clause-due c = subst IsUndone (sym c.answer.ensures) (undone_stopped c.in-Err.stop)
