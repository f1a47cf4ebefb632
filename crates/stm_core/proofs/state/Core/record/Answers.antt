use Rattle.std.proofs.Common.{◌≡◌, List, Some, ap, arith, get_or, slice_get, subst}
use Rattle.rv_ledger.specs.Call.{Invocation}
use Rattle.stm_state.specs.declared.state.CallState.{CallState}
use Rattle.stm_state.specs.declared.state.Task.TheVariants.{Idle}
use Rattle.stm_state.specs.Steps.{Record}
use Rattle.stm_core.specs.CoreState.{IsTaken}
use Rattle.stm_core.specs.Inner.{state_in}
use Rattle.stm_core.proofs.StepParts.{names_running, records_running}
use Rattle.stm_core.proofs.MadeSteps.{due_at, named_in, own_made}
use Rattle.stm_core.proofs.state.Core.record.Goals as goal

pub call-requires : goal.call-requires
call-requires g c = named_in (g.H.JobSource.job c.self.inside.job) c.self.inside.map c.self.inside.promised c.self.inside.scheduler c.self.invariant c.args.worker c.in-Running.call (names_running (get_or c.self.inside.scheduler.tasks c.args.worker Idle) c.in-Running.call c.in-Running.blocked c.in-Running.ensures)

pub returns-in_default-reads_made-clause-memory : goal.returns-in_default-reads_made-clause-memory
returns-in_default-reads_made-clause-memory g c =
    let due = due_at (g.H.JobSource.job c.self.inside.job) c.self.inside.map c.self.inside.promised c.self.inside.scheduler c.self.invariant c.args.self.now c.self.view_is c.args.worker Record c.requires in
    let runs = records_running (get_or c.self.inside.scheduler.tasks c.args.worker Idle) c.in-Running.call c.in-Running.blocked due.due_step c.in-Running.ensures in
    let s = state_in c.self.inside.map c.self.inside.promised c.self.inside.scheduler in
    let within = c.in_default-check_limits.ensures.within in
    let low = within.1 in
    let own = subst (λ (calls : List Invocation). slice_get calls c.in-Running.call ≡ Some c.args.run.call) c.calls.ensures.value (c.is_call_at.ensures.0 c.if-not-is_call_at.false) in
    let incarnation = ap (λ (call : CallState). call.incarnation) c.call.ensures in
    λ _. subst (IsTaken c.args.worker Record) c.self.view_is (
      _,
      own_made (g.H.JobSource.job c.self.inside.job).block (g.H.JobSource.job c.self.inside.job).store c.args.worker c.in-Running.call runs.0 c.args.run s runs.1
          (own, (c.has_own_answers.ensures c.in-Running.call runs.0 runs.1).0 c.if-not-has_own_answers.false) within.0 (omega (arith, low, incarnation)),
    )

pub into_run-requires : goal.into_run-requires
into_run-requires g c = (c.args.run, c.in-Err-record_ready.ensures.kept c.args.run c.of-ready.ensures)

pub returns-in-Err-record_ready-clause-own : goal.returns-in-Err-record_ready-clause-own
returns-in-Err-record_ready-clause-own g c = c.in-Err-record_ready.ensures.own c.args.run c.of-ready.ensures
