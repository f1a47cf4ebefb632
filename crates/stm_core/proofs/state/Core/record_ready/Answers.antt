use Rattle.std.proofs.Common.{get_or, subst}
use Rattle.std.proofs.lemmas.Result.{IfErr-weaker, on_ok_weaker}
use Rattle.stm_state.specs.declared.state.Task.TheVariants.{Idle}
use Rattle.stm_state.specs.Steps.{Record}
use Rattle.stm_core.specs.CoreState.{IsTaken}
use Rattle.stm_core.specs.Inner.{state_in}
use Rattle.stm_core.proofs.StepParts.{names_running, records_running, runs_one}
use Rattle.stm_core.proofs.MadeSteps.{both_ways, due_at, executing_at, grown_reached, may_count, named_in, nobody_moves, own_made, placed_within}
use Rattle.stm_core.proofs.HandedRuns.{had_before, is_ready_handed, record_reached}
use Rattle.stm_core.proofs.state.Core.record_ready.Goals as goal

pub has_own_answers-requires-clause-running : goal.has_own_answers-requires-clause-running
has_own_answers-requires-clause-running g c = runs_one (get_or c.self.inside.scheduler.tasks c.args.worker Idle) c.in-Running.call c.in-Running.blocked c.in-Running.ensures

pub record_run-requires-clause-counts : goal.record_run-requires-clause-counts
record_run-requires-clause-counts g c = may_count (g.H.JobSource.job c.self.inside.job) c.self.inside.map c.self.inside.promised c.self.inside.scheduler c.self.invariant c.args.self.now c.self.view_is c.args.worker Record c.requires.due

pub record_run-requires-clause-within : goal.record_run-requires-clause-within
record_run-requires-clause-within g c = named_in (g.H.JobSource.job c.self.inside.job) c.self.inside.map c.self.inside.promised c.self.inside.scheduler c.self.invariant c.args.worker c.in-Running.call (names_running (get_or c.self.inside.scheduler.tasks c.args.worker Idle) c.in-Running.call c.in-Running.blocked c.in-Running.ensures)

pub record_run-requires-clause-executing : goal.record_run-requires-clause-executing
record_run-requires-clause-executing g c =
    let due = due_at (g.H.JobSource.job c.self.inside.job) c.self.inside.map c.self.inside.promised c.self.inside.scheduler c.self.invariant c.args.self.now c.self.view_is c.args.worker Record c.requires.due in
    let runs = records_running (get_or c.self.inside.scheduler.tasks c.args.worker Idle) c.in-Running.call c.in-Running.blocked due.due_step c.in-Running.ensures in
    executing_at (g.H.JobSource.job c.self.inside.job) c.self.inside.map c.self.inside.promised c.self.inside.scheduler c.self.invariant c.args.worker c.in-Running.call runs.0 _ runs.1

pub record_run-requires-clause-nobody : goal.record_run-requires-clause-nobody
record_run-requires-clause-nobody g c =
    let due = due_at (g.H.JobSource.job c.self.inside.job) c.self.inside.map c.self.inside.promised c.self.inside.scheduler c.self.invariant c.args.self.now c.self.view_is c.args.worker Record c.requires.due in
    let runs = records_running (get_or c.self.inside.scheduler.tasks c.args.worker Idle) c.in-Running.call c.in-Running.blocked due.due_step c.in-Running.ensures in
    nobody_moves (g.H.JobSource.job c.self.inside.job) c.self.inside.map c.self.inside.promised c.self.inside.scheduler c.self.invariant c.args.worker c.in-Running.call runs.0 _ runs.1

pub record_run-requires-clause-placed : goal.record_run-requires-clause-placed
record_run-requires-clause-placed g c = placed_within (g.H.JobSource.job c.self.inside.job) c.self.inside.map c.self.inside.promised c.self.inside.scheduler c.self.invariant

pub invariant_of-self : goal.invariant_of-self
invariant_of-self g c =
    let due = due_at (g.H.JobSource.job c.self.inside.job) c.self.inside.map c.self.inside.promised c.self.inside.scheduler c.self.invariant c.args.self.now c.self.view_is c.args.worker Record c.requires.due in
    let runs = records_running (get_or c.self.inside.scheduler.tasks c.args.worker Idle) c.in-Running.call c.in-Running.blocked due.due_step c.in-Running.ensures in
    let run = c.requires.ready.0 in
    let is = c.requires.ready.1 in
    let handed = is_ready_handed (g.H.JobSource.job c.self.inside.job) c.self.inside.map c.self.inside.promised c.self.inside.scheduler c.self.invariant c.args.self.now c.self.view_is c.args.worker c.in-Running.call run c.args.ready.now is runs.0 runs.1 c.requires.call ((c.has_own_answers.ensures c.in-Running.call runs.0 runs.1).0 c.if-not-has_own_answers.false) in
    both_ways c.record_run.result (c.record_run.ensures.state run is) (c.record_run.ensures.within run is) (c.record_run.ensures.promised run is) c.record_run.ensures.back
    (λ state within promises. record_reached (g.H.JobSource.job c.self.inside.job) c.self.inside.map c.self.inside.promised c.self.inside.scheduler c.self.invariant c.args.self.now c.self.view_is c.args.worker c.in-Running.call c.requires.due run runs.0 runs.1 handed
    c.record_run.new.map c.record_run.new.promised c.record_run.new.scheduler c.record_run.ensures.grown promises within state)
    (λ e back. grown_reached (g.H.JobSource.job c.self.inside.job) c.self.inside.map c.self.inside.promised c.self.inside.scheduler c.self.invariant c.record_run.new.map c.record_run.new.promised c.record_run.new.scheduler c.record_run.ensures.grown back.0 back.1)

pub returns-clause-memory : goal.returns-clause-memory
returns-clause-memory g c =
    let due = due_at (g.H.JobSource.job c.self.inside.job) c.self.inside.map c.self.inside.promised c.self.inside.scheduler c.self.invariant c.args.self.now c.self.view_is c.args.worker Record c.requires.due in
    let runs = records_running (get_or c.self.inside.scheduler.tasks c.args.worker Idle) c.in-Running.call c.in-Running.blocked due.due_step c.in-Running.ensures in
    let run = c.requires.ready.0 in
    let is = c.requires.ready.1 in
    let handed = is_ready_handed (g.H.JobSource.job c.self.inside.job) c.self.inside.map c.self.inside.promised c.self.inside.scheduler c.self.invariant c.args.self.now c.self.view_is c.args.worker c.in-Running.call run c.args.ready.now is runs.0 runs.1 c.requires.call ((c.has_own_answers.ensures c.in-Running.call runs.0 runs.1).0 c.if-not-has_own_answers.false) in
    IfErr-weaker c.record_run.result _ _ (λ e within memory. subst (IsTaken c.args.worker Record) c.self.view_is
    (_, own_made (g.H.JobSource.job c.self.inside.job).block (g.H.JobSource.job c.self.inside.job).store c.args.worker c.in-Running.call runs.0 run (state_in c.self.inside.map c.self.inside.promised c.self.inside.scheduler) runs.1 handed (within memory).0 (within memory).1)) (c.record_run.ensures.memory run is)

pub returns-clause-before : goal.returns-clause-before
returns-clause-before g c =
    let due = due_at (g.H.JobSource.job c.self.inside.job) c.self.inside.map c.self.inside.promised c.self.inside.scheduler c.self.invariant c.args.self.now c.self.view_is c.args.worker Record c.requires.due in
    let runs = records_running (get_or c.self.inside.scheduler.tasks c.args.worker Idle) c.in-Running.call c.in-Running.blocked due.due_step c.in-Running.ensures in
    on_ok_weaker c.record_run.result (had_before (g.H.JobSource.job c.self.inside.job) c.self.inside.map c.self.inside.promised c.self.inside.scheduler c.self.invariant c.args.self.now c.self.view_is c.args.worker c.in-Running.call c.record_run.new.ready.recorded runs.0 runs.1) c.record_run.ensures.before
