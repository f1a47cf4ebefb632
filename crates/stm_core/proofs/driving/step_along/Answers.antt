use Rattle.std.proofs.Common.{◌≡◌, ◌<◌, Some, Ok, length, arith, sym, subst, ◌∙◌, length-set}
use Rattle.std.proofs.lemmas.Result.{err_from_is_err_and}
use Rattle.stm_state.specs.Done.{block_of}
use Rattle.stm_state.specs.State.{task_at}
use Rattle.stm_state.specs.Drive.{due_result, due_step}
use Rattle.stm_core.specs.Driving.{IsRefusal, IsStepRefusal}
use Rattle.stm_core.proofs.Drives.{entry_bad, entry_made, entry_refused}
use Rattle.stm_core.proofs.Fits.{all_fit}
use Rattle.stm_core.proofs.TaskChanges.{turn_others, turn_steps, turn_workers}
use Rattle.stm_core.proofs.driving.step_along.Goals as goal

pub returns-then-worker-workers-clause-refused : goal.returns-then-worker-workers-clause-refused
returns-then-worker-workers-clause-refused c =
    let b = c.args.core.now in
    sym c.loop-entry.invariant.driven
    ∙ entry_bad b.job.block b.job.store c.args.workers c.args.schedule.now c.loop-entry.entry-index _ c.loop-entry-test.true c.from-worker.ensures c.loop-entry.core.state c.if-worker-workers.true

pub returns-in_err-step-clause-refused : goal.returns-in_err-step-clause-refused
returns-in_err-step-clause-refused c =
    let b = c.args.core.now in
    let p = err_from_is_err_and c.from_residual.result c.from_residual.ensures.1 in
    let e = c.in_err-step.field-0.0 in
    let refused : IsStepRefusal e (due_result b.job.block b.job.store c.from-worker.result c.loop-entry.core.state) = rw c.loop-entry.invariant.job at c.in_err-step.ensures.refused in
    rw (p.1, p.2)
    (subst (IsRefusal e) c.loop-entry.invariant.driven
    (entry_refused b.job.block b.job.store c.args.workers c.args.schedule.now c.loop-entry.entry-index c.from-worker.result c.loop-entry-test.true c.from-worker.ensures e c.loop-entry.core.state c.if-worker-workers.false refused))

pub loop-entry-preserved : goal.loop-entry-preserved
loop-entry-preserved c =
    let b = c.args.core.now in
    let w = c.from-worker.result in
    let s = c.loop-entry.core.state in
    let t = c.step.new.core.state in
    let calls = b.job.block in
    let before = c.loop-entry.invariant in
    let made : due_result calls b.job.store w s ≡ Some (Ok t) = rw before.job at c.in_ok-step.ensures.due in
    let within : w < length c.loop-entry.runs.items = omega (arith, before.runs) in
    record {
      job = c.in_ok-step.ensures.job ∙ before.job;
      driven = sym (entry_made calls b.job.store c.args.workers c.args.schedule.now c.loop-entry.entry-index w c.loop-entry-test.true c.from-worker.ensures s t c.if-worker-workers.false made) ∙ before.driven;
      tasks = turn_workers (block_of calls b.job.store) w (due_step calls (task_at s w)) s t made ∙ before.tasks;
      runs = length-set c.loop-entry.runs.items w c.step.new.run ∙ before.runs;
      steps = λ u. let more = turn_steps (block_of calls b.job.store) w (due_step calls (task_at s w)) s t made u in let few = before.steps u in omega (arith, more, few);
      fits = all_fit calls c.loop-entry.runs.items s t w c.step.new.run within (turn_others (block_of calls b.job.store) w (due_step calls (task_at s w)) s t made) before.fits (rw before.job at c.in_ok-step.ensures.fits);
    }
