use Rattle.std.proofs.Common.{◌≡◌, ◌∙◌, ℕ, List, ap, length}
use Rattle.std.specs.Prelude.{Result, Ok, Err, IfOk}
use Rattle.rv_ledger.specs.declared.job.Job.{Job}
use Rattle.rv_ledger.specs.declared.outcome.Counts.{Counts}
use Rattle.stm_state.specs.Drive.{drive_of}
use Rattle.stm_state.specs.State.{State}
use Rattle.engines.specs.Counts.{AreCountsAlong}
use Rattle.engines.specs.declared.counts.RunCounts.{RunCounts}
use Rattle.engines.specs.declared.fault.Refusal.{Refusal}
use Rattle.engines.proofs.drive.drive_job.Goals as goal

-- the counts of an outcome's state are those of the list
of_state : (r : Result RunCounts Refusal) (kept job : Job) (workers : ℕ) (entries : List ℕ) (found : List Counts) (s : State) → kept ≡ job → drive_of job.block job.store workers entries ≡ Ok s → found ≡ s.counts
    → IfOk r (λ counts. counts.calls ≡ length kept.block) → IfOk r (λ counts. counts.workers.items ≡ found) → IfOk r (AreCountsAlong job workers entries)
of_state (Ok counts) kept job workers entries found s same leads is calls items = record { calls = calls ∙ ap (λ (j : Job). length j.block) same; state = s; leads = leads; found = items ∙ is }
of_state (Err e) kept job workers entries found s same leads is calls items = tt

pub returns-in-Ok-clause-counts : goal.returns-in-Ok-clause-counts
returns-in-Ok-clause-counts g c =
    let along = c.in-Ok.ensures.counts in
    of_state c.write_counted.result c.in-Ok.outcome.job c.args.job.now c.args.workers c.args.entries.now c.in-Ok.outcome.counts.items along.0 c.in-Ok.ensures.job along.1 along.2 c.write_counted.ensures.calls c.write_counted.ensures.workers
