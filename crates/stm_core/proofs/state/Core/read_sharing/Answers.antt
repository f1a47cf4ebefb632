use Rattle.std.proofs.Common.{◌+◌, ◌∙◌, length, get_or, Some, Ok, sym, ap, refl}
use Rattle.stm_state.specs.declared.state.Task.TheVariants.{Idle}
use Rattle.stm_state.specs.Steps.{ReadKey}
use Rattle.stm_state.specs.Done.{block_of}
use Rattle.std.specs.FinMap as map
use Rattle.stm_core.specs.CoreState.{CoreState}
use Rattle.stm_core.specs.Inner.{state_in}
use Rattle.stm_core.proofs.StepParts.{reads_running}
use Rattle.stm_core.proofs.MadeSteps.{due_at, goes_on_quietly, makes_read, may_count, read_made}
use Rattle.stm_core.proofs.state.Core.read_sharing.Goals as goal

pub read_from_map-read-requires-clause-counts : goal.read_from_map-read-requires-clause-counts
read_from_map-read-requires-clause-counts g c = may_count (g.H.JobSource.job c.self.inside.job) c.self.inside.map c.self.inside.promised c.self.inside.scheduler c.self.invariant c.args.self.now c.self.view_is c.args.worker (ReadKey c.args.key.now) c.requires.due

pub invariant_of-self : goal.invariant_of-self
invariant_of-self g c =
    let due = due_at (g.H.JobSource.job c.self.inside.job) c.self.inside.map c.self.inside.promised c.self.inside.scheduler c.self.invariant c.args.self.now c.self.view_is c.args.worker (ReadKey c.args.key.now) c.requires.due in
    let runs = reads_running (get_or c.self.inside.scheduler.tasks c.args.worker Idle) c.args.key.now c.in-Running.call c.in-Running.blocked due.due_step c.in-Running.ensures in
    goes_on_quietly (g.H.JobSource.job c.self.inside.job) c.self.inside.map c.self.inside.promised c.self.inside.scheduler c.self.invariant c.args.self.now c.self.view_is c.args.worker (ReadKey c.args.key.now) c.requires.due c.self.inside.map c.share.new.scheduler tt
    (read_made (block_of (g.H.JobSource.job c.self.inside.job).block (g.H.JobSource.job c.self.inside.job).store) c.args.worker (state_in c.self.inside.map c.self.inside.promised c.self.inside.scheduler) c.args.key.now c.in-Running.call runs.0 runs.1
    ∙ ap (λ s. Some (Ok s)) (sym (c.share.ensures.same c.self.inside.map.versions (length c.self.inside.map.arena.records + c.self.inside.promised) ∙ c.read_from_map-read.ensures.state (g.H.JobSource.job c.self.inside.job).store (c.requires.base ∙ ap (λ (b : CoreState). map.get b.job.store c.args.key.now) (sym c.self.view_is)) runs.0 runs.1 c.self.inside.map.versions (length c.self.inside.map.arena.records + c.self.inside.promised))))
    c.self.invariant.places refl refl

pub returns-clause-makes : goal.returns-clause-makes
returns-clause-makes g c =
    let due = due_at (g.H.JobSource.job c.self.inside.job) c.self.inside.map c.self.inside.promised c.self.inside.scheduler c.self.invariant c.args.self.now c.self.view_is c.args.worker (ReadKey c.args.key.now) c.requires.due in
    let runs = reads_running (get_or c.self.inside.scheduler.tasks c.args.worker Idle) c.args.key.now c.in-Running.call c.in-Running.blocked due.due_step c.in-Running.ensures in
    makes_read (g.H.JobSource.job c.self.inside.job) c.self.inside.map c.self.inside.promised c.self.inside.scheduler c.self.invariant c.args.self.now c.self.view_is c.args.worker (ReadKey c.args.key.now) c.requires.due c.self.inside.map c.self.inside.promised c.share.new.scheduler
    (read_made (block_of (g.H.JobSource.job c.self.inside.job).block (g.H.JobSource.job c.self.inside.job).store) c.args.worker (state_in c.self.inside.map c.self.inside.promised c.self.inside.scheduler) c.args.key.now c.in-Running.call runs.0 runs.1
    ∙ ap (λ s. Some (Ok s)) (sym (c.share.ensures.same c.self.inside.map.versions (length c.self.inside.map.arena.records + c.self.inside.promised) ∙ c.read_from_map-read.ensures.state (g.H.JobSource.job c.self.inside.job).store (c.requires.base ∙ ap (λ (b : CoreState). map.get b.job.store c.args.key.now) (sym c.self.view_is)) runs.0 runs.1 c.self.inside.map.versions (length c.self.inside.map.arena.records + c.self.inside.promised))))
    c.share.new.self refl (λ u other. c.share.ensures.rooms u other ∙ c.read_from_map-read.ensures.rooms u other)
