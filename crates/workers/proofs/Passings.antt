-- The number of versions that the steps of a book's workers passed.
use Rattle.std.proofs.Common.{◌≡◌, ◌<◌, ◌≤◌, ◌+◌, ◌∙◌, ℕ, zero, suc, true, false, [], ◌∷◌, length, Option, None, Some, arith, subst, sym}
use Rattle.std.proofs.Math.Nat.{min-le_left}
use Rattle.rv_ledger.specs.declared.job.Job.{Job}
use Rattle.stm_state.specs.declared.state.Task.{Task}
use Rattle.stm_state.specs.declared.state.Task.TheVariants.{Idle, Running, Moving, Validating, Marking}
use Rattle.stm_state.specs.State.{State}
use Rattle.stm_state.specs.Steps.{Block, Step}
use Rattle.stm_state.specs.Done.{Reached, block_of}
use Rattle.stm_core.specs.CoreState.{CoreState, Makes, block_in, index_run, next_step_of, runs}
use Rattle.stm_core.specs.Passed.{ReachedPassing, passed_by_step}
use Rattle.stm_core.specs.declared.next_step.NextStep.TheVariants as next_step
use Rattle.stm_state.proofs.Tests.{equal_itself}
use Rattle.stm_core.proofs.TaskChanges.{turn_workers}
use Rattle.workers.specs.declared.fault.RunFault.{RunFault}
use Rattle.workers.specs.Book.{FaultFits, IsOnTheWay, passed_with}

-- the steps that lead to a state pass some number of versions
passed_somehow : (block : Block) (workers : ℕ) (s : State) → Reached block workers s → (all : ℕ) × ReachedPassing block workers s all
passed_somehow block workers s Reached.started = (0, ReachedPassing.started)
passed_somehow block workers s (Reached.stepped {s = from} w step before within is) =
    let passed = passed_somehow block workers from before in (passed.0 + passed_by_step w step from, ReachedPassing.stepped w step passed.1 within is)

-- none were counted yet
pub none_passed : (b : CoreState) → Reached (block_in b) (length b.state.tasks) b.state → IsOnTheWay 0 b
none_passed b reached = let passed = passed_somehow (block_in b) (length b.state.tasks) b.state reached in (passed.0, passed.1, omega arith)

-- after a step at most as many more were counted as it passes
step_passes : (w : ℕ) (step : Step) (old new : CoreState) (passed now : ℕ) → IsOnTheWay passed old → Makes w step old new → w < length old.state.tasks → now ≤ passed + passed_by_step w step old.state
    → IsOnTheWay now new
step_passes w step old new passed now (all, reached, most) made within low =
    let there : ReachedPassing (block_in old) (length old.state.tasks) new.state (all + passed_by_step w step old.state) = ReachedPassing.stepped w step reached within made.0 in (
      all + passed_by_step w step old.state,
      subst (λ n. ReachedPassing (block_in new) n new.state (all + passed_by_step w step old.state)) (sym (turn_workers (block_in old) w step old.state new.state made.0))
          (subst (λ (j : Job). ReachedPassing (block_of j.block j.store) (length old.state.tasks) new.state (all + passed_by_step w step old.state)) (sym made.1) there),
      omega (arith, most, low),
    )

-- none of them, before they are counted
pub way_kept : (w : ℕ) (step : Step) (old new : CoreState) (passed : ℕ) → IsOnTheWay passed old → Makes w step old new → w < length old.state.tasks → IsOnTheWay passed new
way_kept w step old new passed way made within = step_passes w step old new passed passed way made within (omega arith)

-- all of them, after they are counted
pub way_on : (w : ℕ) (step : Step) (old new : CoreState) (passed more : ℕ) → IsOnTheWay passed old → Makes w step old new → w < length old.state.tasks → more ≡ passed_by_step w step old.state
    → IsOnTheWay (passed_with passed more) new
way_on w step old new passed more way made within is =
    step_passes w step old new passed (passed_with passed more) way made within (subst (λ n. passed_with passed more ≤ passed + n) is (min-le_left (passed + more) 18446744073709551615))

-- a book between a step of its core and its count of versions: no fault was written, and what it promises of the core still holds
pub between : (job : Job) (named limit : Option ℕ) (passed : ℕ) (fault : Option RunFault) (w : ℕ) (step : Step) (old new : CoreState)
    → FaultFits limit passed old fault × (old.job ≡ job) × IsOnTheWay passed old × (limit ≡ named) → fault ≡ None → Makes w step old new → w < length old.state.tasks
    → FaultFits limit passed new fault × (new.job ≡ job) × IsOnTheWay passed new × (limit ≡ named)
between job named limit passed fault w step old new was none made within =
    (subst (FaultFits limit passed new) (sym none) tt, made.1 ∙ was.1, way_kept w step old new passed was.2 made within, was.3)

-- so it does of a core with the same job and state
pub same_state : (job : Job) (named limit : Option ℕ) (passed : ℕ) (fault : Option RunFault) (old new : CoreState)
    → FaultFits limit passed old fault × (old.job ≡ job) × IsOnTheWay passed old × (limit ≡ named) → fault ≡ None → new.job ≡ old.job → new.state ≡ old.state
    → FaultFits limit passed new fault × (new.job ≡ job) × IsOnTheWay passed new × (limit ≡ named)
same_state job named limit passed fault old new was none same is = (
  subst (FaultFits limit passed new) (sym none) tt,
  same ∙ was.1,
  (
    was.2.0,
    subst (λ (s : State). ReachedPassing (block_in new) (length s.tasks) s was.2.0) (sym is)
        (subst (λ (j : Job). ReachedPassing (block_of j.block j.store) (length old.state.tasks) old.state was.2.0) (sym same) was.2.1),
    was.2.2,
  ),
  was.3,
)

-- a worker that owes a run runs the call of this index
pub runs_index : (s : State) (task : Task) (call n : ℕ) → next_step_of s task ≡ next_step.Run call n → runs task (index_run task) ≡ true
runs_index s Idle call n is = cc
runs_index s (Running i answers None) call n is = equal_itself i
runs_index s (Running i answers (Some writer)) call n is = cc
runs_index s (Moving i [] new) call n is = cc
runs_index s (Moving i (key ∷ keys) new) call n is = cc
runs_index s (Validating i m left true) call n is = cc
runs_index s (Validating i m zero false) call n is = cc
runs_index s (Validating i m (suc left) false) call n is = cc
runs_index s (Marking i []) call n is = cc
runs_index s (Marking i (key ∷ keys)) call n is = cc
