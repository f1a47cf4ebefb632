-- Steps of one worker, one after another.
use Rattle.std.proofs.Common.{◌≡◌, ◌∙◌, ◌+◌, ◌++◌, ℕ, List, [], ◌∷◌, length, Some, ap, refl, subst, sym}
use Rattle.std.proofs.lemmas.List.{length-append, map-append}
use Rattle.rv_ledger.specs.declared.job.Job.{Job}
use Rattle.stm_state.specs.Done.{block_of}
use Rattle.stm_state.specs.State.{State}
use Rattle.stm_state.specs.Steps.{Step}
use Rattle.stm_state.specs.Walk.{walk}
use Rattle.stm_state.proofs.Walks.{walk_here, walk_joined, walk_on}
use Rattle.stm_core.specs.CoreState.{CoreState, Makes, block_in}
use Rattle.stm_core.proofs.TaskChanges.{turn_workers}
use Rattle.block_driver.specs.Led.{IsLed, steps_by}

-- no step leads to the core itself
pub not_led : (w : ℕ) (b : CoreState) → IsLed w 0 b b
not_led w b = record { steps = []; count = refl; job = refl; workers = refl; leads = walk_here (block_in b) b.state }

-- a step leads on
pub led_by : (w : ℕ) (step : Step) (old new : CoreState) → Makes w step old new → IsLed w 1 old new
led_by w step old new made = record {
  steps = step ∷ [];
  count = refl;
  job = made.1;
  workers = turn_workers (block_in old) w step old.state new.state made.0;
  leads = walk_on (block_in old) (w, step) [] old.state new.state made.0 ∙ walk_here (block_in old) new.state;
}

-- steps after steps
pub led_on : (w m n : ℕ) (a b c : CoreState) → IsLed w m a b → IsLed w n b c → IsLed w (m + n) a c
led_on w m n a b c x y =
    let rest : walk (block_in a) (steps_by w y.steps) b.state ≡ Some c.state = subst (λ (j : Job). walk (block_of j.block j.store) (steps_by w y.steps) b.state ≡ Some c.state) x.job y.leads in
    record {
      steps = x.steps ++ y.steps;
      count = length-append x.steps y.steps ∙ ap (λ k. k + length y.steps) x.count ∙ ap (λ k. m + k) y.count;
      job = y.job ∙ x.job;
      workers = y.workers ∙ x.workers;
      leads =
          ap (λ entries. walk (block_in a) entries a.state) (map-append (λ step. (w, step)) x.steps y.steps)
          ∙ walk_joined (block_in a) (steps_by w x.steps) (steps_by w y.steps) a.state b.state x.leads
          ∙ rest;
    }

-- a step leads on from a core that has only more room
pub led_in_room : (w : ℕ) (step : Step) (old mid new : CoreState) → mid.job ≡ old.job → mid.state ≡ old.state → Makes w step mid new → IsLed w 1 old new
led_in_room w step old mid new job state made =
    let here : IsLed w 0 old mid = record {
      steps = [];
      count = refl;
      job = job;
      workers = ap (λ (s : State). length s.tasks) state;
      leads = subst (λ (s : State). walk (block_in old) [] old.state ≡ Some s) (sym state) (walk_here (block_in old) old.state);
    } in
    led_on w 0 1 old mid new here (led_by w step mid new made)
