-- The invariant holds of each state that worker steps lead to.
use Rattle.std.proofs.Common.{◌≡◌, ◌<◌, ℕ, Some, Ok, arith, refl, sym, ap, subst, length-set}
use Rattle.std.specs.FinMap.{get, get-empty}
use Rattle.std.proofs.lemmas.List.{length-replicate}
use Rattle.rv_ledger.specs.declared.outcome.Counts.{Counts}
use Rattle.mvmap.specs.Versions.{place_cmp}
use Rattle.stm_state.specs.declared.state.Status.TheVariants.{Ready}
use Rattle.stm_state.specs.declared.state.CallState.{CallState}
use Rattle.stm_state.specs.declared.state.Task.TheVariants.{Idle}
use Rattle.stm_state.specs.State.{State, fresh, no_counts, start_state, call_at, task_at}
use Rattle.stm_state.specs.Steps.{Block, Step, counted, one_step, one_asking, one_execution, one_validation, worker_step}
use Rattle.stm_state.specs.Done.{Reached, started, stepped}
use Rattle.stm_state.proofs.Invariant.{entry_of, Invariant}
use Rattle.stm_state.proofs.Lists.{replicated}
use Rattle.stm_state.proofs.Tests.{resized}
pub use Rattle.stm_state.proofs.StepsByTask.{same_state, none_ok, err_ok}
use Rattle.stm_state.proofs.StepsByTask.{IsMade, by_ask, by_read, by_park, by_record, by_move, by_finish, by_check, by_decide, by_mark, by_abort, made}
use Rattle.stm_state.proofs.Asks.{ask_kept}
use Rattle.stm_state.proofs.Runs.{read_kept, park_kept}
use Rattle.stm_state.proofs.Records.{record_kept}
use Rattle.stm_state.proofs.Moves.{move_kept}
use Rattle.stm_state.proofs.Finishes.{finish_kept}
use Rattle.stm_state.proofs.Checks.{check_kept}
use Rattle.stm_state.proofs.Aborts.{decide_kept, abort_kept}
use Rattle.stm_state.proofs.Marks.{mark_kept}

-- ---- the start state

module _ (block : Block) (workers : ℕ) where
  abbrev first : State
  first = start_state block.count workers

  all_fresh : (i : ℕ) → call_at first i ≡ fresh
  all_fresh i = replicated block.count i fresh

  all_idle : (w : ℕ) → task_at first w ≡ Idle
  all_idle w = replicated workers w Idle

  -- each call is READY
  ready_at : (i : ℕ) → (call_at first i).status ≡ Ready
  ready_at i = ap (λ (c : CallState). c.status) (all_fresh i)

  -- the invariant holds in the start state
  pub start_kept : Invariant block workers (start_state block.count workers)
  start_kept = record {
    sized = record { calls = length-replicate block.count fresh; tasks = length-replicate workers Idle; counts = length-replicate workers no_counts; dones = length-replicate workers 0 };
    facts = record {
      execution_within = omega arith;
      validation_within = omega arith;
      named = λ w i h. let e = all_idle w in cc;
      ready = λ i h. omega arith;
      executing = λ i h. let e = ready_at i in cc;
      running = λ w i h. let e = all_idle w in cc;
      alone = λ w u i h k. let e = all_idle w in cc;
      blocked = λ w i b answers h. let e = all_idle w in cc;
      aborting = λ i h. let e = ready_at i in cc;
      unparked = λ i _. ap (λ (c : CallState). c.parked) (all_fresh i);
      limit = λ i. let e = ap (λ (c : CallState). c.incarnation) (all_fresh i) in omega (arith, e);
      executed_limit = λ i h. let e = ready_at i in cc;
      aborting_limit = λ i h. let e = ready_at i in cc;
      entries = λ i key _. subst (λ (c : CallState). get first.versions (key, i) ≡ entry_of c key) (sym (all_fresh i)) (get-empty place_cmp (key, i));
      moving = λ w i keys new h. let e = all_idle w in cc;
      marking = λ w i keys h. let e = all_idle w in cc;
      executed = λ i h. let e = ready_at i in cc;
      recorded = λ i run h. let e = ap (λ (c : CallState). c.last) (all_fresh i) in cc;
      answered = λ w i answers waits h. let e = all_idle w in cc;
      validating = λ w i n left failed h. let e = all_idle w in cc;
      current = λ w i left failed h. let e = all_idle w in cc;
      safe = λ i h l. let e = ready_at i in cc;
    };
  }

-- ---- one step

-- counting a step keeps the invariant
counted_kept : (block : Block) (workers w : ℕ) (add : Counts → Counts) (s : State) → Invariant block workers s → Invariant block workers (counted add w s)
counted_kept block workers w add s h = record { sized = resized block.count workers s _ refl refl (length-set s.counts w _) refl h.sized; facts = h.facts }

module _ (block : Block) (workers w : ℕ) (s : State) (h : Invariant block workers s) (w_in : w < workers) where
  -- each step that is made keeps the invariant
  made_kept : (step : Step) (t : State) → IsMade block w s step t → Invariant block workers t
  made_kept step t (by_ask at) = counted_kept block workers w one_asking _ (ask_kept block workers w s h w_in at)
  made_kept step t (by_read i answers key at) = counted_kept block workers w one_step _ (read_kept block workers w i answers key s h w_in at)
  made_kept step t (by_park i b answers at below) = counted_kept block workers w one_step _ (park_kept block workers w i b answers s h w_in at below)
  made_kept step t (by_record i answers receipt at bears below) = counted_kept block workers w one_execution _ (record_kept block workers w i answers receipt s h w_in at below bears)
  made_kept step t (by_move i key keys new at) = counted_kept block workers w one_step _ (move_kept block workers w i key keys new s h w_in at)
  made_kept step t (by_finish i new at) = counted_kept block workers w one_step _ (finish_kept block workers w i new s h w_in at)
  made_kept step t (by_check i n left at) = counted_kept block workers w one_step _ (check_kept block workers w i n left s h w_in at)
  made_kept step t (by_decide i n left failed at last) = counted_kept block workers w one_validation _ (decide_kept block workers w i n left failed s h w_in at last)
  made_kept step t (by_mark i key keys at) = counted_kept block workers w one_step _ (mark_kept block workers w i key keys s h w_in at)
  made_kept step t (by_abort i at) = counted_kept block workers w one_step _ (abort_kept block workers w i s h w_in at)

-- each step keeps the invariant
pub worker_kept : (block : Block) (workers w : ℕ) (s t : State) → Invariant block workers s → w < workers → (step : Step) → worker_step block w step s ≡ Some (Ok t) → Invariant block workers t
worker_kept block workers w s t h w_in step k = made_kept block workers w s h w_in step t (made block w s t step k)

-- ---- all states

-- the invariant holds of each state that is reached
pub invariant_kept : (block : Block) (workers : ℕ) (s : State) → Reached block workers s → Invariant block workers s
invariant_kept block workers s started = start_kept block workers
invariant_kept block workers t (stepped {s} w step before w_in k) = worker_kept block workers w s t (invariant_kept block workers s before) w_in step k
