-- A run that only one worker continues: it is handed in, or its call is parked.
use Rattle.std.proofs.Common.{◌≡◌, ◌≢◌, ◌<◌, ◌≤◌, ◌+◌, ◌-◌, ℕ, zero, suc, Bool, true, List, [], ◌∷◌, ◌++◌, length, map, slice_get, Option, None, Some, Ok, arith, refl, sym, ap, ◌∙◌, length-append}
use Rattle.std.specs.List.{list_all}
use Rattle.std.proofs.lemmas.Bool.{cond-false, false_from_ne_true}
use Rattle.std.proofs.lemmas.List.{get_or-set_same, get_or-set_other, length-map}
use Rattle.rv_ledger.specs.declared.receipt.Receipt.{Receipt}
use Rattle.rv_step.specs.Replies.{reply_of, replies_of}
use Rattle.rv_step.specs.declared.answer.StorageAnswer.{StorageAnswer}
use Rattle.mvmap.specs.Reading.{reading, stands}
use Rattle.stm_state.specs.declared.state.Status.TheVariants.{Executed, Aborting}
use Rattle.stm_state.specs.declared.state.CallState.{CallState}
use Rattle.stm_state.specs.declared.state.Task.{Task}
use Rattle.stm_state.specs.declared.state.Task.TheVariants.{Idle, Running, Moving}
use Rattle.stm_state.specs.Limits.{incarnation_limit}
use Rattle.stm_state.specs.State.{State, fresh, call_at, task_at, with_call, with_task, is_executed}
use Rattle.stm_state.specs.Steps.{counted, one_step, one_execution, answered_with, read_of, recorded_reads, after_park, after_record, recorded_run, keys_to_move, has_new_key, step_with}
use Rattle.stm_state.specs.Drive.{asked_at, due_step_of_run}
use Rattle.stm_state.proofs.Invariant.{named_by}
use Rattle.stm_state.proofs.Tests.{is_executed_says}
use Rattle.stm_state.proofs.OneWorkerPhases.{call_there}
use Rattle.stm_state.proofs.Rounds.{Answered}
use Rattle.never_stuck.proofs.UnstuckGoals.{Setting, block, due}
use Rattle.never_stuck.proofs.OwedLists.{Comes, comes_here, comes_more, comes_so}
use Rattle.never_stuck.proofs.Kept.{OnlyCall, task_call, call_on, new_task, new_call}
use Rattle.never_stuck.proofs.RunReads.{AllStand, ReadOutcome, answers_run, blocks_run, read_outcome, blocker_is, answered_stand}
use Rattle.never_stuck.proofs.Bounded.{asks_early}
use Rattle.never_stuck.proofs.OwedSteps.{IsSound, worker_there, named_there, due_at, steps_on, parks_on, records_on}

-- call i's run is kept and its keys must be moved, and its reads stand if the answers so far did; or the call is parked on a
-- lower one that is not EXECUTED
pub data RunOutcome (w i : ℕ) (answers : List StorageAnswer) (s t : State) : Type 0 where
  hands_in : (keys : List (List ℕ)) (new : Bool) → OnlyCall w i s t → task_at t w ≡ Moving i keys new → (call_at t i).incarnation ≡ (call_at s i).incarnation → (AllStand s.versions i (map read_of answers) → AllStand t.versions i (recorded_reads (call_at t i).last)) → RunOutcome w i answers s t
  parks : (b : ℕ) → OnlyCall w i s t → task_at t w ≡ Idle → (call_at t i).incarnation ≡ (call_at s i).incarnation → b < i → (call_at s b).status ≢ Executed → RunOutcome w i answers s t

-- a call that is parked
abbrev pub waiting : ℕ → CallState → CallState
waiting b call = record call { status = Aborting; parked = Some b }

-- a run that met the estimate of a call that is not EXECUTED is parked
pub parked_is : (w i b : ℕ) (s : State) → (call_at s b).status ≢ Executed → after_park w i b s ≡ with_task w Idle (with_call i (waiting b (call_at s i)) s)
unfolding after_park
parked_is w i b s ne = cond-false (is_executed (call_at s b).status) _ _ (false_from_ne_true (is_executed (call_at s b).status) (λ e. ne (is_executed_says (call_at s b).status e)))

module _ (setting : Setting) (w i : ℕ) (w_in : w < setting.workers) where
  -- ---- a run that asks for nothing

  module _ (answers : List StorageAnswer) (s : State) (h : IsSound setting s) (at : task_at s w ≡ Running i answers None) (low : setting.strict ≡ true → (call_at s i).incarnation < incarnation_limit) where
    there : i < length s.calls
    there = named_there setting s h w w_in (Running i answers None) i at refl

    -- it is kept
    kept_run : (receipt : Receipt) → RunOutcome w i answers s (counted one_execution w (after_record w i answers receipt s))
    kept_run receipt =
        let call : CallState = record (call_at s i) { last = Some (recorded_run answers receipt) } in
        let keys = keys_to_move (call_at s i).last receipt.writes in
        let new = has_new_key (call_at s i).last receipt.writes in
        let now = get_or-set_same s.calls i call fresh there in
        hands_in keys new (record {
          calls = λ j ne. get_or-set_other s.calls i j call fresh ne;
          entries = λ key j ne. refl;
          tasks = λ x ne. get_or-set_other s.tasks w x (Moving i keys new) Idle ne;
          execution = refl;
          validation = refl;
        }) (get_or-set_same s.tasks w (Moving i keys new) Idle (worker_there setting s h w w_in)) (ap (λ (c : CallState). c.incarnation) now)
        (λ stand. ap (λ (c : CallState). list_all (stands s.versions i) (recorded_reads c.last)) now ∙ stand)

    pub run_kept : asked_at (slice_get setting.calls i) (replies_of answers) ≡ None → Comes setting (RunOutcome w i answers s) 1 1 s
    run_kept asks = records_on setting w w_in s h i low 0 0 answers at asks (omega arith) (omega arith) (λ receipt _. comes_here (kept_run receipt))

    -- a run that asks for a key has few answers
    pub still_short : (key : List ℕ) → asked_at (slice_get setting.calls i) (replies_of answers) ≡ Some key → length answers ≤ setting.reads
    still_short key asks =
        let call = call_there setting.calls i (h.inv.facts.named w i (ap named_by at)) in
        let short = asks_early call.0 (replies_of answers) key (ap (λ o. asked_at o (replies_of answers)) (sym call.1) ∙ asks) in
        let within = setting.most i call.0 call.1 in
        omega (arith, short, within, length-map answers reply_of)

  -- ---- a run that asks for a key

  -- a run with at most k reads to come ends within k + 1 steps
  abbrev EndsSoon : ℕ → Type 0
  EndsSoon k = (answers : List StorageAnswer) (s : State) → length answers + k ≡ setting.reads + 1 → IsSound setting s → task_at s w ≡ Running i answers None → (setting.strict ≡ true → (call_at s i).incarnation < incarnation_limit) → Comes setting (RunOutcome w i answers s) (k + 1) 1 s

  module _ (k : ℕ) (rest : EndsSoon k) (answers : List StorageAnswer) (s : State) (size : length answers + suc k ≡ setting.reads + 1) (h : IsSound setting s) (at : task_at s w ≡ Running i answers None) (low : setting.strict ≡ true → (call_at s i).incarnation < incarnation_limit) (key : List ℕ) where
    -- the state with another task
    abbrev read_to : Task → State
    read_to task = counted one_step w (with_task w task s)

    same_task : (task : Task) → task_at (read_to task) w ≡ task
    same_task task = get_or-set_same s.tasks w task Idle (worker_there setting s h w w_in)

    -- the run is answered
    after_answer : (answered : Answered setting.store key i answers (reading s.versions key i)) (t : State)
        → RunOutcome w i (answers ++ answered.answer ∷ []) (read_to (Running i (answers ++ answered.answer ∷ []) None)) t → RunOutcome w i answers s t
    after_answer answered t (hands_in keys new only now same stand) =
        let task : Task = Running i (answers ++ answered.answer ∷ []) None in
        hands_in keys new (call_on w i s (read_to task) t (task_call w i s (read_to task) (new_task w one_step task s)) only) now same (λ stood. stand (answered_stand (block setting) s key i answers answered stood))
    after_answer answered t (parks b only now same less ne) =
        let task : Task = Running i (answers ++ answered.answer ∷ []) None in
        parks b (call_on w i s (read_to task) t (task_call w i s (read_to task) (new_task w one_step task s)) only) now same less ne

    -- the run is blocked, and its call parked
    blocked_ends : (b : ℕ) → b < i → (call_at s b).status ≢ Executed → IsSound setting (read_to (Running i answers (Some b))) → Comes setting (RunOutcome w i answers s) 1 1 (read_to (Running i answers (Some b)))
    blocked_ends b less ne k =
        let u : State = read_to (Running i answers (Some b)) in
        let t : State = with_task w Idle (with_call i (waiting b (call_at s i)) u) in
        parks_on setting w w_in u k i low 0 answers b t (same_task (Running i answers (Some b))) (parked_is w i b u ne) refl (omega arith)
        (λ _. comes_here (parks b (call_on w i s u (counted one_step w t) (task_call w i s u (new_task w one_step (Running i answers (Some b)) s)) (new_call w i one_step Idle (waiting b (call_at s i)) u))
        (get_or-set_same u.tasks w Idle Idle (worker_there setting u k w w_in))
        (ap (λ (c : CallState). c.incarnation) (get_or-set_same s.calls i (waiting b (call_at s i)) fresh (there answers s h at low))) less ne))

    read_ends : due setting w s ≡ Some (Ok (read_to (answered_with setting.store key i answers (reading s.versions key i)))) → ReadOutcome setting.store key i answers (reading s.versions key i) → Comes setting (RunOutcome w i answers s) (suc k + 1) 1 s
    read_ends is (answers_run answered) =
        let task : Task = Running i (answers ++ answered.answer ∷ []) None in
        steps_on setting w w_in s h (k + 1) (read_to task) (is ∙ ap (λ x. Some (Ok (read_to x))) answered.task) refl (omega arith)
        (λ sound. comes_so (after_answer answered) (rest (answers ++ answered.answer ∷ []) (read_to task) (omega (arith, size, length-append answers (answered.answer ∷ []))) sound (same_task task) low))
    read_ends is (blocks_run b seen waits) =
        let lower = blocker_is (block setting) s h.inv.facts key i b seen in
        steps_on setting w w_in s h 1 (read_to (Running i answers (Some b))) (is ∙ ap (λ x. Some (Ok (read_to x))) waits) refl (omega arith) (blocked_ends b lower.0 lower.1)

    pub asking_ends : asked_at (slice_get setting.calls i) (replies_of answers) ≡ Some key → Comes setting (RunOutcome w i answers s) (suc k + 1) 1 s
    asking_ends asks =
        read_ends (due_at setting w s (Running i answers None) at ∙ ap (λ o. step_with (block setting) w (Running i answers None) (due_step_of_run o) s) asks)
        (read_outcome setting.store key i answers (reading s.versions key i))

  -- ---- any run

  first_asks : (k : ℕ) → EndsSoon k → (answers : List StorageAnswer) (s : State) → length answers + suc k ≡ setting.reads + 1 → IsSound setting s → task_at s w ≡ Running i answers None → (setting.strict ≡ true → (call_at s i).incarnation < incarnation_limit)
      → (o : Option (List ℕ)) → asked_at (slice_get setting.calls i) (replies_of answers) ≡ o → Comes setting (RunOutcome w i answers s) (suc k + 1) 1 s
  first_asks k rest answers s size h at low (Some key) asks = asking_ends k rest answers s size h at low key asks
  first_asks k rest answers s size h at low None asks = comes_more (omega arith) (omega arith) (run_kept answers s h at low asks)

  last_asks : (answers : List StorageAnswer) (s : State) → length answers + zero ≡ setting.reads + 1 → IsSound setting s → task_at s w ≡ Running i answers None → (setting.strict ≡ true → (call_at s i).incarnation < incarnation_limit)
      → (o : Option (List ℕ)) → asked_at (slice_get setting.calls i) (replies_of answers) ≡ o → Comes setting (RunOutcome w i answers s) (zero + 1) 1 s
  last_asks answers s size h at low (Some key) asks = let short = still_short answers s h at low key asks in absurd (omega (arith, short, size))
  last_asks answers s size h at low None asks = run_kept answers s h at low asks

  run_ends_in : (k : ℕ) → EndsSoon k
  run_ends_in zero answers s size h at low = last_asks answers s size h at low (asked_at (slice_get setting.calls i) (replies_of answers)) refl
  run_ends_in (suc k) answers s size h at low = first_asks k (run_ends_in k) answers s size h at low (asked_at (slice_get setting.calls i) (replies_of answers)) refl

  any_asks : (answers : List StorageAnswer) (s : State) → IsSound setting s → task_at s w ≡ Running i answers None → (setting.strict ≡ true → (call_at s i).incarnation < incarnation_limit)
      → (o : Option (List ℕ)) → asked_at (slice_get setting.calls i) (replies_of answers) ≡ o → Comes setting (RunOutcome w i answers s) (setting.reads + 2) 1 s
  any_asks answers s h at low (Some key) asks =
      let short = still_short answers s h at low key asks in
      comes_more (omega (arith, short)) (omega arith) (run_ends_in (setting.reads + 1 - length answers) answers s (omega (arith, short)) h at low)
  any_asks answers s h at low None asks = comes_more (omega arith) (omega arith) (run_kept answers s h at low asks)

  -- a run ends within two steps more than its call may read
  pub run_ends : (answers : List StorageAnswer) (s : State) → IsSound setting s → task_at s w ≡ Running i answers None → (setting.strict ≡ true → (call_at s i).incarnation < incarnation_limit) → Comes setting (RunOutcome w i answers s) (setting.reads + 2) 1 s
  run_ends answers s h at low = any_asks answers s h at low (asked_at (slice_get setting.calls i) (replies_of answers)) refl
