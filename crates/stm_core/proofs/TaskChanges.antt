-- What a worker's step changes: the worker's own task, and its own counts by one step.
use Rattle.std.proofs.Common.{◌≡◌, ◌≢◌, ◌<◌, ◌≤◌, ◌+◌, nat_lt, nat_le, ℕ, zero, suc, Bool, true, false, ◌&&◌, cond, List, [], ◌∷◌, length, map, get_or, set, Option, None, Some, Ok, Err, arith, refl, sym, ap, subst, ◌∙◌, length-set}
use Rattle.std.specs.FinMap.{len}
use Rattle.std.proofs.lemmas.List.{set-get_or, get_or-set_same, get_or-set_other}
use Rattle.rv_ledger.specs.Key.{Storage}
use Rattle.rv_ledger.specs.declared.receipt.Receipt.{Receipt}
use Rattle.rv_ledger.specs.declared.outcome.Counts.{Counts}
use Rattle.rv_step.specs.Replies.{replies_of}
use Rattle.rv_step.specs.declared.answer.StorageAnswer.{StorageAnswer}
use Rattle.mvmap.specs.Reading.{blocker, reading}
use Rattle.stm_state.specs.declared.state.Task.{Task}
use Rattle.stm_state.specs.declared.state.Task.TheVariants.{Idle, Running, Moving, Validating, Marking}
use Rattle.stm_state.specs.declared.state.CallState.{CallState}
use Rattle.stm_state.specs.State.{State, fresh, call_at, task_at, with_task, no_counts, is_ready, is_executed, is_done}
use Rattle.stm_state.specs.Steps.{Block, Step, Ask, ReadKey, Park, Record, MoveKey, FinishExecution, CheckRead, Decide, MarkEstimate, FinishAbort, ArenaFull, IncarnationLimit, counted, one_step, one_asking, one_execution, one_validation, after_ask, ask_validation, ask_execution, count_done, answered_by, after_read_key, after_park, after_record, after_move_key, after_finish_execution, next_incarnation, is_parked_on, resume_if_parked, resume_dependents, to_validate, after_check_read, next_stands, after_decide, after_mark_estimate, after_finish_abort, is_executed_at, record_within, step_with, worker_step}
use Rattle.stm_state.proofs.Invariant.{owned_by}
use Rattle.stm_state.proofs.InvariantKept.{same_state, none_ok, err_ok}
use Rattle.stm_core.specs.Driving.{HasNoAnswers}

-- each call except the one that worker w has keeps its last recorded run
abbrev pub KeepsLasts : ℕ → State → State → Type 0
KeepsLasts w s t = (i : ℕ) → owned_by (task_at s w) ≢ Some i → (call_at t i).last ≡ (call_at s i).last

-- worker w's task becomes one for which P holds; no other task changes, and no counts
pub record TaskTurn (w : ℕ) (P : Task → Type 0) (s t : State) : Type 0 where
  pub task : Task
  pub fits : P task
  pub tasks : t.tasks ≡ set s.tasks w task
  pub counts : t.counts ≡ s.counts
  pub lasts : KeepsLasts w s t

-- and worker w has made one step more
pub record Turn (w : ℕ) (P : Task → Type 0) (s t : State) : Type 0 where
  pub task : Task
  pub fits : P task
  pub tasks : t.tasks ≡ set s.tasks w task
  pub count : Counts
  pub one_more : count.steps ≡ (get_or s.counts w no_counts).steps + 1
  pub counts : t.counts ≡ set s.counts w count
  pub lasts : KeepsLasts w s t

-- the call whose run a task moves
abbrev pub moved_by : Task → Option ℕ
moved_by (Moving i keys new) = Some i
moved_by task = None

-- a task moves no keys, and its run, if it is not blocked, has no answers
abbrev pub Rests : Task → Type 0
Rests task = HasNoAnswers task × (moved_by task ≡ None)

-- what a step leaves of a task: keys to move if it is a record or a move, answers if it is a read, otherwise neither
abbrev pub LeavesTask : Step → Task → Type 0
LeavesTask (ReadKey key) task = moved_by task ≡ None
LeavesTask Record task = HasNoAnswers task
LeavesTask MoveKey task = HasNoAnswers task
LeavesTask step task = Rests task

-- ---- last recorded runs

-- if a changed call keeps its last recorded run, all calls keep theirs
set_last : (calls : List CallState) (j i : ℕ) (call : CallState) → call.last ≡ (get_or calls j fresh).last → (get_or (set calls j call) i fresh).last ≡ (get_or calls i fresh).last
set_last [] j i call e = refl
set_last (x ∷ xs) zero zero call e = e
set_last (x ∷ xs) zero (suc i) call e = refl
set_last (x ∷ xs) (suc j) zero call e = refl
set_last (x ∷ xs) (suc j) (suc i) call e = set_last xs j i call e

-- so do they if the calls that are parked on a call are readied
resumed_last : (k : ℕ) (calls : List CallState) (i : ℕ) → (get_or (map (resume_if_parked k) calls) i fresh).last ≡ (get_or calls i fresh).last
resumed_last k [] i = refl
resumed_last k (call ∷ calls) zero = go (is_parked_on k call)
  where
    go : (b : Bool) → (cond b (next_incarnation call) call).last ≡ call.last
    go true = refl
    go false = refl
resumed_last k (call ∷ calls) (suc i) = resumed_last k calls i

module _ (w : ℕ) (s : State) where
  -- a task is given
  given : (P : Task → Type 0) (task : Task) (t : State) → P task → t.tasks ≡ set s.tasks w task → t.counts ≡ s.counts → KeepsLasts w s t → TaskTurn w P s t
  given P task t p e c l = record { task = task; fits = p; tasks = e; counts = c; lasts = l }

  -- nothing changes
  same : (t : State) → task_at s w ≡ Idle → t.tasks ≡ s.tasks → t.counts ≡ s.counts → KeepsLasts w s t → TaskTurn w Rests s t
  same t at e c l = given Rests Idle t (tt, refl) (e ∙ sym (ap (set s.tasks w) (sym at) ∙ set-get_or s.tasks w Idle)) c l

  -- a step is counted
  counts_one : (P : Task → Type 0) (add : Counts → Counts) (t : State) → ((c : Counts) → (add c).steps ≡ c.steps + 1) → TaskTurn w P s t → Turn w P s (counted add w t)
  counts_one P add t more h = record {
    task = h.task;
    fits = h.fits;
    tasks = h.tasks;
    count = add (get_or s.counts w no_counts);
    one_more = more (get_or s.counts w no_counts);
    counts = ap (λ c. set c w (add (get_or c w no_counts))) h.counts;
    lasts = h.lasts;
  }

  -- ---- ask

  validation_asked : task_at s w ≡ Idle → TaskTurn w Rests s (ask_validation w s)
  unfolding ask_validation
  validation_asked at = go (is_executed (call_at s s.validation).status) refl
    where
      go : (b : Bool) → is_executed (call_at s s.validation).status ≡ b → TaskTurn w Rests s (ask_validation w s)
      go true e = rw e (given Rests _ _ (tt, refl) refl refl (λ i _. refl))
      go false e = rw e (same _ at refl refl (λ i _. refl))

  execution_asked : task_at s w ≡ Idle → TaskTurn w Rests s (ask_execution w s)
  unfolding ask_execution
  execution_asked at = go (is_ready (call_at s s.execution).status) refl
    where
      go : (b : Bool) → is_ready (call_at s s.execution).status ≡ b → TaskTurn w Rests s (ask_execution w s)
      go true e = rw e (given Rests _ _ (refl, refl) refl refl (λ i _. set_last s.calls s.execution i _ refl))
      go false e = rw e (same _ at refl refl (λ i _. refl))

  -- what an asking does, by its tests
  asked_by_tests : (done late more : Bool) → task_at s w ≡ Idle
      → TaskTurn w Rests s (cond done (count_done w s) (cond late (ask_validation w s) (cond more (ask_execution w s) s)))
  asked_by_tests true late more at = same _ at refl refl (λ i _. refl)
  asked_by_tests false true more at = validation_asked at
  asked_by_tests false false true at = execution_asked at
  asked_by_tests false false false at = same _ at refl refl (λ i _. refl)

  has_asked : task_at s w ≡ Idle → TaskTurn w Rests s (after_ask w s)
  has_asked at = asked_by_tests (is_done s) (nat_lt s.validation s.execution) (nat_lt s.execution (length s.calls)) at

  -- ---- read

  has_read : (base : Storage) (key : List ℕ) (i : ℕ) (answers : List StorageAnswer) → TaskTurn w (λ task. moved_by task ≡ None) s (after_read_key base key w i answers s)
  has_read base key i answers = given (λ task. moved_by task ≡ None) _ _ (go (blocker (reading s.versions key i))) refl refl (λ j _. refl)
    where
      go : (o : Option ℕ) → moved_by (answered_by base key i answers (reading s.versions key i) o) ≡ None
      go None = refl
      go (Some b) = refl

  -- ---- park

  has_parked : (i b : ℕ) → TaskTurn w Rests s (after_park w i b s)
  unfolding after_park
  has_parked i b = go (is_executed (call_at s b).status) refl
    where
      go : (d : Bool) → is_executed (call_at s b).status ≡ d → TaskTurn w Rests s (after_park w i b s)
      go true e = rw e (given Rests _ _ (refl, refl) refl refl (λ j _. refl))
      go false e = rw e (given Rests _ _ (tt, refl) refl refl (λ j _. set_last s.calls i j _ refl))

  -- ---- record

  pub has_recorded : (i : ℕ) (answers : List StorageAnswer) (receipt : Receipt) → task_at s w ≡ Running i answers None → TaskTurn w HasNoAnswers s (after_record w i answers receipt s)
  has_recorded i answers receipt at = given HasNoAnswers _ _ tt refl refl
      (λ j ne. ap (λ (call : CallState). call.last) (get_or-set_other s.calls i j _ fresh (λ e. ne (ap owned_by at ∙ ap Some (sym e)))))

  -- ---- move key

  pub has_moved : (i : ℕ) (key : List ℕ) (keys : List (List ℕ)) (new : Bool) → TaskTurn w HasNoAnswers s (after_move_key w i key keys new s)
  has_moved i key keys new = given HasNoAnswers _ _ tt refl refl (λ j _. refl)

  -- ---- finish execution

  -- all that are parked on it are readied, and no task changes
  resumed_tasks : (i : ℕ) (t : State) → (resume_dependents i t).tasks ≡ t.tasks
  unfolding resume_dependents
  resumed_tasks i t = refl

  resumed_counts : (i : ℕ) (t : State) → (resume_dependents i t).counts ≡ t.counts
  unfolding resume_dependents
  resumed_counts i t = refl

  resumed_lasts : (i : ℕ) (t : State) → (j : ℕ) → (call_at (resume_dependents i t) j).last ≡ (call_at t j).last
  unfolding resume_dependents
  resumed_lasts i t j = resumed_last i t.calls j

  -- what is left to validate
  left_to_validate : (i n left : ℕ) (new : Bool) (t : State) → t.tasks ≡ s.tasks → t.counts ≡ s.counts → KeepsLasts w s t → TaskTurn w Rests s (to_validate w i new (Validating i n left false) t)
  unfolding to_validate
  left_to_validate i n left new t e c l = go (nat_lt i t.validation) new
    where
      go : (past anew : Bool) → TaskTurn w Rests s (cond past (cond anew (with_task w Idle (record t { validation = i })) (with_task w (Validating i n left false) t)) (with_task w Idle t))
      go true true = given Rests Idle _ (tt, refl) (ap (λ l. set l w Idle) e) c l
      go true false = given Rests (Validating i n left false) _ (tt, refl) (ap (λ l. set l w (Validating i n left false)) e) c l
      go false anew = given Rests Idle _ (tt, refl) (ap (λ l. set l w Idle) e) c l

  has_executed : (i : ℕ) (new : Bool) → TaskTurn w Rests s (after_finish_execution w i new s)
  has_executed i new = left_to_validate i _ _ new _ (resumed_tasks i _) (resumed_counts i _) (λ j _. resumed_lasts i _ j ∙ set_last s.calls i j _ refl)

  -- ---- check read

  has_checked : (i n left : ℕ) → TaskTurn w Rests s (after_check_read w i n left s)
  unfolding after_check_read
  has_checked i n left = go (is_executed_at n (call_at s i)) (next_stands i (suc left) s)
    where
      go : (at stands : Bool) → TaskTurn w Rests s (cond at (cond stands (with_task w (Validating i n left false) s) (with_task w (Validating i n (suc left) true) s)) (with_task w Idle s))
      go true true = given Rests _ _ (tt, refl) refl refl (λ j _. refl)
      go true false = given Rests _ _ (tt, refl) refl refl (λ j _. refl)
      go false stands = given Rests _ _ (tt, refl) refl refl (λ j _. refl)

  -- ---- decide

  has_decided : (i n : ℕ) (failed : Bool) → TaskTurn w Rests s (after_decide w i n failed s)
  unfolding after_decide
  has_decided i n failed = go (failed && is_executed_at n (call_at s i)) refl
    where
      go : (d : Bool) → (failed && is_executed_at n (call_at s i)) ≡ d → TaskTurn w Rests s (after_decide w i n failed s)
      go true e = rw e (given Rests _ _ (tt, refl) refl refl (λ j _. set_last s.calls i j _ refl))
      go false e = rw e (given Rests _ _ (tt, refl) refl refl (λ j _. refl))

  -- ---- mark estimate

  has_marked : (i : ℕ) (key : List ℕ) (keys : List (List ℕ)) → TaskTurn w Rests s (after_mark_estimate w i key keys s)
  has_marked i key keys = given Rests _ _ (tt, refl) refl refl (λ j _. refl)

  -- ---- finish abort

  has_aborted : (i : ℕ) → TaskTurn w Rests s (after_finish_abort w i s)
  unfolding after_finish_abort
  has_aborted i = go (nat_lt i s.execution) refl
    where
      go : (d : Bool) → nat_lt i s.execution ≡ d → TaskTurn w Rests s (after_finish_abort w i s)
      go true e = rw e (given Rests _ _ (refl, refl) refl refl (λ j _. set_last s.calls i j _ refl))
      go false e = rw e (given Rests _ _ (tt, refl) refl refl (λ j _. set_last s.calls i j _ refl))

-- ---- each step

module _ (block : Block) (w : ℕ) (s t : State) where
  -- a record within the limits
  recorded_within : (i : ℕ) (answers : List StorageAnswer) (o : Option Receipt) → task_at s w ≡ Running i answers None → record_within i answers w o s ≡ Some (Ok t) → Turn w HasNoAnswers s t
  recorded_within i answers None at k = absurd (none_ok t k)
  recorded_within i answers (Some receipt) at k = go (nat_lt 1048576 (s.record_count + len receipt.writes)) (nat_le 65535 (call_at s i).incarnation) k
    where
      go : (full spent : Bool) → cond full (Some (Err ArenaFull)) (cond spent (Some (Err IncarnationLimit)) (Some (Ok (counted one_execution w (after_record w i answers receipt s))))) ≡ Some (Ok t) → Turn w HasNoAnswers s t
      go true spent k = absurd (err_ok ArenaFull t k)
      go false true k = absurd (err_ok IncarnationLimit t k)
      go false false k = subst (λ x. Turn w HasNoAnswers s x) (same_state _ t k) (counts_one w s HasNoAnswers one_execution _ (λ c. refl) (has_recorded w s i answers receipt at))

  -- parking within the limit
  parked_within : (i b : ℕ) (spent : Bool) → cond spent (Some (Err IncarnationLimit)) (Some (Ok (counted one_step w (after_park w i b s)))) ≡ Some (Ok t) → Turn w Rests s t
  parked_within i b true k = absurd (err_ok IncarnationLimit t k)
  parked_within i b false k = subst (λ x. Turn w Rests s x) (same_state _ t k) (counts_one w s Rests one_step _ (λ c. refl) (has_parked w s i b))

  -- each step, by the task
  step_turn : (task : Task) → task_at s w ≡ task → (step : Step) → step_with block w task step s ≡ Some (Ok t) → Turn w (LeavesTask step) s t
  step_turn Idle at Ask k = subst (λ x. Turn w Rests s x) (same_state _ t k) (counts_one w s Rests one_asking _ (λ c. refl) (has_asked w s at))
  step_turn (Running i answers None) at (ReadKey key) k =
      subst (λ x. Turn w (LeavesTask (ReadKey key)) s x) (same_state _ t k) (counts_one w s (LeavesTask (ReadKey key)) one_step _ (λ c. refl) (has_read w s block.base key i answers))
  step_turn (Running i answers (Some b)) at Park k = parked_within i b (nat_le 65535 (call_at s i).incarnation) k
  step_turn (Running i answers None) at Record k = recorded_within i answers (block.borne_out i (replies_of answers)) at k
  step_turn (Moving i (key ∷ keys) new) at MoveKey k = subst (λ x. Turn w HasNoAnswers s x) (same_state _ t k) (counts_one w s HasNoAnswers one_step _ (λ c. refl) (has_moved w s i key keys new))
  step_turn (Moving i [] new) at FinishExecution k = subst (λ x. Turn w Rests s x) (same_state _ t k) (counts_one w s Rests one_step _ (λ c. refl) (has_executed w s i new))
  step_turn (Validating i n left true) at Decide k = subst (λ x. Turn w Rests s x) (same_state _ t k) (counts_one w s Rests one_validation _ (λ c. refl) (has_decided w s i n true))
  step_turn (Validating i n (suc left) false) at CheckRead k = subst (λ x. Turn w Rests s x) (same_state _ t k) (counts_one w s Rests one_step _ (λ c. refl) (has_checked w s i n left))
  step_turn (Validating i n zero false) at Decide k = subst (λ x. Turn w Rests s x) (same_state _ t k) (counts_one w s Rests one_validation _ (λ c. refl) (has_decided w s i n false))
  step_turn (Marking i (key ∷ keys)) at MarkEstimate k = subst (λ x. Turn w Rests s x) (same_state _ t k) (counts_one w s Rests one_step _ (λ c. refl) (has_marked w s i key keys))
  step_turn (Marking i []) at FinishAbort k = subst (λ x. Turn w Rests s x) (same_state _ t k) (counts_one w s Rests one_step _ (λ c. refl) (has_aborted w s i))
  step_turn task at step k = absurd (none_ok t k)

  -- each step
  pub turn : (step : Step) → worker_step block w step s ≡ Some (Ok t) → Turn w (LeavesTask step) s t
  turn step k = step_turn (task_at s w) refl step k

-- ---- what a turn says

-- one more step of one worker is at most one more step of each
one_more_at : (counts : List Counts) (w u : ℕ) (c : Counts) → c.steps ≡ (get_or counts w no_counts).steps + 1 → (get_or (set counts w c) u no_counts).steps ≤ (get_or counts u no_counts).steps + 1
one_more_at [] w u c e = omega arith
one_more_at (x ∷ xs) zero zero c e = omega (arith, e)
one_more_at (x ∷ xs) zero (suc u) c e = omega arith
one_more_at (x ∷ xs) (suc w) zero c e = omega arith
one_more_at (x ∷ xs) (suc w) (suc u) c e = one_more_at xs w u c e

module _ (block : Block) (w : ℕ) (step : Step) (s t : State) (k : worker_step block w step s ≡ Some (Ok t)) where
  -- the number of workers stays
  pub turn_workers : length t.tasks ≡ length s.tasks
  turn_workers = let h = turn block w s t step k in ap length h.tasks ∙ length-set s.tasks w h.task

  -- the other tasks stay
  pub turn_others : (u : ℕ) → u ≢ w → task_at t u ≡ task_at s u
  turn_others u ne = let h = turn block w s t step k in ap (λ l. get_or l u Idle) h.tasks ∙ get_or-set_other s.tasks w u h.task Idle ne

  -- the worker's task is as the step leaves it
  pub turn_own : w < length s.tasks → LeavesTask step (task_at t w)
  turn_own lt = let h = turn block w s t step k in subst (LeavesTask step) (sym (ap (λ l. get_or l w Idle) h.tasks ∙ get_or-set_same s.tasks w h.task Idle lt)) h.fits

  -- each worker has made at most one step more
  pub turn_steps : (u : ℕ) → (get_or t.counts u no_counts).steps ≤ (get_or s.counts u no_counts).steps + 1
  turn_steps u =
      let h = turn block w s t step k in
      subst (λ l. (get_or l u no_counts).steps ≤ (get_or s.counts u no_counts).steps + 1) (sym h.counts) (one_more_at s.counts w u h.count h.one_more)
