-- Each step that is not an idle asking uses up some of what is left, except for what an incarnation brings.
use Rattle.std.proofs.Common.{◌≡◌, ◌≢◌, ◌<◌, ◌≤◌, ◌+◌, ◌*◌, ◌==◌, ◌&&◌, ◌++◌, min, nat_lt, ℕ, suc, Bool, true, false, cond, List, [], ◌∷◌, length, set, Option, None, Some, arith, refl, sym, ap, subst, ◌∙◌, inl, inr, length-append}
use Rattle.std.specs.FinMap.{entries, len-entries}
use Rattle.std.proofs.lemmas.Bool.{and_parts, cond_both}
use Rattle.std.specs.Cmp.Derive.{both_true}
use Rattle.std.specs.List.{list_all}
use Rattle.std.proofs.lemmas.List.{get_or-set_same, get_or-set_other, length-map}
use Rattle.std.proofs.Math.Nat.{mul-le-mul_left}
use Rattle.rv_ledger.specs.declared.receipt.Receipt.{Receipt}
use Rattle.rv_step.specs.Replies.{reply_of, replies_of}
use Rattle.rv_step.specs.declared.answer.StorageAnswer.{StorageAnswer}
use Rattle.mvmap.specs.Reading.{reading}
use Rattle.stm_state.specs.declared.state.Status.TheVariants.{Executing, Executed, Aborting}
use Rattle.stm_state.specs.declared.state.CallState.{CallState}
use Rattle.stm_state.specs.declared.state.Recorded.{Recorded}
use Rattle.stm_state.specs.declared.state.Task.{Task}
use Rattle.stm_state.specs.declared.state.Task.TheVariants.{Idle, Running, Moving, Validating, Marking}
use Rattle.stm_state.specs.State.{State, fresh, call_at, task_at, with_call, with_task, is_done, is_executed, is_idle, is_ready}
use Rattle.stm_state.specs.Steps.{Step, Ask, ReadKey, counted, one_asking, one_execution, one_step, one_validation, next_incarnation, ask_validation, ask_execution, after_ask, answered_with, after_read_key, after_park, after_record, after_move_key, after_finish_execution, after_check_read, after_decide, after_mark_estimate, after_finish_abort, has_new_key, is_executed_at, keys_of, keys_to_move, least_parked_call, next_stands, read_of, recorded_reads, recorded_run, resume_dependents, resume_if_parked, to_validate, written_by}
use Rattle.stm_state.proofs.Invariant.{Invariant, named_by, run_by}
use Rattle.stm_state.proofs.Lists.{ChangesAt, each_at, stays_at, set_at}
use Rattle.stm_state.proofs.StepsByTask.{IsMade, by_ask, by_read, by_park, by_record, by_move, by_finish, by_check, by_decide, by_mark, by_abort}
use Rattle.stm_state.proofs.Checks.{executed_at_says}
use Rattle.stm_state.proofs.Resumptions.{readied_cases}
use Rattle.stm_state.proofs.Tests.{equal_says, equal_itself, is_executed_says, is_ready_says, lt_says, not_lt_says}
use Rattle.never_stuck.proofs.RunReads.{ReadOutcome, answers_run, blocks_run, blocker_is, read_outcome}
use Rattle.always_ends.specs.Work.{work_of}
use Rattle.never_stuck.proofs.KeysLeft.{keys_few}
use Rattle.always_ends.proofs.Sums.{sum_pair_at, sum_more_at, sum_none}
use Rattle.always_ends.proofs.Finished.{ended, resumed, resumed_at, resumed_other}
use Rattle.always_ends.proofs.Measure.{Bounds, check, run, executed, executing, cost, check_is, executed_is, executing_is, ready_is, cost_is, stage, waiting_left, reads_left, task_left, indices_left, is_executed_in, calls_left, tasks_left, brought, Uses, first_run, task_grows, task_most, validation_passes, execution_passes, indices_most, execution_lowered}

-- what a step counts for
abbrev pub work_in : Bounds → Step → State → ℕ
work_in b (ReadKey key) s = cond b.counts_reads 1 0
work_in b step s = work_of step s

-- if reads are counted too, it is what the step counts for by itself
pub counts_all : (b : Bounds) → b.counts_reads ≡ true → (step : Step) (s : State) → work_in b step s ≡ work_of step s
counts_all b counts (ReadKey key) s = ap (λ c. cond c 1 0) counts
counts_all b counts step s = refl

module _ (b : Bounds) (w : ℕ) (s : State) (inv : Invariant b.block b.workers s) (w_in : w < b.workers) where
  pub w_there : w < length s.tasks
  w_there = let size = inv.sized.tasks in omega (arith, size, w_in)

  -- a call of a task
  pub named_in : (task : Task) (i : ℕ) → task_at s w ≡ task → named_by task ≡ Some i → i < b.block.count
  named_in task i at names = inv.facts.named w i (ap named_by at ∙ names)

  pub there : (i : ℕ) → i < b.block.count → i < length s.calls
  there i i_in = let size = inv.sized.calls in omega (arith, size, i_in)

  -- ---- a change of one call and of the worker's task

  module _ (i x : ℕ) (own : CallState) (task : Task) (t : State) (i_in : i < b.block.count) (calls : ChangesAt (call_at s) (call_at t) i own) (tasks : ChangesAt (task_at s) (task_at t) w task) where
    -- what is kept with the calls
    calls_used : calls_left b t + brought b s + (stage b (call_at s i).status + cost b * own.incarnation) ≤ calls_left b s + brought b t + (stage b own.status + cost b * (call_at s i).incarnation)
    calls_used = sum_pair_at b.block.count i (stage b (call_at s i).status + cost b * own.incarnation) (stage b own.status + cost b * (call_at s i).incarnation)
        (λ j. stage b (call_at t j).status) (λ j. cost b * (call_at s j).incarnation) (λ j. stage b (call_at s j).status) (λ j. cost b * (call_at t j).incarnation) i_in
        (λ j less ne. each_at (call_at s) (call_at t) i own calls j (λ c. stage b c.status + cost b * (call_at s j).incarnation ≤ stage b (call_at s j).status + cost b * c.incarnation) (λ e. absurd (ne e)) (λ other. omega arith))
        (subst (λ (c : CallState). stage b c.status + cost b * (call_at s i).incarnation + (stage b (call_at s i).status + cost b * own.incarnation) ≤ stage b (call_at s i).status + cost b * c.incarnation + (stage b own.status + cost b * (call_at s i).incarnation)) (sym calls.there) (omega arith))

    -- what is left of the tasks, if no call becomes EXECUTED
    module _ (still : is_executed own.status ≡ true → is_executed (call_at s i).status ≡ true) where
      none_more : (j : ℕ) → is_executed_in b t j ≡ true → is_executed_in b s j ≡ true
      none_more j = each_at (call_at s) (call_at t) i own calls j (λ c. is_executed c.status ≡ true → is_executed (call_at s j).status ≡ true) (λ e h. ap (λ y. is_executed (call_at s y).status) e ∙ still h) (λ ne h. h)

      tasks_used : tasks_left b t + task_left b (is_executed_in b s) (task_at s w) ≤ tasks_left b s + task_left b (is_executed_in b s) task
      tasks_used =
          let zeros = sum_none b.workers in
          let all = sum_pair_at b.workers w (task_left b (is_executed_in b s) (task_at s w)) (task_left b (is_executed_in b s) task)
          (λ y. task_left b (is_executed_in b t) (task_at t y)) (λ y. 0) (λ y. task_left b (is_executed_in b s) (task_at s y)) (λ y. 0) w_in
          (λ y less ne. let grows = task_grows b (is_executed_in b t) (is_executed_in b s) none_more (task_at t y) in let same = ap (task_left b (is_executed_in b s)) (tasks.other y ne) in omega (arith, grows, same))
          (let grows = task_grows b (is_executed_in b t) (is_executed_in b s) none_more (task_at t w) in let same = ap (task_left b (is_executed_in b s)) tasks.there in omega (arith, grows, same)) in
          omega (arith, zeros, all)

      pub uses_at : stage b own.status + cost b * (call_at s i).incarnation + task_left b (is_executed_in b s) task + indices_left b t.validation t.execution + x ≤ stage b (call_at s i).status + cost b * own.incarnation + task_left b (is_executed_in b s) (task_at s w) + indices_left b s.validation s.execution → Uses b x s t
      uses_at h = let c = calls_used in let k = tasks_used in omega (arith, c, k, h)

  -- ---- states with another task of the worker, and with another call

  -- a state with other indices
  abbrev pub with_indices : (v e : ℕ) → State
  with_indices v e = record s { validation = v; execution = e }

  -- with another task of the worker, which is of call i, or of none
  pub uses_task : (i x : ℕ) (task : Task) (v e : ℕ) → i < b.block.count → task_left b (is_executed_in b s) task + indices_left b v e + x ≤ task_left b (is_executed_in b s) (task_at s w) + indices_left b s.validation s.execution → Uses b x s (with_task w task (with_indices v e))
  uses_task i x task v e i_in h = uses_at i x (call_at s i) task (with_task w task (with_indices v e)) i_in (stays_at (call_at s) i) (set_at s.tasks w task Idle w_there) (λ h. h) (omega (arith, h))

  -- with another call i beside it
  pub uses_call : (i x : ℕ) (own : CallState) (task : Task) (v e : ℕ) → i < b.block.count → (is_executed own.status ≡ true → is_executed (call_at s i).status ≡ true)
      → stage b own.status + cost b * (call_at s i).incarnation + task_left b (is_executed_in b s) task + indices_left b v e + x ≤ stage b (call_at s i).status + cost b * own.incarnation + task_left b (is_executed_in b s) (task_at s w) + indices_left b s.validation s.execution
      → Uses b x s (with_task w task (with_call i own (with_indices v e)))
  uses_call i x own task v e i_in still h = uses_at i x own task (with_task w task (with_call i own (with_indices v e))) i_in (set_at s.calls i own fresh (there i i_in)) (set_at s.tasks w task Idle w_there) still h

  -- ---- asking

  module _ (at : task_at s w ≡ Idle) where
    nothing_left : task_left b (is_executed_in b s) (task_at s w) ≡ 0
    nothing_left = ap (task_left b (is_executed_in b s)) at

    ask_validation_uses : (reads_in : (i : ℕ) → length (recorded_reads (call_at s i).last) ≤ b.reads) → s.validation < s.execution → Uses b 1 s (counted one_asking w (ask_validation w s))
    unfolding ask_validation
    ask_validation_uses reads_in behind =
        let within = inv.facts.execution_within in
        let i_in : s.validation < b.block.count = omega (arith, behind, within) in
        let passes = validation_passes b s.validation s.execution i_in in
        let none = nothing_left in
        let checks = check_is b in
        cond_both (is_executed (call_at s s.validation).status) _ _ (λ t. Uses b 1 s (counted one_asking w t))
        (λ h. let few = reads_in s.validation in uses_task s.validation 1 (Validating s.validation (call_at s s.validation).incarnation (length (recorded_reads (call_at s s.validation).last)) false) (s.validation + 1) s.execution i_in (omega (arith, passes, none, checks, few)))
        (λ h. omega (arith, passes, checks))

    ask_execution_uses : s.execution < b.block.count → Uses b 1 s (counted one_asking w (ask_execution w s))
    unfolding ask_execution
    ask_execution_uses i_in =
        let passes = execution_passes b s.validation s.execution i_in in
        let none = nothing_left in
        let readies = ready_is b in
        let begins = first_run b b.counts_reads in
        cond_both (is_ready (call_at s s.execution).status) _ _ (λ t. Uses b 1 s (counted one_asking w t))
        (λ h. let kept = ap (stage b) (is_ready_says (call_at s s.execution).status h) in uses_call s.execution 1 (record (call_at s s.execution) { status = Executing }) (Running s.execution [] None) s.validation (s.execution + 1) i_in (λ e. cc) (omega (arith, passes, none, readies, begins, kept)))
        (λ h. omega (arith, passes))

    -- both indices are past the last call
    abbrev are_past : Bool
    are_past = s.execution == length s.calls && s.validation == length s.calls

    past_says : are_past ≡ true → (s.execution ≡ length s.calls) × (s.validation ≡ length s.calls)
    past_says h = let both = and_parts (s.execution == length s.calls) (s.validation == length s.calls) h in (equal_says s.execution (length s.calls) both.0, equal_says s.validation (length s.calls) both.1)

    past_is : s.execution ≡ length s.calls → s.validation ≡ length s.calls → are_past ≡ true
    past_is e v = both_true (ap (λ x. x == length s.calls) e ∙ equal_itself (length s.calls)) (ap (λ x. x == length s.calls) v ∙ equal_itself (length s.calls))

    done_past : is_done s ≡ true → are_past ≡ true
    unfolding is_done
    done_past h = (and_parts are_past (list_all is_idle s.tasks) h).0

    -- an asking that is idle
    idle_uses : are_past ≡ true → Uses b 0 s (counted one_asking w (after_ask w s))
    idle_uses past =
        let at_end = past_says past in
        let e = at_end.0 in let v = at_end.1 in
        cond_both (is_done s) _ _ (λ t. Uses b 0 s (counted one_asking w t)) (λ _. omega arith)
        (λ _. cond_both (nat_lt s.validation s.execution) _ _ (λ t. Uses b 0 s (counted one_asking w t)) (λ l. let less = lt_says s.validation s.execution l in absurd (omega (arith, less, e, v)))
        (λ _. cond_both (nat_lt s.execution (length s.calls)) _ _ (λ t. Uses b 0 s (counted one_asking w t)) (λ l. let less = lt_says s.execution (length s.calls) l in absurd (omega (arith, less, e)))
        (λ _. omega arith)))

    -- one that is not
    asking_uses : (reads_in : (i : ℕ) → length (recorded_reads (call_at s i).last) ≤ b.reads) → are_past ≡ false → Uses b 1 s (counted one_asking w (after_ask w s))
    asking_uses reads_in short =
        let size = inv.sized.calls in
        let e_in = inv.facts.execution_within in
        let v_in = inv.facts.validation_within in
        cond_both (is_done s) _ _ (λ t. Uses b 1 s (counted one_asking w t)) (λ d. let past = done_past d in cc)
        (λ _. cond_both (nat_lt s.validation s.execution) _ _ (λ t. Uses b 1 s (counted one_asking w t)) (λ l. ask_validation_uses reads_in (lt_says s.validation s.execution l))
        (λ level. cond_both (nat_lt s.execution (length s.calls)) _ _ (λ t. Uses b 1 s (counted one_asking w t)) (λ l. let less = lt_says s.execution (length s.calls) l in ask_execution_uses (omega (arith, less, size)))
        (λ ends.
        let above = not_lt_says s.validation s.execution level in
        let over = not_lt_says s.execution (length s.calls) ends in
        let past = past_is (omega (arith, over, e_in, size)) (omega (arith, over, above, v_in, size)) in cc)))

    pub ask_uses : (reads_in : (i : ℕ) → length (recorded_reads (call_at s i).last) ≤ b.reads) → Uses b (work_of Ask s) s (counted one_asking w (after_ask w s))
    ask_uses reads_in = cond_both are_past _ _ (λ x. Uses b x s (counted one_asking w (after_ask w s))) (λ past. idle_uses past) (λ short. asking_uses reads_in short)

  -- ---- sizes of what is recorded

  reads_by : (i : ℕ) (last : Option Recorded) → (call_at s i).last ≡ last → (length (recorded_reads last) ≤ b.reads) × (length (keys_of (written_by last)) ≤ b.writes)
  reads_by i None at = (omega arith, omega arith)
  reads_by i (Some run) at =
      let bears = inv.facts.recorded i run at in
      let small = b.small i (replies_of bears.answers) run.receipt bears.borne_out in
      let few = small.0 in
      let short = small.1 in
      let reads : length run.reads ≡ length (replies_of bears.answers) = ap length (sym bears.reads) ∙ length-map bears.answers read_of ∙ sym (length-map bears.answers reply_of) in
      let size = len-entries run.receipt.writes in
      (omega (arith, short, reads), omega (arith, few, size, length-map (entries run.receipt.writes) (λ write. write.0)))

  reads_short : (i : ℕ) → length (recorded_reads (call_at s i).last) ≤ b.reads
  reads_short i = (reads_by i (call_at s i).last refl).0

  pub written_few : (i : ℕ) → length (keys_of (written_by (call_at s i).last)) ≤ b.writes
  written_few i = (reads_by i (call_at s i).last refl).1

  -- ---- a run

  -- a read that is counted
  abbrev read_work : ℕ
  read_work = cond b.counts_reads 1 0

  reads_fall : (c : Bool) (made more : ℕ) → (c ≡ true → made < b.reads) → more ≡ made + 1 → reads_left b c more + cond c 1 0 ≤ reads_left b c made
  reads_fall true made more short e = let less = short refl in omega (arith, less, e)
  reads_fall false made more short e = omega arith

  one_read : (c : Bool) → cond c 1 0 ≤ 1
  one_read true = omega arith
  one_read false = omega arith

  read_uses : (i : ℕ) (answers : List StorageAnswer) (key : List ℕ) → task_at s w ≡ Running i answers None → (b.counts_reads ≡ true → length answers < b.reads) → Uses b read_work s (counted one_step w (after_read_key b.block.base key w i answers s))
  read_uses i answers key at short = go (read_outcome b.block.base key i answers (reading s.versions key i))
    where
      now : task_left b (is_executed_in b s) (task_at s w) ≡ reads_left b b.counts_reads (length answers) + (2 * b.writes + 2)
      now = ap (task_left b (is_executed_in b s)) at

      blocked : (on : ℕ) → (call_at s on).status ≢ Executed → waiting_left b (is_executed_in b s on) ≡ 1
      blocked on ne = by (is_executed_in b s on) refl
        where
          by : (p : Bool) → is_executed_in b s on ≡ p → waiting_left b p ≡ 1
          by true h = absurd (ne (is_executed_says (call_at s on).status h))
          by false h = refl

      go : ReadOutcome b.block.base key i answers (reading s.versions key i) → Uses b read_work s (counted one_step w (with_task w (answered_with b.block.base key i answers (reading s.versions key i)) s))
      go (answers_run answered) =
          uses_task i read_work _ s.validation s.execution (named_in (Running i answers None) i at refl)
          (let task = ap (task_left b (is_executed_in b s)) answered.task in
          let falls = reads_fall b.counts_reads (length answers) (length (answers ++ answered.answer ∷ [])) short (length-append answers (answered.answer ∷ [])) in
          let before = now in omega (arith, task, falls, before))
      go (blocks_run on seen waits) =
          uses_task i read_work _ s.validation s.execution (named_in (Running i answers None) i at refl)
          (let task = ap (task_left b (is_executed_in b s)) waits in
          let one = blocked on (blocker_is b.block s inv.facts key i on seen).1 in
          let before = now in
          let most = one_read b.counts_reads in omega (arith, task, one, before, most))

  park_uses : (i on : ℕ) (answers : List StorageAnswer) → task_at s w ≡ Running i answers (Some on) → Uses b 1 s (counted one_step w (after_park w i on s))
  unfolding after_park
  park_uses i on answers at =
      let i_in = named_in (Running i answers (Some on)) i at refl in
      let now = ap (task_left b (is_executed_in b s)) at in
      let begins = first_run b b.counts_reads in
      let runs = ap (stage b) (inv.facts.running w i (ap run_by at)) in
      cond_both (is_executed (call_at s on).status) _ _ (λ t. Uses b 1 s (counted one_step w t))
      (λ h. let again = ap (waiting_left b) h in uses_task i 1 (Running i [] None) s.validation s.execution i_in (omega (arith, now, again, begins)))
      (λ h. let waits = ap (waiting_left b) h in uses_call i 1 (record (call_at s i) { status = Aborting; parked = Some on }) Idle s.validation s.execution i_in (λ e. cc) (omega (arith, now, waits, runs)))

  record_uses : (i : ℕ) (answers : List StorageAnswer) (receipt : Receipt) → task_at s w ≡ Running i answers None → b.block.borne_out i (replies_of answers) ≡ Some receipt → Uses b 1 s (counted one_execution w (after_record w i answers receipt s))
  record_uses i answers receipt at bears =
      let i_in = named_in (Running i answers None) i at refl in
      let now = ap (task_left b (is_executed_in b s)) at in
      let small = b.small i (replies_of answers) receipt bears in
      let few = keys_few b.writes (call_at s i).last receipt.writes small.0 (written_few i) in
      uses_call i 1 (record (call_at s i) { last = Some (recorded_run answers receipt) }) (Moving i (keys_to_move (call_at s i).last receipt.writes) (has_new_key (call_at s i).last receipt.writes)) s.validation s.execution i_in (λ e. e) (omega (arith, now, few))

  -- ---- keys

  move_uses : (i : ℕ) (key : List ℕ) (keys : List (List ℕ)) (new : Bool) → task_at s w ≡ Moving i (key ∷ keys) new → Uses b 1 s (counted one_step w (after_move_key w i key keys new s))
  move_uses i key keys new at =
      let now = ap (task_left b (is_executed_in b s)) at in
      uses_task i 1 (Moving i keys new) s.validation s.execution (named_in (Moving i (key ∷ keys) new) i at refl) (omega (arith, now))

  mark_uses : (i : ℕ) (key : List ℕ) (keys : List (List ℕ)) → task_at s w ≡ Marking i (key ∷ keys) → Uses b 1 s (counted one_step w (after_mark_estimate w i key keys s))
  mark_uses i key keys at =
      let now = ap (task_left b (is_executed_in b s)) at in
      uses_task i 1 (Marking i keys) s.validation s.execution (named_in (Marking i (key ∷ keys)) i at refl) (omega (arith, now))

  -- ---- a validation

  check_uses : (i n more : ℕ) → task_at s w ≡ Validating i n (suc more) false → Uses b 1 s (counted one_step w (after_check_read w i n more s))
  unfolding after_check_read
  check_uses i n more at =
      let i_in = named_in (Validating i n (suc more) false) i at refl in
      let now = ap (task_left b (is_executed_in b s)) at in
      cond_both (is_executed_at n (call_at s i)) _ _ (λ t. Uses b 1 s (counted one_step w t))
      (λ _. cond_both (next_stands i (suc more) s) _ _ (λ t. Uses b 1 s (counted one_step w t))
      (λ _. uses_task i 1 (Validating i n more false) s.validation s.execution i_in (omega (arith, now)))
      (λ _. uses_task i 1 (Validating i n (suc more) true) s.validation s.execution i_in (omega (arith, now))))
      (λ _. uses_task i 1 Idle s.validation s.execution i_in (omega (arith, now)))

  -- a decision is left
  decides : (i n more : ℕ) (failed : Bool) → (failed ≡ false → more ≡ 0) → task_left b (is_executed_in b s) (Validating i n more failed) ≡ 1
  decides i n more true last = refl
  decides i n more false last = let none = last refl in omega (arith, none)

  decide_uses : (i n more : ℕ) (failed : Bool) → task_at s w ≡ Validating i n more failed → (failed ≡ false → more ≡ 0) → Uses b 1 s (counted one_validation w (after_decide w i n failed s))
  unfolding after_decide
  decide_uses i n more failed at last =
      let i_in = named_in (Validating i n more failed) i at refl in
      let now : task_left b (is_executed_in b s) (task_at s w) ≡ 1 = ap (task_left b (is_executed_in b s)) at ∙ decides i n more failed last in
      cond_both (failed && is_executed_at n (call_at s i)) _ _ (λ t. Uses b 1 s (counted one_validation w t))
      (λ both.
      let done = ap (stage b) (executed_at_says n (call_at s i) (and_parts failed (is_executed_at n (call_at s i)) both).1).0 in
      let few = written_few i in
      let kept = executed_is b in
      uses_call i 1 (record (call_at s i) { status = Aborting }) (Marking i (keys_of (written_by (call_at s i).last))) s.validation s.execution i_in (λ e. cc) (omega (arith, now, done, few, kept)))
      (λ _. uses_task i 1 Idle s.validation s.execution i_in (omega (arith, now)))

  -- ---- the end of an abort

  abort_uses : (i : ℕ) → task_at s w ≡ Marking i [] → Uses b 1 s (counted one_step w (after_finish_abort w i s))
  unfolding after_finish_abort
  abort_uses i at =
      let i_in = named_in (Marking i []) i at refl in
      let now = ap (task_left b (is_executed_in b s)) at in
      let aborts = ap (stage b) (inv.facts.marking w i [] at).aborting in
      let most = indices_most b (min s.validation (i + 1)) s.execution in
      let begins = first_run b b.counts_reads in
      let readies = ready_is b in
      let brings = cost_is b in
      cond_both (nat_lt i s.execution) _ _ (λ t. Uses b 1 s (counted one_step w t))
      (λ _. uses_call i 1 (record (next_incarnation (call_at s i)) { status = Executing }) (Running i [] None) (min s.validation (i + 1)) s.execution i_in (λ e. cc) (omega (arith, now, aborts, most, begins, readies, brings)))
      (λ _. uses_call i 1 (next_incarnation (call_at s i)) Idle (min s.validation (i + 1)) s.execution i_in (λ e. cc) (omega (arith, now, aborts, most, begins, readies, brings)))

  -- ---- the end of an execution

  module _ (i : ℕ) (new : Bool) (at : task_at s w ≡ Moving i [] new) where
    ended_in : i < b.block.count
    ended_in = named_in (Moving i [] new) i at refl

    runs : (call_at s i).status ≡ Executing
    runs = inv.facts.running w i (ap run_by at)

    -- a call that is readied brings what is kept with it
    readied_uses : (c : CallState) → stage b (resume_if_parked i c).status + cost b * c.incarnation ≤ stage b c.status + cost b * (resume_if_parked i c).incarnation
    readied_uses c = elim (readied_cases i c) [
      | inl same ↦ subst (λ (d : CallState). stage b d.status + cost b * c.incarnation ≤ stage b c.status + cost b * d.incarnation) (sym same) (omega arith)
      | inr q ↦
          let brings = cost_is b in
          subst (λ (d : CallState). stage b d.status + cost b * c.incarnation ≤ stage b c.status + cost b * d.incarnation) (sym q.1) (omega (arith, brings))
    ]

    module _ (task : Task) (v e : ℕ) (plain : (d e : ℕ → Bool) → task_left b d task ≡ task_left b e task) where
      -- the state afterwards
      abbrev t : State
      t = with_task w task (record (with_indices v e) { calls = resumed s i })

      ended_calls : calls_left b t + brought b s + executing b ≤ calls_left b s + brought b t + executed b
      ended_calls = sum_pair_at b.block.count i (executing b) (executed b)
          (λ j. stage b (call_at t j).status) (λ j. cost b * (call_at s j).incarnation) (λ j. stage b (call_at s j).status) (λ j. cost b * (call_at t j).incarnation) ended_in
          (λ j less ne. subst (λ (c : CallState). stage b c.status + cost b * (call_at s j).incarnation ≤ stage b (call_at s j).status + cost b * c.incarnation) (sym (resumed_other s i j ne)) (readied_uses (call_at s j)))
          (let was = ap (stage b) runs in
          subst (λ (c : CallState). stage b c.status + cost b * (call_at s i).incarnation + executing b ≤ stage b (call_at s i).status + cost b * c.incarnation + executed b) (sym (resumed_at s i (there i ended_in))) (omega (arith, was)))

      ended_tasks : tasks_left b t + 1 ≤ tasks_left b s + task_left b (is_executed_in b s) task + b.workers * run b
      ended_tasks =
          let now = ap (task_left b (is_executed_in b s)) at in
          let all = sum_more_at b.workers w (run b) (λ y. task_left b (is_executed_in b t) (task_at t y)) (λ y. task_left b (is_executed_in b s) (task_at s y)) w_in
          (λ y less ne. let most = task_most b (is_executed_in b t) (is_executed_in b s) (task_at t y) in let same = ap (task_left b (is_executed_in b s)) (get_or-set_other s.tasks w y task Idle ne) in omega (arith, most, same)) in
          let own = ap (task_left b (is_executed_in b t)) (get_or-set_same s.tasks w task Idle w_there) in
          let same = plain (is_executed_in b t) (is_executed_in b s) in
          omega (arith, now, all, own, same)

      ended_uses : task_left b (is_executed_in b s) task + indices_left b v e ≤ check b * b.block.count + b.block.count + indices_left b s.validation s.execution → Uses b 1 s t
      ended_uses h =
          let c = ended_calls in
          let k = ended_tasks in
          let kept = executing_is b in
          omega (arith, c, k, kept, h)

    -- a call to check, for one call of the block at the least
    checks_in : check b ≤ check b * b.block.count
    checks_in = let one : 1 ≤ b.block.count = omega (arith, ended_in) in let all = mul-le-mul_left (check b) one in omega (arith, all)

    -- with a new key the validation index is lowered; otherwise the worker has a call to check, or nothing
    finish_uses : Uses b 1 s (counted one_step w (after_finish_execution w i new s))
    unfolding to_validate resume_dependents
    finish_uses =
        let e = least_parked_call i s.execution 0 (set s.calls i (ended s i)) in
        let lowered = execution_lowered b s.validation s.execution e in
        let first = checks_in in
        let short = reads_short i in
        let checks = check_is b in
        cond_both (nat_lt i s.validation) _ _ (λ t. Uses b 1 s (counted one_step w t))
        (λ _. cond_both new _ _ (λ t. Uses b 1 s (counted one_step w t))
        (λ _. let most = indices_most b i e in ended_uses Idle i e (λ c d. refl) (omega (arith, most)))
        (λ _. ended_uses (Validating i (call_at s i).incarnation (length (recorded_reads (call_at s i).last)) false) s.validation e (λ c d. refl) (omega (arith, lowered, first, short, checks))))
        (λ _. ended_uses Idle s.validation e (λ c d. refl) (omega (arith, lowered)))

  -- ---- each step

  pub made_uses : (step : Step) (t : State) → IsMade b.block w s step t → ((i : ℕ) (answers : List StorageAnswer) (key : List ℕ) → step ≡ ReadKey key → task_at s w ≡ Running i answers None → b.counts_reads ≡ true → length answers < b.reads)
      → Uses b (work_in b step s) s t
  made_uses step t (by_ask at) short = ask_uses at reads_short
  made_uses step t (by_read i answers key at) short = read_uses i answers key at (short i answers key refl at)
  made_uses step t (by_park i on answers at below) short = park_uses i on answers at
  made_uses step t (by_record i answers receipt at bears below) short = record_uses i answers receipt at bears
  made_uses step t (by_move i key keys new at) short = move_uses i key keys new at
  made_uses step t (by_finish i new at) short = finish_uses i new at
  made_uses step t (by_check i n more at) short = check_uses i n more at
  made_uses step t (by_decide i n more failed at last) short = decide_uses i n more failed at last
  made_uses step t (by_mark i key keys at) short = mark_uses i key keys at
  made_uses step t (by_abort i at) short = abort_uses i at
