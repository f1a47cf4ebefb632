-- What steps add up to by their prices: a bounded amount for each incarnation of a call.
use Rattle.std.proofs.Common.{◌≡◌, ◌≢◌, ◌<◌, ◌≤◌, ◌+◌, ◌*◌, ◌&&◌, nat_lt, ℕ, suc, Bool, true, false, if◌then◌else◌, List, [], ◌∷◌, length, set, get_or, Option, None, Some, Ok, option_map, arith, refl, sym, ap, subst, ◌∙◌, inl, inr}
use Rattle.std.proofs.Math.Nat.{mul-le-mul_left}
use Rattle.std.proofs.lemmas.Bool.{and_parts, cases_eq, cases_lt, cond_both, cond-true, cond-false}
use Rattle.std.proofs.lemmas.List.{get_or-set_same, get_or-set_other}
use Rattle.rv_ledger.specs.declared.receipt.Receipt.{Receipt}
use Rattle.rv_ledger.specs.declared.outcome.Counts.{Counts}
use Rattle.rv_step.specs.Replies.{replies_of}
use Rattle.rv_step.specs.declared.answer.StorageAnswer.{StorageAnswer}
use Rattle.mvmap.specs.Reading.{reading}
use Rattle.mvmap.specs.Versions.{Entry, Estimate, Versions, changed, entry_at}
use Rattle.stm_state.specs.declared.state.Status.{Status}
use Rattle.stm_state.specs.declared.state.Status.TheVariants.{Ready, Executing, Executed, Aborting}
use Rattle.stm_state.specs.declared.state.CallState.{CallState}
use Rattle.stm_state.specs.declared.state.Task.{Task}
use Rattle.stm_state.specs.declared.state.Task.TheVariants.{Idle, Running, Moving, Validating, Marking}
use Rattle.stm_state.specs.State.{State, fresh, start_state, call_at, task_at, is_done, is_executed, is_ready, with_call, with_task}
use Rattle.stm_state.specs.Steps.{Step, Record, MoveKey, FinishExecution, MarkEstimate, counted, one_asking, one_execution, one_step, one_validation, next_incarnation, ask_validation, ask_execution, after_ask, answered_with, after_read_key, after_park, after_record, after_move_key, after_finish_execution, after_check_read, after_decide, after_mark_estimate, after_finish_abort, has_new_key, is_executed_at, keys_of, keys_to_move, next_stands, recorded_reads, recorded_run, resume_dependents, resume_if_parked, to_validate, version_of, write_of, written_by, worker_step}
use Rattle.stm_state.specs.Done.{Reached, started, stepped}
use Rattle.stm_state.proofs.Invariant.{Invariant, entry_by, named_by, owned_by, run_by, turned_by, view_of}
use Rattle.stm_state.proofs.Lists.{ChangesAt, replicated, stays_at, set_at}
use Rattle.stm_state.proofs.StepsByTask.{IsMade, by_ask, by_read, by_park, by_record, by_move, by_finish, by_check, by_decide, by_mark, by_abort, made}
use Rattle.stm_state.proofs.Checks.{executed_at_says}
use Rattle.stm_state.proofs.OneCallChanges.{unturned_run}
use Rattle.stm_state.proofs.Resumptions.{readied_cases}
use Rattle.stm_state.proofs.Tests.{is_ready_says, lt_is, lt_says, not_lt_is}
use Rattle.stm_state.proofs.InvariantKept.{invariant_kept}
use Rattle.never_stuck.proofs.RunReads.{ReadOutcome, answers_run, blocks_run, read_outcome}
use Rattle.always_ends.proofs.Sums.{sum_to, sum_pair, sum_pair_at, sum_part, sum_le, sum_same, sum_none, sum_times}
use Rattle.always_ends.proofs.Finished.{resumed, resumed_at, resumed_other}
use Rattle.always_ends.proofs.Measure.{Bounds}
use Rattle.always_ends.proofs.NewKeys.{if_new, new_keys, new_keys_few, new_keys_left, new_keys_other}
use Rattle.always_ends.proofs.UsedUp.{written_few, named_in, there, w_there}

-- ---- what is counted

-- a call below call `top` counts
abbrev pub below : ℕ → ℕ → ℕ → ℕ
below top j n = if nat_lt j top then n else 0

abbrev pub below_of : ℕ → ℕ → Option ℕ → ℕ
below_of top n None = 0
below_of top n (Some j) = below top j n

-- prices of steps: of a record, of each key that is moved if the call has no entry there, of the end of an execution, and of each
-- key that is marked
pub record Prices : Type 0 where
  pub of_record : ℕ
  pub of_key : ℕ
  pub of_end : ℕ
  pub of_mark : ℕ

-- the price of the move of a key
abbrev pub price_of_move : Prices → ℕ → Task → Versions → ℕ
price_of_move p top (Moving i (key ∷ keys) new) versions = below top i (p.of_key * if_new (entry_at versions key i))
price_of_move p top task versions = 0

-- the price of a step, if it is one of a call below call `top`
abbrev pub price : Prices → ℕ → Step → Task → Versions → ℕ
price p top Record task versions = below_of top p.of_record (named_by task)
price p top MoveKey task versions = price_of_move p top task versions
price p top FinishExecution task versions = below_of top p.of_end (named_by task)
price p top MarkEstimate task versions = below_of top p.of_mark (named_by task)
price p top step task versions = 0

-- the states that steps lead to, and the sum of the prices of the steps on the way
pub data ComesTo (b : Bounds) (p : Prices) (top : ℕ) : ℕ → State → Type 0 where
  unchanged : ComesTo b p top 0 (start_state b.block.count b.workers)
  one_more : {n : ℕ} {s t : State} (w : ℕ) (step : Step) → ComesTo b p top n s → w < b.workers → worker_step b.block w step s ≡ Some (Ok t) → ComesTo b p top (n + price p top step (task_at s w) s.versions) t

module _ (b : Bounds) (p : Prices) (top : ℕ) where
  -- what is kept with a run: its record, and the new keys that it moves; with a call that is EXECUTED, the marks of its keys;
  -- with one that is EXECUTING, also its end; and for an incarnation, all of that
  pub run : ℕ
  run = p.of_record + p.of_key * b.writes

  pub executed : ℕ
  executed = p.of_mark * b.writes

  pub most : ℕ
  most = executed + p.of_end + run

  pub run_is : run ≡ p.of_record + p.of_key * b.writes
  unfolding run
  run_is = refl

  pub executed_is : executed ≡ p.of_mark * b.writes
  unfolding executed
  executed_is = refl

  pub most_is : most ≡ executed + p.of_end + run
  unfolding most
  most_is = refl

  abbrev stage : Status → ℕ
  stage Ready = most
  stage Executing = executed + p.of_end
  stage Executed = executed
  stage Aborting = 0

  abbrev amount : Versions → Task → ℕ
  amount versions Idle = 0
  amount versions (Running i answers waits) = below top i run
  amount versions (Moving i keys new) = below top i (p.of_key * new_keys versions i keys)
  amount versions (Validating i n left failed) = 0
  amount versions (Marking i keys) = below top i (p.of_mark * length keys)

  abbrev left : State → ℕ
  left s = sum_to top (λ j. stage (call_at s j).status) + sum_to b.workers (λ x. amount s.versions (task_at s x))

  abbrev brought : State → ℕ
  brought s = sum_to top (λ j. most * (call_at s j).incarnation)

  abbrev Changes : ℕ → State → State → Type 0
  Changes x s t = left t + x + brought s ≤ left s + brought t

  below_yes : (j n : ℕ) → j < top → below top j n ≡ n
  below_yes j n less = cond-true (nat_lt j top) n 0 (lt_is j top less)

  below_no : (j n : ℕ) → top ≤ j → below top j n ≡ 0
  below_no j n more = cond-false (nat_lt j top) n 0 (not_lt_is j top more)

  below_none : (j : ℕ) → below top j 0 ≡ 0
  below_none j = elim (cases_lt j top) [ inl less ↦ below_yes j 0 less | inr more ↦ below_no j 0 more ]

  -- the amount of a task of another call stays if an entry of call i changes
  other_amount : (v : Versions) (key : List ℕ) (i : ℕ) (o : Option Entry) (task : Task) → owned_by task ≢ Some i → amount (changed v (key, i) o) task ≡ amount v task
  other_amount v key i o (Moving j keys new) ne = ap (λ n. below top j (p.of_key * n)) (new_keys_other v key i o j (λ e. ne (ap Some e)) keys)
  other_amount v key i o task ne = refl

  module _ (w : ℕ) (s : State) (inv : Invariant b.block b.workers s) (w_in : w < b.workers) where
    -- the amounts of the tasks of other workers stay
    abbrev OthersStill : Versions → Type 0
    OthersStill versions = (y : ℕ) → y ≢ w → amount versions (task_at s y) ≡ amount s.versions (task_at s y)

    -- they do if an entry of this worker's call changes
    others_still : (key : List ℕ) (i : ℕ) (o : Option Entry) → owned_by (task_at s w) ≡ Some i → OthersStill (changed s.versions (key, i) o)
    others_still key i o own y ne = other_amount s.versions key i o (task_at s y) (λ h. ne (inv.facts.alone y w i h own))

    -- ---- a change of call i and of the worker's task, which is of call i before and after, or of none

    module _ (i x old now : ℕ) (own : CallState) (task : Task) (t : State) (calls : ChangesAt (call_at s) (call_at t) i own) (tasks : ChangesAt (task_at s) (task_at t) w task) (still : OthersStill t.versions) where
      tasks_changed : sum_to b.workers (λ y. amount t.versions (task_at t y)) + amount s.versions (task_at s w) ≤ sum_to b.workers (λ y. amount s.versions (task_at s y)) + amount t.versions task
      tasks_changed =
          let zeros = sum_none b.workers in
          let all = sum_pair_at b.workers w (amount s.versions (task_at s w)) (amount t.versions task) (λ y. amount t.versions (task_at t y)) (λ y. 0) (λ y. amount s.versions (task_at s y)) (λ y. 0) w_in
          (λ y less ne. let same = ap (amount t.versions) (tasks.other y ne) ∙ still y ne in omega (arith, same)) (let same = ap (amount t.versions) tasks.there in omega (arith, same)) in
          omega (arith, zeros, all)

      calls_stay : top ≤ i → sum_to top (λ j. stage (call_at t j).status) + brought s ≤ sum_to top (λ j. stage (call_at s j).status) + brought t
      calls_stay above = sum_pair top (λ j. stage (call_at t j).status) (λ j. most * (call_at s j).incarnation) (λ j. stage (call_at s j).status) (λ j. most * (call_at t j).incarnation)
          (λ j less. subst (λ (c : CallState). stage c.status + most * (call_at s j).incarnation ≤ stage (call_at s j).status + most * c.incarnation) (sym (calls.other j (λ e. omega (arith, above, less, e)))) (omega arith))

      calls_changed : i < top → sum_to top (λ j. stage (call_at t j).status) + brought s + (stage (call_at s i).status + most * own.incarnation) ≤ sum_to top (λ j. stage (call_at s j).status) + brought t + (stage own.status + most * (call_at s i).incarnation)
      calls_changed low = sum_pair_at top i (stage (call_at s i).status + most * own.incarnation) (stage own.status + most * (call_at s i).incarnation)
          (λ j. stage (call_at t j).status) (λ j. most * (call_at s j).incarnation) (λ j. stage (call_at s j).status) (λ j. most * (call_at t j).incarnation) low
          (λ j less ne. subst (λ (c : CallState). stage c.status + most * (call_at s j).incarnation ≤ stage (call_at s j).status + most * c.incarnation) (sym (calls.other j ne)) (omega arith))
          (subst (λ (c : CallState). stage c.status + most * (call_at s i).incarnation + (stage (call_at s i).status + most * own.incarnation) ≤ stage (call_at s i).status + most * c.incarnation + (stage own.status + most * (call_at s i).incarnation)) (sym calls.there) (omega arith))

      pub change_at : amount s.versions (task_at s w) ≡ below top i old → amount t.versions task ≡ below top i now → stage own.status + most * (call_at s i).incarnation + now + x ≤ stage (call_at s i).status + most * own.incarnation + old → Changes (below top i x) s t
      change_at before after h = elim (cases_lt i top) [
        | inl low ↦
            let c = calls_changed low in let k = tasks_changed in
            let a = below_yes i old low in let d = below_yes i now low in let e = below_yes i x low in
            omega (arith, c, k, a, d, e, h, before, after)
        | inr above ↦
            let c = calls_stay above in let k = tasks_changed in
            let a = below_no i old above in let d = below_no i now above in let e = below_no i x above in
            omega (arith, c, k, a, d, e, before, after)
      ]

    -- no change of what others may have read
    module _ (i old now : ℕ) (own : CallState) (task : Task) (t : State) (calls : ChangesAt (call_at s) (call_at t) i own) (tasks : ChangesAt (task_at s) (task_at t) w task) (still : OthersStill t.versions) where
      pub silent_at : amount s.versions (task_at s w) ≡ below top i old → amount t.versions task ≡ below top i now → stage own.status + most * (call_at s i).incarnation + now ≤ stage (call_at s i).status + most * own.incarnation + old → Changes 0 s t
      silent_at before after h = subst (λ x. Changes x s t) (below_none i) (change_at i 0 old now own task t calls tasks still before after (omega (arith, h)))

    -- another task of the worker, which is of call i, or of none; and another call i beside it
    silent_task : (i old now : ℕ) (task : Task) → amount s.versions (task_at s w) ≡ below top i old → amount s.versions task ≡ below top i now → now ≤ old → Changes 0 s (with_task w task s)
    silent_task i old now task before after h = silent_at i old now (call_at s i) task (with_task w task s) (stays_at (call_at s) i) (set_at s.tasks w task Idle (w_there b w s inv w_in)) (λ y ne. refl) before after (omega (arith, h))

    silent_call : (i old now : ℕ) (own : CallState) (task : Task) → i < length s.calls → amount s.versions (task_at s w) ≡ below top i old → amount s.versions task ≡ below top i now → stage own.status + most * (call_at s i).incarnation + now ≤ stage (call_at s i).status + most * own.incarnation + old → Changes 0 s (with_task w task (with_call i own s))
    silent_call i old now own task i_in before after h = silent_at i old now own task (with_task w task (with_call i own s)) (set_at s.calls i own fresh i_in) (set_at s.tasks w task Idle (w_there b w s inv w_in)) (λ y ne. refl) before after h

    -- a key of call i is moved or marked
    key_task : (i x old now : ℕ) (task : Task) (key : List ℕ) (o : Option Entry) → owned_by (task_at s w) ≡ Some i → amount s.versions (task_at s w) ≡ below top i old → amount (changed s.versions (key, i) o) task ≡ below top i now → now + x ≤ old
        → Changes (below top i x) s (with_task w task (record s { versions = changed s.versions (key, i) o }))
    key_task i x old now task key o own before after h =
        change_at i x old now (call_at s i) task (with_task w task (record s { versions = changed s.versions (key, i) o })) (stays_at (call_at s) i) (set_at s.tasks w task Idle (w_there b w s inv w_in)) (others_still key i o own) before after (omega (arith, h))

    idle_amount : (i : ℕ) → amount s.versions Idle ≡ below top i 0
    idle_amount i = sym (below_none i)

    -- ---- the steps

    module _ (at : task_at s w ≡ Idle) where
      before_asking : (i : ℕ) → amount s.versions (task_at s w) ≡ below top i 0
      before_asking i = ap (amount s.versions) at ∙ idle_amount i

      validation_changes : Changes 0 s (counted one_asking w (ask_validation w s))
      unfolding ask_validation
      validation_changes = cond_both (is_executed (call_at s s.validation).status) _ _ (λ t. Changes 0 s (counted one_asking w t))
          (λ _. silent_task s.validation 0 0 (Validating s.validation (call_at s s.validation).incarnation (length (recorded_reads (call_at s s.validation).last)) false) (before_asking s.validation) (sym (below_none s.validation)) (omega arith))
          (λ _. omega arith)

      execution_changes : s.execution < length s.calls → Changes 0 s (counted one_asking w (ask_execution w s))
      unfolding ask_execution
      execution_changes i_in = cond_both (is_ready (call_at s s.execution).status) _ _ (λ t. Changes 0 s (counted one_asking w t))
          (λ h. let kept = ap stage (is_ready_says (call_at s s.execution).status h) in let m = most_is in
          silent_call s.execution 0 run (record (call_at s s.execution) { status = Executing }) (Running s.execution [] None) i_in (before_asking s.execution) refl (omega (arith, kept, m)))
          (λ _. omega arith)

      ask_changes : Changes 0 s (counted one_asking w (after_ask w s))
      ask_changes = cond_both (is_done s) _ _ (λ t. Changes 0 s (counted one_asking w t)) (λ _. omega arith)
          (λ _. cond_both (nat_lt s.validation s.execution) _ _ (λ t. Changes 0 s (counted one_asking w t)) (λ _. validation_changes)
          (λ _. cond_both (nat_lt s.execution (length s.calls)) _ _ (λ t. Changes 0 s (counted one_asking w t)) (λ l. execution_changes (lt_says s.execution (length s.calls) l)) (λ _. omega arith)))

    read_changes : (i : ℕ) (answers : List StorageAnswer) (key : List ℕ) → task_at s w ≡ Running i answers None → Changes 0 s (counted one_step w (after_read_key b.block.base key w i answers s))
    read_changes i answers key at = go (read_outcome b.block.base key i answers (reading s.versions key i))
      where
        goes : (task : Task) → amount s.versions task ≡ below top i run → Changes 0 s (counted one_step w (with_task w task s))
        goes task same = silent_task i run run task (ap (amount s.versions) at) same (omega arith)

        go : ReadOutcome b.block.base key i answers (reading s.versions key i) → Changes 0 s (counted one_step w (with_task w (answered_with b.block.base key i answers (reading s.versions key i)) s))
        go (answers_run answered) = goes _ (ap (amount s.versions) answered.task)
        go (blocks_run on seen waits) = goes _ (ap (amount s.versions) waits)

    park_changes : (i on : ℕ) (answers : List StorageAnswer) → task_at s w ≡ Running i answers (Some on) → Changes 0 s (counted one_step w (after_park w i on s))
    unfolding after_park
    park_changes i on answers at =
        let i_in = named_in b w s inv w_in (Running i answers (Some on)) i at refl in
        cond_both (is_executed (call_at s on).status) _ _ (λ t. Changes 0 s (counted one_step w t))
        (λ _. silent_task i run run (Running i [] None) (ap (amount s.versions) at) refl (omega arith))
        (λ _. silent_call i run 0 (record (call_at s i) { status = Aborting; parked = Some on }) Idle (there b w s inv w_in i i_in) (ap (amount s.versions) at) (idle_amount i) (omega arith))

    -- a call that this worker runs has estimates at the keys of its last run, and no other entry
    estimates_at : (i : ℕ) (answers : List StorageAnswer) → task_at s w ≡ Running i answers None → (key : List ℕ) → entry_at s.versions key i ≡ option_map (λ change. Estimate) (write_of (call_at s i).last key)
    estimates_at i answers at key =
        inv.facts.entries i key (unturned_run b.block (view_of s) inv.facts i w (ap owned_by at) (ap turned_by at))
        ∙ ap (λ status. entry_by (is_executed status) (call_at s i).incarnation (write_of (call_at s i).last key)) (inv.facts.running w i (ap run_by at))

    record_changes : (i : ℕ) (answers : List StorageAnswer) (receipt : Receipt) → task_at s w ≡ Running i answers None → b.block.borne_out i (replies_of answers) ≡ Some receipt → Changes (below top i p.of_record) s (counted one_execution w (after_record w i answers receipt s))
    record_changes i answers receipt at bears =
        let i_in = named_in b w s inv w_in (Running i answers None) i at refl in
        let few = new_keys_few s.versions i b.writes (call_at s i).last receipt.writes (estimates_at i answers at) (b.small i (replies_of answers) receipt bears).0 in
        let keys = mul-le-mul_left p.of_key few in
        let kept = run_is in
        let own : CallState = record (call_at s i) { last = Some (recorded_run answers receipt) } in
        let task : Task = Moving i (keys_to_move (call_at s i).last receipt.writes) (has_new_key (call_at s i).last receipt.writes) in
        change_at i p.of_record run (p.of_key * new_keys s.versions i (keys_to_move (call_at s i).last receipt.writes)) own task (with_task w task (with_call i own s)) (set_at s.calls i own fresh (there b w s inv w_in i i_in)) (set_at s.tasks w task Idle (w_there b w s inv w_in)) (λ y ne. refl) (ap (amount s.versions) at) refl (omega (arith, keys, kept))

    move_changes : (i : ℕ) (key : List ℕ) (keys : List (List ℕ)) (new : Bool) → task_at s w ≡ Moving i (key ∷ keys) new → Changes (below top i (p.of_key * if_new (entry_at s.versions key i))) s (counted one_step w (after_move_key w i key keys new s))
    move_changes i key keys new at =
        let other = (inv.facts.moving w i (key ∷ keys) new at).distinct.0 in
        let entry = version_of (call_at s i) key in
        key_task i (p.of_key * if_new (entry_at s.versions key i)) (p.of_key * (if_new (entry_at s.versions key i) + new_keys s.versions i keys)) (p.of_key * new_keys s.versions i keys) (Moving i keys new) key entry (ap owned_by at) (ap (amount s.versions) at)
        (ap (λ n. below top i (p.of_key * n)) (new_keys_left s.versions key i entry keys other)) (omega arith)

    mark_changes : (i : ℕ) (key : List ℕ) (keys : List (List ℕ)) → task_at s w ≡ Marking i (key ∷ keys) → Changes (below top i p.of_mark) s (counted one_step w (after_mark_estimate w i key keys s))
    mark_changes i key keys at = key_task i p.of_mark (p.of_mark * suc (length keys)) (p.of_mark * length keys) (Marking i keys) key (Some Estimate) (ap owned_by at) (ap (amount s.versions) at) refl (omega arith)

    -- a validation continues or ends
    checked_changes : (i n more : ℕ) (failed : Bool) (task : Task) (add : Counts → Counts) → task_at s w ≡ Validating i n more failed → amount s.versions task ≡ 0 → Changes 0 s (counted add w (with_task w task s))
    checked_changes i n more failed task add at none = silent_task i 0 0 task (ap (amount s.versions) at ∙ sym (below_none i)) (none ∙ sym (below_none i)) (omega arith)

    check_changes : (i n more : ℕ) → task_at s w ≡ Validating i n (suc more) false → Changes 0 s (counted one_step w (after_check_read w i n more s))
    unfolding after_check_read
    check_changes i n more at = cond_both (is_executed_at n (call_at s i)) _ _ (λ t. Changes 0 s (counted one_step w t))
        (λ _. cond_both (next_stands i (suc more) s) _ _ (λ t. Changes 0 s (counted one_step w t)) (λ _. checked_changes i n (suc more) false (Validating i n more false) one_step at refl) (λ _. checked_changes i n (suc more) false (Validating i n (suc more) true) one_step at refl))
        (λ _. checked_changes i n (suc more) false Idle one_step at refl)

    decide_changes : (i n more : ℕ) (failed : Bool) → task_at s w ≡ Validating i n more failed → Changes 0 s (counted one_validation w (after_decide w i n failed s))
    unfolding after_decide
    decide_changes i n more failed at =
        let i_in = named_in b w s inv w_in (Validating i n more failed) i at refl in
        cond_both (failed && is_executed_at n (call_at s i)) _ _ (λ t. Changes 0 s (counted one_validation w t))
        (λ both.
        let done = ap stage (executed_at_says n (call_at s i) (and_parts failed (is_executed_at n (call_at s i)) both).1).0 in
        let few = mul-le-mul_left p.of_mark (written_few b w s inv w_in i) in
        let kept = executed_is in
        silent_call i 0 (p.of_mark * length (keys_of (written_by (call_at s i).last))) (record (call_at s i) { status = Aborting }) (Marking i (keys_of (written_by (call_at s i).last))) (there b w s inv w_in i i_in) (ap (amount s.versions) at ∙ sym (below_none i)) refl (omega (arith, done, few, kept)))
        (λ _. checked_changes i n more failed Idle one_validation at refl)

    abort_changes : (i : ℕ) → task_at s w ≡ Marking i [] → Changes 0 s (counted one_step w (after_finish_abort w i s))
    unfolding after_finish_abort
    abort_changes i at =
        let i_in = named_in b w s inv w_in (Marking i []) i at refl in
        let aborts = ap stage (inv.facts.marking w i [] at).aborting in
        let m = most_is in
        let none : p.of_mark * 0 ≡ 0 = omega arith in
        let before : amount s.versions (task_at s w) ≡ below top i 0 = ap (amount s.versions) at ∙ ap (below top i) none in
        cond_both (nat_lt i s.execution) _ _ (λ t. Changes 0 s (counted one_step w t))
        (λ _. silent_call i 0 run (record (next_incarnation (call_at s i)) { status = Executing }) (Running i [] None) (there b w s inv w_in i i_in) before refl (omega (arith, aborts, m)))
        (λ _. silent_call i 0 0 (next_incarnation (call_at s i)) Idle (there b w s inv w_in i i_in) before (idle_amount i) (omega (arith, aborts, m)))

    -- ---- the end of an execution

    module _ (i : ℕ) (new : Bool) (at : task_at s w ≡ Moving i [] new) where
      i_in : i < b.block.count
      i_in = named_in b w s inv w_in (Moving i [] new) i at refl

      readied_changes : (c : CallState) → stage (resume_if_parked i c).status + most * c.incarnation ≤ stage c.status + most * (resume_if_parked i c).incarnation
      readied_changes c = elim (readied_cases i c) [
        | inl same ↦ subst (λ (d : CallState). stage d.status + most * c.incarnation ≤ stage c.status + most * d.incarnation) (sym same) (omega arith)
        | inr q ↦ subst (λ (d : CallState). stage d.status + most * c.incarnation ≤ stage c.status + most * d.incarnation) (sym q.1) (omega arith)
      ]

      was : stage (call_at s i).status ≡ executed + p.of_end
      was = ap stage (inv.facts.running w i (ap run_by at))

      module _ (task : Task) (none : amount s.versions task ≡ 0) where
        -- the state afterwards, except for the indices
        abbrev t : State
        t = with_task w task (record s { calls = resumed s i })

        other_now : (j : ℕ) → j ≢ i → stage (call_at t j).status + most * (call_at s j).incarnation ≤ stage (call_at s j).status + most * (call_at t j).incarnation
        other_now j ne = subst (λ (c : CallState). stage c.status + most * (call_at s j).incarnation ≤ stage (call_at s j).status + most * c.incarnation) (sym (resumed_other s i j ne)) (readied_changes (call_at s j))

        finished_calls : sum_to top (λ j. stage (call_at t j).status) + brought s + below top i p.of_end ≤ sum_to top (λ j. stage (call_at s j).status) + brought t
        finished_calls = elim (cases_lt i top) [
          | inl low ↦
              let yes = below_yes i p.of_end low in
              let all = sum_pair_at top i p.of_end 0 (λ j. stage (call_at t j).status) (λ j. most * (call_at s j).incarnation) (λ j. stage (call_at s j).status) (λ j. most * (call_at t j).incarnation) low
              (λ j less ne. other_now j ne)
              (let before = was in subst (λ (c : CallState). stage c.status + most * (call_at s i).incarnation + p.of_end ≤ stage (call_at s i).status + most * c.incarnation + 0) (sym (resumed_at s i (there b w s inv w_in i i_in))) (omega (arith, before))) in
              omega (arith, yes, all)
          | inr above ↦
              let no = below_no i p.of_end above in
              let all = sum_pair top (λ j. stage (call_at t j).status) (λ j. most * (call_at s j).incarnation) (λ j. stage (call_at s j).status) (λ j. most * (call_at t j).incarnation) (λ j less. other_now j (λ e. omega (arith, above, less, e))) in
              omega (arith, no, all)
        ]

        finished_tasks : sum_to b.workers (λ y. amount s.versions (task_at t y)) ≤ sum_to b.workers (λ y. amount s.versions (task_at s y))
        finished_tasks =
            let zeros = sum_none b.workers in
            let all = sum_pair b.workers (λ y. amount s.versions (task_at t y)) (λ y. 0) (λ y. amount s.versions (task_at s y)) (λ y. 0)
            (λ y less. elim (cases_eq y w) [
              | inl e ↦ let now : task_at t y ≡ task = ap (λ x. get_or (set s.tasks w task) x Idle) e ∙ get_or-set_same s.tasks w task Idle (w_there b w s inv w_in) in let zero_now = ap (amount s.versions) now ∙ none in omega (arith, zero_now)
              | inr ne ↦ let same = ap (amount s.versions) (get_or-set_other s.tasks w y task Idle ne) in omega (arith, same)
            ]) in
            omega (arith, zeros, all)

        finished_changes : Changes (below top i p.of_end) s t
        finished_changes = let c = finished_calls in let k = finished_tasks in omega (arith, c, k)

      finish_changes : Changes (below top i p.of_end) s (counted one_step w (after_finish_execution w i new s))
      unfolding to_validate resume_dependents
      finish_changes = cond_both (nat_lt i s.validation) _ _ (λ t. Changes (below top i p.of_end) s (counted one_step w t))
          (λ _. cond_both new _ _ (λ t. Changes (below top i p.of_end) s (counted one_step w t))
          (λ _. finished_changes Idle refl) (λ _. finished_changes (Validating i (call_at s i).incarnation (length (recorded_reads (call_at s i).last)) false) refl))
          (λ _. finished_changes Idle refl)

    -- ---- each step

    pub made_changes : (step : Step) (t : State) → IsMade b.block w s step t → Changes (price p top step (task_at s w) s.versions) s t
    made_changes step t (by_ask at) = ask_changes at
    made_changes step t (by_read i answers key at) = read_changes i answers key at
    made_changes step t (by_park i on answers at below) = park_changes i on answers at
    made_changes step t (by_record i answers receipt at bears low) = subst (λ x. Changes x s t) (sym (ap (λ task. price p top Record task s.versions) at)) (record_changes i answers receipt at bears)
    made_changes step t (by_move i key keys new at) = subst (λ x. Changes x s t) (sym (ap (λ task. price p top MoveKey task s.versions) at)) (move_changes i key keys new at)
    made_changes step t (by_finish i new at) = subst (λ x. Changes x s t) (sym (ap (λ task. price p top FinishExecution task s.versions) at)) (finish_changes i new at)
    made_changes step t (by_check i n more at) = check_changes i n more at
    made_changes step t (by_decide i n more failed at last) = decide_changes i n more failed at
    made_changes step t (by_mark i key keys at) = subst (λ x. Changes x s t) (sym (ap (λ task. price p top MarkEstimate task s.versions) at)) (mark_changes i key keys at)
    made_changes step t (by_abort i at) = abort_changes i at

  -- ---- lists of steps

  pub comes_reached : (n : ℕ) (s : State) → ComesTo b p top n s → Reached b.block b.workers s
  comes_reached n s unchanged = started
  comes_reached n t (one_more {s = s} w step before w_in k) = stepped w step (comes_reached _ s before) w_in k

  -- at the start
  start_changes : left (start_state b.block.count b.workers) ≤ top * most
  start_changes =
      let first = start_state b.block.count b.workers in
      let calls = sum_le top (λ j. stage (call_at first j).status) (λ j. most) (λ j less. let e = ap (λ (c : CallState). stage c.status) (replicated b.block.count j fresh) in omega (arith, e)) in
      let all = sum_same top most in
      let tasks = sum_le b.workers (λ x. amount first.versions (task_at first x)) (λ x. 0) (λ x less. let e = ap (amount first.versions) (replicated b.workers x Idle) in omega (arith, e)) in
      let none = sum_same b.workers 0 in
      omega (arith, calls, all, tasks, none)

  comes_left : (n : ℕ) (s : State) → ComesTo b p top n s → n + left s ≤ top * most + brought s
  comes_left n s unchanged = let first = start_changes in omega (arith, first)
  comes_left n t (one_more {n = before_n} {s = s} w step before w_in k) =
      let inv = invariant_kept b.block b.workers s (comes_reached before_n s before) in
      let more = made_changes w s inv w_in step t (made b.block w s t step k) in
      let rest = comes_left before_n s before in omega (arith, more, rest)

  -- so it is at most `most` for each incarnation, and less if something is left
  pub comes_few_with : (n : ℕ) (s : State) → ComesTo b p top n s → (x : ℕ) → x ≤ left s → n + x ≤ most * sum_to top (λ j. (call_at s j).incarnation + 1)
  comes_few_with n s h x more =
      let all = comes_left n s h in
      let times = sum_times top most (λ j. (call_at s j).incarnation) in
      let split = sum_pair top (λ j. (call_at s j).incarnation) (λ j. 1) (λ j. (call_at s j).incarnation + 1) (λ j. 0) (λ j less. omega arith) in
      let zeros = ap (λ k. most * k) (sum_none top) in
      let ones = ap (λ k. most * k) (sum_same top 1) in
      let grown = mul-le-mul_left most split in
      omega (arith, all, times, zeros, ones, grown, more)

  pub comes_few : (n : ℕ) (s : State) → ComesTo b p top n s → n ≤ most * sum_to top (λ j. (call_at s j).incarnation + 1)
  comes_few n s h = let all = comes_few_with n s h 0 (omega arith) in omega (arith, all)

  -- a run of a call below call `top` is left
  run_left : (s : State) (w i : ℕ) (answers : List StorageAnswer) (waits : Option ℕ) → w < b.workers → i < top → task_at s w ≡ Running i answers waits → run ≤ left s
  run_left s w i answers waits w_in low at =
      let part = sum_part b.workers w (λ x. amount s.versions (task_at s x)) w_in in
      let own = ap (amount s.versions) at in
      let yes = below_yes i run low in
      omega (arith, part, own, yes)

  pub comes_few_in_run : (n : ℕ) (s : State) → ComesTo b p top n s → (w i : ℕ) (answers : List StorageAnswer) (waits : Option ℕ) → w < b.workers → i < top → task_at s w ≡ Running i answers waits → n + run ≤ most * sum_to top (λ j. (call_at s j).incarnation + 1)
  comes_few_in_run n s h w i answers waits w_in low at = comes_few_with n s h run (run_left s w i answers waits w_in low at)
