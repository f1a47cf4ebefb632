-- A call is taken back or parked no more often than lower calls change what it may have read, or end what it may wait for.
use Rattle.std.proofs.Common.{◌≡◌, ◌≢◌, ◌<◌, ◌≤◌, ◌⊎◌, ◌+◌, ◌-◌, ◌*◌, ◌&&◌, ◌||◌, ◌++◌, min, nat_lt, ℕ, suc, Bool, true, false, List, [], ◌∷◌, length, map, set, get_or, Option, None, Some, arith, refl, sym, ap, subst, ◌∙◌, inl, inr}
use Rattle.std.specs.Cmp.{tied_itself}
use Rattle.std.specs.Cmp.Derive.{both_true}
use Rattle.std.specs.Cmp.Lexicographic.{nat_list_cmp_total}
use Rattle.std.specs.List.{list_all}
use Rattle.std.specs.Ordering.{is_eq}
use Rattle.std.specs.declared.cmp.Ordering.TheVariants.{Equal}
use Rattle.std.proofs.lemmas.Bool.{and_parts, cases_eq, cases_lt, cond_both, cond-true}
use Rattle.std.proofs.lemmas.List.{get_or-set_same, get_or-set_other}
use Rattle.rv_ledger.specs.declared.outcome.Counts.{Counts}
use Rattle.rv_ledger.specs.Key.{key_cmp}
use Rattle.rv_ledger.specs.declared.receipt.Receipt.{Receipt}
use Rattle.rv_step.specs.declared.answer.StorageAnswer.{StorageAnswer}
use Rattle.read_set.specs.declared.Read.{Read}
use Rattle.mvmap.specs.Versions.{Entry, Estimate, Place, Versions, changed, entry_at}
use Rattle.mvmap.specs.Reading.{is_origin, reading, stands}
use Rattle.mvmap.proofs.Places.{get_other}
use Rattle.mvmap.proofs.Readings.{seen_same}
use Rattle.stm_state.specs.declared.state.Status.TheVariants.{Ready, Executing, Executed, Aborting}
use Rattle.stm_state.specs.declared.state.CallState.{CallState}
use Rattle.stm_state.specs.declared.state.Task.{Task}
use Rattle.stm_state.specs.declared.state.Task.TheVariants.{Idle, Running, Moving, Validating, Marking}
use Rattle.stm_state.specs.State.{State, fresh, start_state, call_at, task_at, with_call, with_task, is_done, is_executed, is_ready}
use Rattle.stm_state.specs.Steps.{Block, Step, MoveKey, FinishExecution, MarkEstimate, counted, one_asking, one_execution, one_step, one_validation, next_incarnation, ask_validation, ask_execution, after_ask, answered_with, after_read_key, after_park, after_record, after_move_key, after_finish_execution, after_check_read, after_decide, after_finish_abort, has_new_key, is_executed_at, is_parked_on, keys_of, keys_to_move, next_stands, read_of, recorded_reads, recorded_run, resume_dependents, to_validate, version_of, written_by}
use Rattle.stm_state.specs.Done.{started}
use Rattle.stm_state.specs.Parts.{has_key}
use Rattle.stm_state.proofs.Invariant.{view_of, Invariant, IsMoved, IsUnmovedEntry, named_by, owned_by, run_by}
use Rattle.stm_state.proofs.Lists.{ChangesAt, all_same, each_at, replicated, stays_at, set_at}
use Rattle.stm_state.proofs.StepsByTask.{IsMade, by_ask, by_read, by_park, by_record, by_move, by_finish, by_check, by_decide, by_mark, by_abort, made}
use Rattle.stm_state.proofs.Checks.{executed_at_says}
use Rattle.stm_state.proofs.OneCallChanges.{marked_owned, owned_status, unowned}
use Rattle.stm_state.proofs.Resumptions.{parked_aborting, parked_names, readied_cases}
use Rattle.stm_state.proofs.Rounds.{each_stands}
use Rattle.stm_state.proofs.SafeReads.{on_estimates}
use Rattle.stm_state.proofs.Tests.{lt_is, lt_says}
use Rattle.stm_state.proofs.InvariantKept.{invariant_kept, worker_kept}
use Rattle.stm_state.proofs.Writes.{changed_other}
use Rattle.never_stuck.proofs.RunReads.{AllStand, ReadOutcome, answers_run, blocks_run, answered_stand, read_outcome}
use Rattle.always_ends.proofs.Finished.{ended, resumed, resumed_at, resumed_other}
use Rattle.always_ends.proofs.Measure.{Bounds}
use Rattle.always_ends.proofs.NewKeys.{if_new}
use Rattle.always_ends.proofs.UsedUp.{named_in, there, w_there}
use Rattle.always_ends.proofs.Prices.{unchanged, one_more, below, comes_reached}
use Rattle.always_ends.proofs.Changes.{of_changes, ChangesTo, changes}

-- if lower calls keep their entries, reads of call i stand as before
stand_below : (before after : Versions) (i : ℕ) → ((key : List ℕ) (j : ℕ) → j < i → entry_at after key j ≡ entry_at before key j) → (reads : List Read) → AllStand before i reads → AllStand after i reads
stand_below before after i same reads stand =
    all_same (stands after i) (stands before i) (λ read. ap (is_origin read.origin) (seen_same (entry_at after read.key) (entry_at before read.key) i (λ j less. same read.key j less))) reads ∙ stand

-- and if entries change only at estimates: no read that stands has passed one
stand_over : (s t : State) (i : ℕ) → ((key : List ℕ) (j : ℕ) → (entry_at t.versions key j ≡ entry_at s.versions key j) ⊎ (entry_at s.versions key j ≡ Some Estimate)) → (reads : List Read) → AllStand s.versions i reads → AllStand t.versions i reads
stand_over s t i same [] stand = refl
stand_over s t i same (read ∷ reads) stand =
    let both = and_parts (stands s.versions i read) (list_all (stands s.versions i) reads) stand in
    both_true (on_estimates (view_of s) (view_of t) i same read both.0) (stand_over s t i same reads both.1)

-- the reads of call i that stand before stand afterwards
abbrev pub StandOn : Versions → Versions → ℕ → Type 0
StandOn before after i = (reads : List Read) → AllStand before i reads → AllStand after i reads

-- what holds of a task if no read of call i that is at hand fails: the answers of a run stand, the reads of a run whose keys are
-- moved stand, no check of the call failed at its incarnation, and nobody takes it back
abbrev pub IsCleanTask : ℕ → CallState → Versions → Task → Type 0
IsCleanTask i call versions Idle = Unit {0}
IsCleanTask i call versions (Running j answers waits) = j ≡ i → AllStand versions i (map read_of answers)
IsCleanTask i call versions (Moving j keys new) = j ≡ i → AllStand versions i (recorded_reads call.last)
IsCleanTask i call versions (Validating j n more true) = j ≡ i → n ≢ call.incarnation
IsCleanTask i call versions (Validating j n more false) = Unit {0}
IsCleanTask i call versions (Marking j keys) = j ≢ i

-- no read of call i that is at hand fails
pub record IsClean (i : ℕ) (s : State) : Type 0 where
  pub executed : (call_at s i).status ≡ Executed → AllStand s.versions i (recorded_reads (call_at s i).last)
  pub tasks : (x : ℕ) → IsCleanTask i (call_at s i) s.versions (task_at s x)

-- a clean task stays clean if the call's incarnation and recorded reads stay, and reads that stand still stand
task_still : (i : ℕ) (c d : CallState) (before after : Versions) → d.incarnation ≡ c.incarnation → StandOn before after i → (task : Task) → ((keys : List (List ℕ)) (new : Bool) → task ≡ Moving i keys new → recorded_reads d.last ≡ recorded_reads c.last)
    → IsCleanTask i c before task → IsCleanTask i d after task
task_still i c d before after same on Idle last h = tt
task_still i c d before after same on (Running j answers waits) last h = λ e. on (map read_of answers) (h e)
task_still i c d before after same on (Moving j keys new) last h = λ e.
    on (recorded_reads d.last) (subst (λ reads. AllStand before i reads) (sym (last keys new (ap (λ k. Moving k keys new) e))) (h e))
task_still i c d before after same on (Validating j n more true) last h = λ e at. h e (at ∙ same)
task_still i c d before after same on (Validating j n more false) last h = tt
task_still i c d before after same on (Marking j keys) last h = h

-- ---- a call that is READY, or whose run begins, is clean

module _ (block : Block) (workers : ℕ) (t : State) (inv : Invariant block workers t) (i : ℕ) where
  -- a task of a call that is neither EXECUTED nor ABORTING, if it is no run with answers and moves no keys
  begun_task : (call_at t i).status ≢ Executed → (call_at t i).status ≢ Aborting → (x : ℕ) (task : Task) → task_at t x ≡ task → (owned_by task ≡ Some i → task ≡ Running i [] None) → IsCleanTask i (call_at t i) t.versions task
  begun_task not_done not_back x Idle at own = tt
  begun_task not_done not_back x (Running j answers waits) at own = λ e.
      let begins = own (ap Some e) in
      let none : answers ≡ [] = cc in subst (λ xs. AllStand t.versions i (map read_of xs)) (sym none) refl
  begun_task not_done not_back x (Moving j keys new) at own = λ e. let begins = own (ap Some e) in cc
  begun_task not_done not_back x (Validating j n more true) at own = λ e same.
      let here : task_at t x ≡ Validating i (call_at t i).incarnation more true = at ∙ ap (λ k. Validating k n more true) e ∙ ap (λ k. Validating i k more true) same in
      elim (inv.facts.current x i more true here) [ inl q ↦ not_done q.0 | inr q ↦ not_back q.0 ]
  begun_task not_done not_back x (Validating j n more false) at own = tt
  begun_task not_done not_back x (Marking j keys) at own = λ e. let begins = own (ap Some e) in cc

  begun_clean : (call_at t i).status ≢ Executed → (call_at t i).status ≢ Aborting → ((x : ℕ) → owned_by (task_at t x) ≡ Some i → task_at t x ≡ Running i [] None) → IsClean i t
  begun_clean not_done not_back own = record {
    executed = λ h. absurd (not_done h);
    tasks = λ x. begun_task not_done not_back x (task_at t x) refl (own x);
  }

  pub ready_clean : (call_at t i).status ≡ Ready → IsClean i t
  ready_clean ready = begun_clean (λ h. cc) (λ h. cc) (λ x h. absurd (unowned block (view_of t) inv.facts i (λ k. cc) (λ k. cc) x h))

  pub running_clean : (w : ℕ) → task_at t w ≡ Running i [] None → IsClean i t
  running_clean w at =
      let runs = inv.facts.running w i (ap run_by at) in
      begun_clean (λ h. cc) (λ h. cc) (λ x h. let one = inv.facts.alone x w i h (ap owned_by at) in ap (task_at t) one ∙ at)

-- ---- what a step does to the incarnation

module _ (i w : ℕ) (s : State) (step : Step) (t : State) where
  pub data Rises : Type 0 where
    stays : (call_at t i).incarnation ≡ (call_at s i).incarnation → Rises
    readied : (call_at t i).incarnation ≡ (call_at s i).incarnation + 1 → changes i step (task_at s w) s.versions ≡ 1 → IsClean i t → Rises
    aborted : (call_at t i).incarnation ≡ (call_at s i).incarnation + 1 → IsClean i t → Rises

module _ (b : Bounds) (i w : ℕ) (s : State) (inv : Invariant b.block b.workers s) (w_in : w < b.workers) where
  -- a call stays if another one changes
  other_stays : (j : ℕ) (own : CallState) (t : State) → ChangesAt (call_at s) (call_at t) j own → own.incarnation ≡ (call_at s j).incarnation → (call_at t i).incarnation ≡ (call_at s i).incarnation
  other_stays j own t calls same = each_at (call_at s) (call_at t) j own calls i (λ c. c.incarnation ≡ (call_at s i).incarnation) (λ e. same ∙ ap (λ x. (call_at s x).incarnation) (sym e)) (λ ne. refl)

  set_stays : (j : ℕ) (own : CallState) → j < length s.calls → own.incarnation ≡ (call_at s j).incarnation → (get_or (set s.calls j own) i fresh).incarnation ≡ (call_at s i).incarnation
  set_stays j own j_in same = other_stays j own (record s { calls = set s.calls j own }) (set_at s.calls j own fresh j_in) same

  -- a call is parked on a lower one
  parked_lower : (j : ℕ) → is_parked_on j (call_at s i) ≡ true → j < i
  parked_lower j on = elim (inv.facts.aborting i (parked_aborting j (call_at s i) on)) [
    | inl wait ↦ let same : Some wait.on ≡ Some j = sym wait.parked ∙ parked_names j (call_at s i) on in let one : wait.on ≡ j = cc in let low = wait.lower in omega (arith, low, one)
    | inr marks ↦ elim (owned_status b.block (view_of s) inv.facts marks.0 i (task_at s marks.0) refl (marked_owned (task_at s marks.0) i marks.1)) [
      | inl runs ↦ let back = parked_aborting j (call_at s i) on in cc
      | inr none ↦ let is = none.1 in let names = parked_names j (call_at s i) on in cc
    ]
  ]

  -- call i after call j is EXECUTED: it is as before, except for its status if it is call j; or it was parked on call j
  data AfterEnd (j : ℕ) (call : CallState) : Type 0 where
    is_ended : i ≡ j → call ≡ ended s i → AfterEnd j call
    is_same : i ≢ j → call ≡ call_at s i → AfterEnd j call
    is_readied : j < i → call ≡ next_incarnation (call_at s i) → AfterEnd j call

  after_end : (j : ℕ) → j < length s.calls → AfterEnd j (get_or (resumed s j) i fresh)
  after_end j j_in = elim (cases_eq i j) [
    | inl e ↦ is_ended e (ap (λ x. get_or (resumed s j) x fresh) e ∙ resumed_at s j j_in ∙ ap (ended s) (sym e))
    | inr ne ↦ elim (readied_cases j (call_at s i)) [
      | inl same ↦ is_same ne (resumed_other s j i ne ∙ same)
      | inr q ↦ is_readied (parked_lower j q.0) (resumed_other s j i ne ∙ q.1)
    ]
  ]

  -- ---- what a step does to the incarnation of call i

  validation_rises : (step : Step) → Rises i w s step (counted one_asking w (ask_validation w s))
  unfolding ask_validation
  validation_rises step = cond_both (is_executed (call_at s s.validation).status) _ _ (λ t. Rises i w s step (counted one_asking w t)) (λ _. stays refl) (λ _. stays refl)

  execution_rises : (step : Step) → s.execution < length s.calls → Rises i w s step (counted one_asking w (ask_execution w s))
  unfolding ask_execution
  execution_rises step j_in = cond_both (is_ready (call_at s s.execution).status) _ _ (λ t. Rises i w s step (counted one_asking w t))
      (λ _. stays (set_stays s.execution (record (call_at s s.execution) { status = Executing }) j_in refl)) (λ _. stays refl)

  ask_rises : (step : Step) → Rises i w s step (counted one_asking w (after_ask w s))
  ask_rises step = cond_both (is_done s) _ _ (λ t. Rises i w s step (counted one_asking w t)) (λ _. stays refl)
      (λ _. cond_both (nat_lt s.validation s.execution) _ _ (λ t. Rises i w s step (counted one_asking w t)) (λ _. validation_rises step)
      (λ _. cond_both (nat_lt s.execution (length s.calls)) _ _ (λ t. Rises i w s step (counted one_asking w t)) (λ l. execution_rises step (lt_says s.execution (length s.calls) l)) (λ _. stays refl)))

  park_rises : (j on : ℕ) (step : Step) → j < length s.calls → Rises i w s step (counted one_step w (after_park w j on s))
  unfolding after_park
  park_rises j on step j_in = cond_both (is_executed (call_at s on).status) _ _ (λ t. Rises i w s step (counted one_step w t)) (λ _. stays refl)
      (λ _. stays (set_stays j (record (call_at s j) { status = Aborting; parked = Some on }) j_in refl))

  check_rises : (j n more : ℕ) (step : Step) → Rises i w s step (counted one_step w (after_check_read w j n more s))
  unfolding after_check_read
  check_rises j n more step = cond_both (is_executed_at n (call_at s j)) _ _ (λ t. Rises i w s step (counted one_step w t))
      (λ _. cond_both (next_stands j (suc more) s) _ _ (λ t. Rises i w s step (counted one_step w t)) (λ _. stays refl) (λ _. stays refl)) (λ _. stays refl)

  decide_rises : (j n : ℕ) (failed : Bool) (step : Step) → j < length s.calls → Rises i w s step (counted one_validation w (after_decide w j n failed s))
  unfolding after_decide
  decide_rises j n failed step j_in = cond_both (failed && is_executed_at n (call_at s j)) _ _ (λ t. Rises i w s step (counted one_validation w t))
      (λ _. stays (set_stays j (record (call_at s j) { status = Aborting }) j_in refl)) (λ _. stays refl)

  finish_rises : (j : ℕ) (new : Bool) (t : State) → task_at s w ≡ Moving j [] new → j < length s.calls → Invariant b.block b.workers t → call_at t i ≡ get_or (resumed s j) i fresh → Rises i w s FinishExecution t
  finish_rises j new t at j_in inv_t is = go (after_end j j_in)
    where
      go : AfterEnd j (get_or (resumed s j) i fresh) → Rises i w s FinishExecution t
      go (is_ended e same) = stays (ap (λ (c : CallState). c.incarnation) (is ∙ same))
      go (is_same ne same) = stays (ap (λ (c : CallState). c.incarnation) (is ∙ same))
      go (is_readied low same) =
          readied (ap (λ (c : CallState). c.incarnation) (is ∙ same))
          (ap (λ task. changes i FinishExecution task s.versions) at ∙ cond-true (nat_lt j i) 1 0 (lt_is j i low))
          (ready_clean b.block b.workers t inv_t i (ap (λ (c : CallState). c.status) (is ∙ same)))

  ended_rises : (j : ℕ) (new : Bool) → task_at s w ≡ Moving j [] new → j < length s.calls → Invariant b.block b.workers (counted one_step w (after_finish_execution w j new s)) → Rises i w s FinishExecution (counted one_step w (after_finish_execution w j new s))
  unfolding to_validate resume_dependents
  ended_rises j new at j_in = cond_both (nat_lt j s.validation) _ _ (λ t. Invariant b.block b.workers (counted one_step w t) → Rises i w s FinishExecution (counted one_step w t))
      (λ _. cond_both new _ _ (λ t. Invariant b.block b.workers (counted one_step w t) → Rises i w s FinishExecution (counted one_step w t))
      (λ _ inv_t. finish_rises j new _ at j_in inv_t refl) (λ _ inv_t. finish_rises j new _ at j_in inv_t refl))
      (λ _ inv_t. finish_rises j new _ at j_in inv_t refl)

  -- the end of an abort
  back_rises : (j : ℕ) (own : CallState) (t : State) (step : Step) → ChangesAt (call_at s) (call_at t) j own → own.incarnation ≡ (call_at s j).incarnation + 1 → (i ≡ j → IsClean i t) → Rises i w s step t
  back_rises j own t step calls up clean = elim (cases_eq i j) [
    | inl e ↦ aborted (ap (λ x. (call_at t x).incarnation) e ∙ ap (λ (c : CallState). c.incarnation) calls.there ∙ up ∙ ap (λ x. (call_at s x).incarnation + 1) (sym e)) (clean e)
    | inr ne ↦ stays (ap (λ (c : CallState). c.incarnation) (calls.other i ne))
  ]

  abort_rises : (j : ℕ) (step : Step) → j < length s.calls → Invariant b.block b.workers (counted one_step w (after_finish_abort w j s)) → Rises i w s step (counted one_step w (after_finish_abort w j s))
  unfolding after_finish_abort
  abort_rises j step j_in = cond_both (nat_lt j s.execution) _ _ (λ t. Invariant b.block b.workers (counted one_step w t) → Rises i w s step (counted one_step w t))
      (λ _ inv_t.
      let calls = set_at s.calls j (record (next_incarnation (call_at s j)) { status = Executing }) fresh j_in in
      back_rises j _ _ step calls refl (λ e. running_clean b.block b.workers _ inv_t i w (get_or-set_same s.tasks w (Running j [] None) Idle (w_there b w s inv w_in) ∙ ap (λ x. Running x [] None) (sym e))))
      (λ _ inv_t.
      let calls = set_at s.calls j (next_incarnation (call_at s j)) fresh j_in in
      back_rises j _ _ step calls refl (λ e. ready_clean b.block b.workers _ inv_t i (ap (λ x. (get_or (set s.calls j (next_incarnation (call_at s j))) x fresh).status) e ∙ ap (λ (c : CallState). c.status) calls.there)))

  -- each step
  in_calls : (task : Task) (j : ℕ) → task_at s w ≡ task → named_by task ≡ Some j → j < length s.calls
  in_calls task j at names = there b w s inv w_in j (named_in b w s inv w_in task j at names)

  made_rises : (step : Step) (t : State) → IsMade b.block w s step t → Invariant b.block b.workers t → Rises i w s step t
  made_rises step t (by_ask at) inv_t = ask_rises step
  made_rises step t (by_park j on answers at low) inv_t = park_rises j on step (in_calls (Running j answers (Some on)) j at refl)
  made_rises step t (by_record j answers receipt at bears low) inv_t = stays (set_stays j (record (call_at s j) { last = Some (recorded_run answers receipt) }) (in_calls (Running j answers None) j at refl) refl)
  made_rises step t (by_finish j new at) inv_t = ended_rises j new at (in_calls (Moving j [] new) j at refl) inv_t
  made_rises step t (by_check j n more at) inv_t = check_rises j n more step
  made_rises step t (by_decide j n more failed at last) inv_t = decide_rises j n failed step (in_calls (Validating j n more failed) j at refl)
  made_rises step t (by_abort j at) inv_t = abort_rises j step (in_calls (Marking j []) j at refl) inv_t
  made_rises step t did inv_t = stays refl

  -- ---- what a step does if no read of call i fails

  module _ (clean : IsClean i s) where
    clean_on : (task : Task) (t : State) → ChangesAt (task_at s) (task_at t) w task → StandOn s.versions t.versions i → (call_at t i).incarnation ≡ (call_at s i).incarnation
        → ((x : ℕ) → x ≢ w → (keys : List (List ℕ)) (new : Bool) → task_at s x ≡ Moving i keys new → recorded_reads (call_at t i).last ≡ recorded_reads (call_at s i).last) → ((call_at t i).status ≡ Executed → AllStand s.versions i (recorded_reads (call_at t i).last))
        → IsCleanTask i (call_at t i) t.versions task → IsClean i t
    clean_on task t tasks on same last executed own = record {
      executed = λ h. on (recorded_reads (call_at t i).last) (executed h);
      tasks = λ x. each_at (task_at s) (task_at t) w task tasks x (λ k. IsCleanTask i (call_at t i) t.versions k) (λ e. own)
          (λ ne. task_still i (call_at s i) (call_at t i) s.versions t.versions same on (task_at s x) (last x ne) (clean.tasks x));
    }

    -- no change of what call i may have read, or call i stays clean at its incarnation
    abbrev Keeps : Step → State → Type 0
    Keeps step t = (changes i step (task_at s w) s.versions ≡ 1) ⊎ (IsClean i t × ((call_at t i).incarnation ≡ (call_at s i).incarnation))

    -- the worker's task and the status of a call change
    keeps_call : (j : ℕ) (own : CallState) (task : Task) (t : State) (step : Step) → ChangesAt (call_at s) (call_at t) j own → ChangesAt (task_at s) (task_at t) w task → StandOn s.versions t.versions i
        → own.incarnation ≡ (call_at s j).incarnation → recorded_reads own.last ≡ recorded_reads (call_at s j).last → (own.status ≡ Executed → (call_at s j).status ≡ Executed) → IsCleanTask i (call_at t i) t.versions task → Keeps step t
    keeps_call j own task t step calls tasks on same reads still fine =
        let incarnation = other_stays j own t calls same in
        let last : recorded_reads (call_at t i).last ≡ recorded_reads (call_at s i).last = each_at (call_at s) (call_at t) j own calls i (λ c. recorded_reads c.last ≡ recorded_reads (call_at s i).last) (λ e. reads ∙ ap (λ x. recorded_reads (call_at s x).last) (sym e)) (λ ne. refl) in
        let was : (call_at t i).status ≡ Executed → (call_at s i).status ≡ Executed = each_at (call_at s) (call_at t) j own calls i (λ c. c.status ≡ Executed → (call_at s i).status ≡ Executed) (λ e h. ap (λ x. (call_at s x).status) e ∙ still h) (λ ne h. h) in
        inr (clean_on task t tasks on incarnation (λ x ne keys new at. last) (λ h. subst (λ r. AllStand s.versions i r) (sym last) (clean.executed (was h))) fine, incarnation)

    -- only the worker's task changes
    keeps_task : (task : Task) (add : Counts → Counts) (step : Step) → IsCleanTask i (call_at s i) s.versions task → Keeps step (counted add w (with_task w task s))
    keeps_task task add step fine = keeps_call i (call_at s i) task _ step (stays_at (call_at s) i) (set_at s.tasks w task Idle (w_there b w s inv w_in)) (λ reads h. h) refl refl (λ h. h) fine

    -- what is known of the worker's task
    own_task : (task : Task) → task_at s w ≡ task → IsCleanTask i (call_at s i) s.versions task
    own_task task at = subst (IsCleanTask i (call_at s i) s.versions) at (clean.tasks w)

    validation_keeps : (step : Step) → Keeps step (counted one_asking w (ask_validation w s))
    unfolding ask_validation
    validation_keeps step = cond_both (is_executed (call_at s s.validation).status) _ _ (λ t. Keeps step (counted one_asking w t))
        (λ _. keeps_call i (call_at s i) (Validating s.validation (call_at s s.validation).incarnation (length (recorded_reads (call_at s s.validation).last)) false) _ step (stays_at (call_at s) i) (set_at s.tasks w _ Idle (w_there b w s inv w_in)) (λ reads h. h) refl refl (λ h. h) tt)
        (λ _. inr (record { executed = clean.executed; tasks = clean.tasks }, refl))

    execution_keeps : (step : Step) → s.execution < length s.calls → Keeps step (counted one_asking w (ask_execution w s))
    unfolding ask_execution
    execution_keeps step j_in = cond_both (is_ready (call_at s s.execution).status) _ _ (λ t. Keeps step (counted one_asking w t))
        (λ _. keeps_call s.execution (record (call_at s s.execution) { status = Executing }) (Running s.execution [] None) _ step (set_at s.calls s.execution _ fresh j_in) (set_at s.tasks w _ Idle (w_there b w s inv w_in)) (λ reads h. h) refl refl (λ h. cc) (λ e. refl))
        (λ _. inr (record { executed = clean.executed; tasks = clean.tasks }, refl))

    ask_keeps : (step : Step) → Keeps step (counted one_asking w (after_ask w s))
    ask_keeps step = cond_both (is_done s) _ _ (λ t. Keeps step (counted one_asking w t)) (λ _. inr (record { executed = clean.executed; tasks = clean.tasks }, refl))
        (λ _. cond_both (nat_lt s.validation s.execution) _ _ (λ t. Keeps step (counted one_asking w t)) (λ _. validation_keeps step)
        (λ _. cond_both (nat_lt s.execution (length s.calls)) _ _ (λ t. Keeps step (counted one_asking w t)) (λ l. execution_keeps step (lt_says s.execution (length s.calls) l)) (λ _. inr (record { executed = clean.executed; tasks = clean.tasks }, refl))))

    read_keeps : (j : ℕ) (answers : List StorageAnswer) (key : List ℕ) (step : Step) → task_at s w ≡ Running j answers None → Keeps step (counted one_step w (after_read_key b.block.base key w j answers s))
    read_keeps j answers key step at = go (read_outcome b.block.base key j answers (reading s.versions key j))
      where
        before : j ≡ i → AllStand s.versions i (map read_of answers)
        before = own_task (Running j answers None) at

        go : ReadOutcome b.block.base key j answers (reading s.versions key j) → Keeps step (counted one_step w (with_task w (answered_with b.block.base key j answers (reading s.versions key j)) s))
        go (answers_run answered) = keeps_task _ one_step step (subst (IsCleanTask i (call_at s i) s.versions) (sym answered.task)
            (λ e. subst (λ x. AllStand s.versions x (map read_of (answers ++ answered.answer ∷ []))) e (answered_stand b.block s key j answers answered (subst (λ x. AllStand s.versions x (map read_of answers)) (sym e) (before e)))))
        go (blocks_run on seen waits) = keeps_task _ one_step step (subst (IsCleanTask i (call_at s i) s.versions) (sym waits) before)

    park_keeps : (j on : ℕ) (step : Step) → j < length s.calls → Keeps step (counted one_step w (after_park w j on s))
    unfolding after_park
    park_keeps j on step j_in = cond_both (is_executed (call_at s on).status) _ _ (λ t. Keeps step (counted one_step w t))
        (λ _. keeps_task (Running j [] None) one_step step (λ e. refl))
        (λ _. keeps_call j (record (call_at s j) { status = Aborting; parked = Some on }) Idle _ step (set_at s.calls j _ fresh j_in) (set_at s.tasks w Idle Idle (w_there b w s inv w_in)) (λ reads h. h) refl refl (λ h. cc) tt)

    record_keeps : (j : ℕ) (answers : List StorageAnswer) (receipt : Receipt) (step : Step) → task_at s w ≡ Running j answers None → j < length s.calls → Keeps step (counted one_execution w (after_record w j answers receipt s))
    record_keeps j answers receipt step at j_in =
        let own : CallState = record (call_at s j) { last = Some (recorded_run answers receipt) } in
        let calls = set_at s.calls j own fresh j_in in
        let t = counted one_execution w (after_record w j answers receipt s) in
        let incarnation = other_stays j own t calls refl in
        inr (
          clean_on (Moving j (keys_to_move (call_at s j).last receipt.writes) (has_new_key (call_at s j).last receipt.writes)) t (set_at s.tasks w _ Idle (w_there b w s inv w_in)) (λ reads h. h) incarnation
              (λ x ne keys new moves. elim (cases_eq i j) [
                | inl e ↦ absurd (ne (inv.facts.alone x w i (ap owned_by moves) (ap owned_by at ∙ ap Some (sym e))))
                | inr other ↦ ap (λ (c : CallState). recorded_reads c.last) (calls.other i other)
              ])
              (λ h. elim (cases_eq i j) [
                | inl e ↦
                    let runs = inv.facts.running w j (ap run_by at) in
                    let now : (call_at t i).status ≡ (call_at s j).status = ap (λ x. (call_at t x).status) e ∙ ap (λ (c : CallState). c.status) calls.there in cc
                | inr other ↦
                    let same = calls.other i other in
                    subst (λ (c : CallState). AllStand s.versions i (recorded_reads c.last)) (sym same) (clean.executed (ap (λ (c : CallState). c.status) (sym same) ∙ h))
              ])
              (λ e.
              let now : recorded_reads (call_at t i).last ≡ map read_of answers = ap (λ x. recorded_reads (call_at t x).last) (sym e) ∙ ap (λ (c : CallState). recorded_reads c.last) calls.there in
              subst (λ r. AllStand s.versions i r) (sym now) (own_task (Running j answers None) at e)),
          incarnation,
        )

    -- a key of a call is moved or marked
    entry_stands : (j : ℕ) (key : List ℕ) (entry : Option Entry) (task : Task) (step : Step) → StandOn s.versions (changed s.versions (key, j) entry) i → IsCleanTask i (call_at s i) s.versions task → Keeps step (counted one_step w (with_task w task (record s { versions = changed s.versions (key, j) entry })))
    entry_stands j key entry task step on fine =
        keeps_call i (call_at s i) task _ step (stays_at (call_at s) i) (set_at s.tasks w task Idle (w_there b w s inv w_in)) on refl refl (λ h. h)
        (task_still i (call_at s i) (call_at s i) s.versions (changed s.versions (key, j) entry) refl on task (λ keys new moves. refl) fine)

    entry_keeps : (j : ℕ) (key : List ℕ) (entry : Option Entry) (task : Task) (step : Step) → changes i step (task_at s w) s.versions ≡ below i j 1 → IsCleanTask i (call_at s i) s.versions task → Keeps step (counted one_step w (with_task w task (record s { versions = changed s.versions (key, j) entry })))
    entry_keeps j key entry task step counts fine = elim (cases_lt j i) [
      | inl low ↦ inl (counts ∙ cond-true (nat_lt j i) 1 0 (lt_is j i low))
      | inr above ↦
          let entries : (k : List ℕ) (x : ℕ) → x < i → entry_at (changed s.versions (key, j) entry) k x ≡ entry_at s.versions k x = λ k x less. changed_other s.versions key j entry k x (λ e. omega (arith, above, less, e)) in
          entry_stands j key entry task step (stand_below s.versions (changed s.versions (key, j) entry) i entries) fine
    ]

    -- a key is moved: if the call has an estimate there, reads that stand still stand
    move_keeps : (j : ℕ) (key : List ℕ) (keys : List (List ℕ)) (new : Bool) → task_at s w ≡ Moving j (key ∷ keys) new → Keeps MoveKey (counted one_step w (after_move_key w j key keys new s))
    move_keeps j key keys new at = go (moved.unmoved key (both_or (tied_itself nat_list_cmp_total key)))
      where
        moved : IsMoved (call_at s j) (λ k. entry_at s.versions k j) (key ∷ keys) new
        moved = inv.facts.moving w j (key ∷ keys) new at

        fine : IsCleanTask i (call_at s i) s.versions (Moving j keys new)
        fine = own_task (Moving j (key ∷ keys) new) at

        both_or : key_cmp key key ≡ Equal → has_key key (key ∷ keys) ≡ true
        both_or e = ap (λ o. is_eq o || has_key key keys) e

        over : entry_at s.versions key j ≡ Some Estimate → (k : List ℕ) (x : ℕ) → (entry_at (changed s.versions (key, j) (version_of (call_at s j) key)) k x ≡ entry_at s.versions k x) ⊎ (entry_at s.versions k x ≡ Some Estimate)
        over estimate k x = elim (get_other s.versions (key, j) (version_of (call_at s j) key) (k, x)) [ inl same ↦ inl same | inr q ↦ inr (ap (λ (p : Place). entry_at s.versions p.0 p.1) q ∙ estimate) ]

        go : IsUnmovedEntry new (entry_at s.versions key j) → Keeps MoveKey (counted one_step w (after_move_key w j key keys new s))
        go (inl estimate) = entry_stands j key (version_of (call_at s j) key) (Moving j keys new) MoveKey (stand_over s (record s { versions = changed s.versions (key, j) (version_of (call_at s j) key) }) i (over estimate)) fine
        go (inr none) = entry_keeps j key (version_of (call_at s j) key) (Moving j keys new) MoveKey (ap (λ k. changes i MoveKey k s.versions) at ∙ ap (λ o. below i j (1 * if_new o)) none.0) fine

    check_keeps : (j n more : ℕ) (step : Step) → Keeps step (counted one_step w (after_check_read w j n more s))
    unfolding after_check_read
    check_keeps j n more step = cond_both (is_executed_at n (call_at s j)) _ _ (λ t. Keeps step (counted one_step w t))
        (λ there. cond_both (next_stands j (suc more) s) _ _ (λ t. Keeps step (counted one_step w t))
        (λ _. keeps_task (Validating j n more false) one_step step tt)
        (λ fails. keeps_task (Validating j n (suc more) true) one_step step (λ e at.
        let done : (call_at s i).status ≡ Executed = ap (λ x. (call_at s x).status) (sym e) ∙ (executed_at_says n (call_at s j) there).0 in
        let good = each_stands s.versions i (recorded_reads (call_at s i).last) (length (recorded_reads (call_at s i).last) - suc more) (clean.executed done) in
        let bad = ap (λ x. next_stands x (suc more) s) (sym e) ∙ fails in cc)))
        (λ _. keeps_task Idle one_step step tt)

    decide_keeps : (j n more : ℕ) (failed : Bool) (step : Step) → task_at s w ≡ Validating j n more failed → j < length s.calls → Keeps step (counted one_validation w (after_decide w j n failed s))
    unfolding after_decide
    decide_keeps j n more failed step at j_in = cond_both (failed && is_executed_at n (call_at s j)) _ _ (λ t. Keeps step (counted one_validation w t))
        (λ both.
        let parts = and_parts failed (is_executed_at n (call_at s j)) both in
        let says = executed_at_says n (call_at s j) parts.1 in
        let fails : IsCleanTask i (call_at s i) s.versions (Validating j n more true) = own_task (Validating j n more true) (at ∙ ap (λ f. Validating j n more f) parts.0) in
        keeps_call j (record (call_at s j) { status = Aborting }) (Marking j (keys_of (written_by (call_at s j).last))) _ step (set_at s.calls j _ fresh j_in) (set_at s.tasks w _ Idle (w_there b w s inv w_in)) (λ reads h. h) refl refl (λ h. cc)
        (λ e. fails e (sym says.1 ∙ ap (λ x. (call_at s x).incarnation) e)))
        (λ _. keeps_task Idle one_validation step tt)

    abort_keeps : (j : ℕ) (step : Step) → task_at s w ≡ Marking j [] → j < length s.calls → Keeps step (counted one_step w (after_finish_abort w j s))
    unfolding after_finish_abort
    abort_keeps j step at j_in =
        let ne : j ≢ i = own_task (Marking j []) at in
        let not_it : i ≢ j = λ e. ne (sym e) in
        cond_both (nat_lt j s.execution) _ _ (λ t. Keeps step (counted one_step w t))
        (λ _. back (record (next_incarnation (call_at s j)) { status = Executing }) (Running j [] None) not_it (λ e. refl))
        (λ _. back (next_incarnation (call_at s j)) Idle not_it tt)
      where
        back : (own : CallState) (task : Task) → i ≢ j → IsCleanTask i (call_at s i) s.versions task → Keeps step (counted one_step w (with_task w task (with_call j own (record s { validation = min s.validation (j + 1) }))))
        back own task ne fine =
            let t = counted one_step w (with_task w task (with_call j own (record s { validation = min s.validation (j + 1) }))) in
            let same : call_at t i ≡ call_at s i = get_or-set_other s.calls j i own fresh ne in
            let incarnation = ap (λ (c : CallState). c.incarnation) same in
            inr (
              clean_on task t (set_at s.tasks w task Idle (w_there b w s inv w_in)) (λ reads h. h) incarnation (λ x other keys new moves. ap (λ (c : CallState). recorded_reads c.last) same)
                  (λ h. subst (λ (c : CallState). AllStand s.versions i (recorded_reads c.last)) (sym same) (clean.executed (ap (λ (c : CallState). c.status) (sym same) ∙ h)))
                  (subst (λ c. IsCleanTask i c s.versions task) (sym same) fine),
              incarnation,
            )

    -- the end of an execution
    end_keeps : (j : ℕ) (new : Bool) (task : Task) (t : State) → task_at s w ≡ Moving j [] new → j < length s.calls → t.calls ≡ resumed s j → t.tasks ≡ set s.tasks w task → t.versions ≡ s.versions → ((c : CallState) (v : Versions) → IsCleanTask i c v task) → Keeps FinishExecution t
    end_keeps j new task t at j_in calls tasks versions fine = go (after_end j j_in)
      where
        is : call_at t i ≡ get_or (resumed s j) i fresh
        is = ap (λ (cs : List CallState). get_or cs i fresh) calls

        tasks_now : ChangesAt (task_at s) (task_at t) w task
        tasks_now = record {
          there = ap (λ (ts : List Task). get_or ts w Idle) tasks ∙ get_or-set_same s.tasks w task Idle (w_there b w s inv w_in);
          other = λ x ne. ap (λ (ts : List Task). get_or ts x Idle) tasks ∙ get_or-set_other s.tasks w x task Idle ne;
        }

        keeps : (c : CallState) → call_at t i ≡ c → c.incarnation ≡ (call_at s i).incarnation → recorded_reads c.last ≡ recorded_reads (call_at s i).last → (c.status ≡ Executed → AllStand s.versions i (recorded_reads (call_at s i).last)) → Keeps FinishExecution t
        keeps c now same reads stand =
            let incarnation : (call_at t i).incarnation ≡ (call_at s i).incarnation = ap (λ (d : CallState). d.incarnation) now ∙ same in
            let last : recorded_reads (call_at t i).last ≡ recorded_reads (call_at s i).last = ap (λ (d : CallState). recorded_reads d.last) now ∙ reads in
            inr (
              clean_on task t tasks_now (λ reads h. subst (λ v. AllStand v i reads) (sym versions) h) incarnation (λ x ne keys more moves. last)
                  (λ h. subst (λ r. AllStand s.versions i r) (sym last) (stand (ap (λ (d : CallState). d.status) (sym now) ∙ h))) (fine (call_at t i) t.versions),
              incarnation,
            )

        go : AfterEnd j (get_or (resumed s j) i fresh) → Keeps FinishExecution t
        go (is_ended e same) = keeps (ended s i) (is ∙ same) refl refl (λ h. own_task (Moving j [] new) at (sym e))
        go (is_same ne same) = keeps (call_at s i) (is ∙ same) refl refl clean.executed
        go (is_readied low same) = inl (ap (λ k. changes i FinishExecution k s.versions) at ∙ cond-true (nat_lt j i) 1 0 (lt_is j i low))

    finish_keeps : (j : ℕ) (new : Bool) → task_at s w ≡ Moving j [] new → j < length s.calls → Keeps FinishExecution (counted one_step w (after_finish_execution w j new s))
    unfolding to_validate resume_dependents
    finish_keeps j new at j_in = cond_both (nat_lt j s.validation) _ _ (λ t. Keeps FinishExecution (counted one_step w t))
        (λ _. cond_both new _ _ (λ t. Keeps FinishExecution (counted one_step w t))
        (λ _. end_keeps j new Idle _ at j_in refl refl refl (λ c v. tt)) (λ _. end_keeps j new (Validating j (call_at s j).incarnation (length (recorded_reads (call_at s j).last)) false) _ at j_in refl refl refl (λ c v. tt)))
        (λ _. end_keeps j new Idle _ at j_in refl refl refl (λ c v. tt))

    made_keeps : (step : Step) (t : State) → IsMade b.block w s step t → Keeps step t
    made_keeps step t (by_ask at) = ask_keeps step
    made_keeps step t (by_read j answers key at) = read_keeps j answers key step at
    made_keeps step t (by_park j on answers at low) = park_keeps j on step (in_calls (Running j answers (Some on)) j at refl)
    made_keeps step t (by_record j answers receipt at bears low) = record_keeps j answers receipt step at (in_calls (Running j answers None) j at refl)
    made_keeps step t (by_move j key keys new at) = move_keeps j key keys new at
    made_keeps step t (by_finish j new at) = finish_keeps j new at (in_calls (Moving j [] new) j at refl)
    made_keeps step t (by_check j n more at) = check_keeps j n more step
    made_keeps step t (by_decide j n more failed at last) = decide_keeps j n more failed step at (in_calls (Validating j n more failed) j at refl)
    made_keeps step t (by_mark j key keys at) = entry_keeps j key (Some Estimate) (Marking j keys) step (ap (λ k. changes i MarkEstimate k s.versions) at) (own_task (Marking j (key ∷ keys)) at)
    made_keeps step t (by_abort j at) = abort_keeps j step at (in_calls (Marking j []) j at refl)

-- ---- lists of steps

-- the incarnation of call i is below the number of changes, or it is at most that and no read of the call fails
abbrev IsCaused : ℕ → ℕ → State → Type 0
IsCaused i n s = ((call_at s i).incarnation < n) ⊎ (((call_at s i).incarnation ≤ n) × IsClean i s)

module _ (b : Bounds) (i : ℕ) where
  caused_then : (w x n : ℕ) (s t : State) (step : Step) → x ≡ changes i step (task_at s w) s.versions → IsCaused i n s → Rises i w s step t → (IsClean i s → (x ≡ 1) ⊎ (IsClean i t × ((call_at t i).incarnation ≡ (call_at s i).incarnation))) → IsCaused i (n + x) t
  caused_then w x n s t step e (inl less) (stays same) keeps = inl (omega (arith, less, same))
  caused_then w x n s t step e (inl less) (readied up counts clean) keeps = inl (omega (arith, less, up, counts, e))
  caused_then w x n s t step e (inl less) (aborted up clean) keeps = inr (omega (arith, less, up), clean)
  caused_then w x n s t step e (inr h) rises keeps = by (keeps h.1) rises
    where
      most : (call_at s i).incarnation ≤ n
      most = h.0

      by : (x ≡ 1) ⊎ (IsClean i t × ((call_at t i).incarnation ≡ (call_at s i).incarnation)) → Rises i w s step t → IsCaused i (n + x) t
      by (inl one) (stays same) = let low = most in inl (omega (arith, low, same, one))
      by (inl one) (readied up counts clean) = let low = most in inr (omega (arith, low, up, one), clean)
      by (inl one) (aborted up clean) = let low = most in inr (omega (arith, low, up, one), clean)
      by (inr k) rises = let low = most in let same = k.1 in inr (omega (arith, low, same), k.0)

  caused : (n : ℕ) (s : State) → ChangesTo b i n s → IsCaused i n s
  caused n s unchanged = inr (let none = ap (λ (c : CallState). c.incarnation) (replicated b.block.count i fresh) in omega (arith, none), ready_clean b.block b.workers (start_state b.block.count b.workers) (invariant_kept b.block b.workers (start_state b.block.count b.workers) started) i (ap (λ (c : CallState). c.status) (replicated b.block.count i fresh)))
  caused n t (one_more {n = before_n} {s = s} w step before w_in k) =
      let inv = invariant_kept b.block b.workers s (comes_reached b of_changes i before_n s before) in
      let inv_t = worker_kept b.block b.workers w s t inv w_in step k in
      let is = made b.block w s t step k in
      caused_then w (changes i step (task_at s w) s.versions) before_n s t step refl (caused before_n s before) (made_rises b i w s inv w_in step t is inv_t) (λ clean. made_keeps b i w s inv w_in clean step t is)

  pub caused_most : (n : ℕ) (s : State) → ChangesTo b i n s → (call_at s i).incarnation ≤ n
  caused_most n s h = elim (caused n s h) [ inl less ↦ omega (arith, less) | inr most ↦ most.0 ]
