-- Changes of the indices, and of workers that end a task that owns no call.
use Rattle.std.proofs.Common.{◌≡◌, ◌<◌, ◌≤◌, ◌⊎◌, ℕ, Bool, List, Option, None, Some, arith, sym, ap, subst, ◌∙◌, inl, inr}
use Rattle.std.specs.List.{AllByRecursion}
use Rattle.rv_step.specs.declared.answer.StorageAnswer.{StorageAnswer}
use Rattle.stm_state.specs.declared.state.Status.TheVariants.{Ready, Executing, Executed, Aborting}
use Rattle.stm_state.specs.declared.state.Task.{Task}
use Rattle.stm_state.specs.declared.state.Task.TheVariants.{Idle, Running, Moving, Validating, Marking}
use Rattle.stm_state.specs.Steps.{Block}
use Rattle.stm_state.proofs.Invariant.{View, ViewInvariant, AreSafe, IsChecked, IsMarked, IsMoved, IsRightAnswer, IsUnturned, IsWaiting, marked_by, named_by, owned_by, run_by, turned_by}
use Rattle.stm_state.proofs.OneCallChanges.{Grows, right_all, borne_still, marked_owned, run_owned, turned_owned}

-- a view with other tasks and other indices
abbrev pub rested : View → (ℕ → Task) → ℕ → ℕ → View
rested v tasks execution validation = record { calls = v.calls; tasks = tasks; entries = v.entries; execution = execution; validation = validation }

module _ (block : Block) (v : View) (tasks : ℕ → Task) (execution validation : ℕ) (f : ViewInvariant block v) (rest : (x : ℕ) → (tasks x ≡ v.tasks x) ⊎ ((tasks x ≡ Idle) × (owned_by (v.tasks x) ≡ None))) where
  abbrev now : View
  now = rested v tasks execution validation

  -- what holds of a task as it was and of Idle holds of the task now
  rested_tasks : (x : ℕ) (P : Task → Type 0) → P (v.tasks x) → P Idle → P (tasks x)
  rested_tasks x P h k = elim (rest x) [ inl e ↦ subst P (sym e) h | inr q ↦ subst P (sym q.0) k ]

  -- ---- each part of the invariant afterwards

  -- some worker runs each EXECUTING call
  rested_executing : (i : ℕ) → (v.calls i).status ≡ Executing → (x : ℕ) × (run_by (tasks x) ≡ Some i)
  rested_executing i h = let old = f.executing i h in (old.0, elim (rest old.0) [ inl e ↦ ap run_by e ∙ old.1 | inr q ↦ let some = run_owned (v.tasks old.0) i old.1 in let none = q.1 in cc ])

  -- tasks name calls of the block
  rested_named : (x i : ℕ) → named_by (tasks x) ≡ Some i → i < block.count
  rested_named x i = rested_tasks x (λ task. named_by task ≡ Some i → i < block.count) (f.named x i) (λ h. cc)

  -- calls that a worker runs are EXECUTING
  rested_running : (x i : ℕ) → run_by (tasks x) ≡ Some i → (v.calls i).status ≡ Executing
  rested_running x i = rested_tasks x (λ task. run_by task ≡ Some i → (v.calls i).status ≡ Executing) (f.running x i) (λ h. cc)

  -- a call that a worker owns now it owned before
  rested_owned : (x i : ℕ) → owned_by (tasks x) ≡ Some i → owned_by (v.tasks x) ≡ Some i
  rested_owned x i = rested_tasks x (λ task. owned_by task ≡ Some i → owned_by (v.tasks x) ≡ Some i) (λ h. h) (λ h. cc)

  -- runs are blocked on lower calls
  rested_blocked : (x i b : ℕ) (answers : List StorageAnswer) → tasks x ≡ Running i answers (Some b) → b < i
  rested_blocked x i b answers = rested_tasks x (λ task. task ≡ Running i answers (Some b) → b < i) (f.blocked x i b answers) (λ h. cc)

  -- ABORTING calls wait or are marked
  rested_aborting : (i : ℕ) → (v.calls i).status ≡ Aborting → IsWaiting now i ⊎ ((x : ℕ) × (marked_by (tasks x) ≡ Some i))
  rested_aborting i h = elim (f.aborting i h) [
    | inl old ↦ inl (record { on = old.on; parked = old.parked; lower = old.lower; not_done = old.not_done })
    | inr old ↦ inr (old.0, elim (rest old.0) [ inl e ↦ ap marked_by e ∙ old.1 | inr q ↦ let some = marked_owned (v.tasks old.0) i old.1 in let none = q.1 in cc ])
  ]

  -- incarnations and versions stay
  rested_grows : Grows v now
  rested_grows = record { incarnations = λ i. omega arith; past = λ i n h. h; versions = λ key i n c h. inl h; known = λ key i n c h. inl h }

  -- answers of runs are right
  rested_answered : (x i : ℕ) (answers : List StorageAnswer) (waits : Option ℕ) → tasks x ≡ Running i answers waits → AllByRecursion (IsRightAnswer block now i) answers
  rested_answered x i answers waits = rested_tasks x (λ task. task ≡ Running i answers waits → AllByRecursion (IsRightAnswer block now i) answers)
      (λ h. right_all block v now rested_grows i answers (f.answered x i answers waits h)) (λ h. cc)

  -- validations are of incarnations that the calls had
  rested_validating : (x i n left : ℕ) (failed : Bool) → tasks x ≡ Validating i n left failed → n ≤ (v.calls i).incarnation
  rested_validating x i n left failed = rested_tasks x (λ task. task ≡ Validating i n left failed → n ≤ (v.calls i).incarnation) (f.validating x i n left failed) (λ h. cc)

  -- if a validation is at its call's present incarnation, the call is EXECUTED with enough reads, or ABORTING and not parked
  rested_current : (x i left : ℕ) (failed : Bool) → tasks x ≡ Validating i (v.calls i).incarnation left failed → IsChecked (v.calls i) left
  rested_current x i left failed = rested_tasks x (λ task. task ≡ Validating i (v.calls i).incarnation left failed → IsChecked (v.calls i) left) (f.current x i left failed) (λ h. cc)

  -- if no worker turns a call's keys now, no worker did before
  rested_unturned : (i : ℕ) → IsUnturned now i → IsUnturned v i
  rested_unturned i free x h = elim (rest x) [ inl e ↦ free x (ap turned_by e ∙ h) | inr q ↦ let none = q.1 in let some = turned_owned (v.tasks x) i h in cc ]

  -- entries of a call whose keys a worker turns are on their way to their targets
  rested_moving : (x i : ℕ) (keys : List (List ℕ)) (new : Bool) → tasks x ≡ Moving i keys new → IsMoved (v.calls i) (λ key. v.entries key i) keys new
  rested_moving x i keys new = rested_tasks x (λ task. task ≡ Moving i keys new → IsMoved (v.calls i) (λ key. v.entries key i) keys new) (f.moving x i keys new) (λ h. cc)

  rested_marking : (x i : ℕ) (keys : List (List ℕ)) → tasks x ≡ Marking i keys → IsMarked (v.calls i) (λ key. v.entries key i) keys
  rested_marking x i keys = rested_tasks x (λ task. task ≡ Marking i keys → IsMarked (v.calls i) (λ key. v.entries key i) keys) (f.marking x i keys) (λ h. cc)

  -- the invariant is kept if the indices are in range, no READY call is below the execution index, and the reads are safe
  pub rested_facts : execution ≤ block.count → validation ≤ block.count → ((i : ℕ) → (v.calls i).status ≡ Ready → execution ≤ i)
      → ((i : ℕ) → (v.calls i).status ≡ Executed → i < validation → AreSafe (rested v tasks execution validation) i) → ViewInvariant block (rested v tasks execution validation)
  rested_facts execution_within validation_within ready safe = record {
    execution_within = execution_within;
    validation_within = validation_within;
    named = rested_named;
    ready = ready;
    executing = rested_executing;
    running = rested_running;
    alone = λ x y i h k. f.alone x y i (rested_owned x i h) (rested_owned y i k);
    blocked = rested_blocked;
    aborting = rested_aborting;
    unparked = f.unparked;
    limit = f.limit;
    executed_limit = f.executed_limit;
    aborting_limit = f.aborting_limit;
    entries = λ i key free. f.entries i key (rested_unturned i free);
    moving = rested_moving;
    marking = rested_marking;
    executed = f.executed;
    recorded = λ i run h. borne_still block v now rested_grows i run (f.recorded i run h);
    answered = rested_answered;
    validating = rested_validating;
    current = rested_current;
    safe = safe;
  }
