-- How the parts of a step make the step, and what the step that a worker owes says about its task.
use Rattle.std.proofs.Common.{◌≡◌, ◌<◌, ℕ, zero, suc, Bool, true, false, List, [], ◌∷◌, slice_get, Option, None, Some, refl, sym, subst, ap, ◌∙◌}
use Rattle.std.specs.Option.{option_map}
use Rattle.rv_step.specs.declared.answer.StorageAnswer.{StorageAnswer}
use Rattle.mvmap.specs.Versions.{Versions, changed}
use Rattle.stm_state.specs.declared.state.Task.{Task}
use Rattle.stm_state.specs.declared.state.Task.TheVariants.{Idle, Running, Moving, Validating, Marking}
use Rattle.stm_state.specs.State.{State, call_at, with_task}
use Rattle.stm_state.specs.Steps.{Ask, ReadKey, Record, MoveKey, FinishExecution, CheckRead, MarkEstimate, FinishAbort, after_move_key, version_of}
use Rattle.stm_state.proofs.Invariant.{named_by}
use Rattle.scheduler.specs.declared.worker.TaskKind.TheVariants as task_kind
use Rattle.scheduler.specs.Workers.{HasKeys, IsRunning, task_kind_of}
use Rattle.stm_core.specs.declared.next_step.NextStep.TheVariants as next_step
use Rattle.stm_core.specs.declared.next_step.StepKind.TheVariants as kinds
use Rattle.stm_core.specs.CoreState.{IsWithin, next_step_of, is_due}
use Rattle.stm_core.specs.Passed.{check_of}

-- ---- what the step that a worker owes says about its task

pub asks_idle : (task : Task) → is_due Ask task ≡ true → task ≡ Idle
asks_idle Idle h = refl
asks_idle task h = cc

pub reads_running : (task : Task) (key : List ℕ) (i : ℕ) (blocked : Option ℕ) → is_due (ReadKey key) task ≡ true → task_kind.Running i blocked ≡ task_kind_of task → (answers : List StorageAnswer) × (task ≡ Running i answers None)
reads_running (Running j answers None) key i blocked h d = (answers, cc)
reads_running task key i blocked h d = cc

pub records_running : (task : Task) (i : ℕ) (blocked : Option ℕ) → is_due Record task ≡ true → task_kind.Running i blocked ≡ task_kind_of task → (answers : List StorageAnswer) × (task ≡ Running i answers None)
records_running (Running j answers None) i blocked h d = (answers, cc)
records_running task i blocked h d = cc

pub moves_key : (task : Task) (i : ℕ) (new : Bool) (key : List ℕ) → is_due MoveKey task ≡ true → task_kind.Moving i new ≡ task_kind_of task → ((j : ℕ) (keys : List (List ℕ)) (b : Bool) → task ≡ Moving j keys b → Some key ≡ slice_get keys 0) → (keys : List (List ℕ)) × (task ≡ Moving i (key ∷ keys) new)
moves_key (Moving j (k ∷ keys) c) i new key h d next = let same = next j (k ∷ keys) c refl in (keys, cc)
moves_key task i new key h d next = cc

pub moves_some_key : (task : Task) → is_due MoveKey task ≡ true → ((j : ℕ) (keys : List (List ℕ)) (b : Bool) → task ≡ Moving j keys b → None ≡ slice_get keys 0) → ⊥
moves_some_key (Moving j (k ∷ keys) c) h next = let none = next j (k ∷ keys) c refl in cc
moves_some_key task h next = cc

pub finishes_moving : (task : Task) (i : ℕ) (new : Bool) → is_due FinishExecution task ≡ true → task_kind.Moving i new ≡ task_kind_of task → task ≡ Moving i [] new
finishes_moving (Moving j [] c) i new h d = cc
finishes_moving task i new h d = cc

pub marks_key : (task : Task) (i : ℕ) (key : List ℕ) → is_due MarkEstimate task ≡ true → task_kind.Marking i ≡ task_kind_of task → ((j : ℕ) (keys : List (List ℕ)) → task ≡ Marking j keys → Some key ≡ slice_get keys 0) → (keys : List (List ℕ)) × (task ≡ Marking i (key ∷ keys))
marks_key (Marking j (k ∷ keys)) i key h d next = let same = next j (k ∷ keys) refl in (keys, cc)
marks_key task i key h d next = cc

pub marks_some_key : (task : Task) → is_due MarkEstimate task ≡ true → ((j : ℕ) (keys : List (List ℕ)) → task ≡ Marking j keys → None ≡ slice_get keys 0) → ⊥
marks_some_key (Marking j (k ∷ keys)) h next = let none = next j (k ∷ keys) refl in cc
marks_some_key task h next = cc

pub finishes_marking : (task : Task) (i : ℕ) → is_due FinishAbort task ≡ true → task_kind.Marking i ≡ task_kind_of task → task ≡ Marking i []
finishes_marking (Marking j []) i h d = cc
finishes_marking task i h d = cc

pub checks_next : (task : Task) (i n left : ℕ) (failed : Bool) → is_due CheckRead task ≡ true → task_kind.Validating i n left failed ≡ task_kind_of task → (less : ℕ) × (left ≡ suc less) × (task ≡ Validating i n (suc less) false)
checks_next (Validating j m (suc l) false) i n left failed h d = (l, cc, cc)
checks_next task i n left failed h d = cc

-- a task that has the kind of a validation is that validation
pub validates_at : (task : Task) (i n left : ℕ) (failed : Bool) → task_kind.Validating i n left failed ≡ task_kind_of task → task ≡ Validating i n left failed
validates_at (Validating j m l f) i n left failed d = cc
validates_at task i n left failed d = cc

-- a task that has the kind of a run is a run, which was given some answers
pub running_at : (task : Task) (i : ℕ) (blocked : Option ℕ) → task_kind.Running i blocked ≡ task_kind_of task → (answers : List StorageAnswer) × (task ≡ Running i answers blocked)
running_at (Running j answers b) i blocked d = (answers, cc)
running_at task i blocked d = cc

-- a task that has the kind of a move moves some keys, and one that has the kind of a mark marks some
pub moving_at : (task : Task) (i : ℕ) (new : Bool) → task_kind.Moving i new ≡ task_kind_of task → (keys : List (List ℕ)) × (task ≡ Moving i keys new)
moving_at (Moving j keys c) i new d = (keys, cc)
moving_at task i new d = cc

pub marking_at : (task : Task) (i : ℕ) → task_kind.Marking i ≡ task_kind_of task → (keys : List (List ℕ)) × (task ≡ Marking i keys)
marking_at (Marking j keys) i d = (keys, cc)
marking_at task i d = cc

-- a task names the call that its kind names
pub names_running : (task : Task) (i : ℕ) (blocked : Option ℕ) → task_kind.Running i blocked ≡ task_kind_of task → named_by task ≡ Some i
names_running task i blocked d = let at = running_at task i blocked d in ap named_by at.1

pub names_moving : (task : Task) (i : ℕ) (new : Bool) → task_kind.Moving i new ≡ task_kind_of task → named_by task ≡ Some i
names_moving task i new d = let at = moving_at task i new d in ap named_by at.1

-- a task that moves or marks has keys
pub moving_has_keys : (task : Task) (i : ℕ) (new : Bool) → task_kind.Moving i new ≡ task_kind_of task → HasKeys task
moving_has_keys task i new d = let at = moving_at task i new d in subst HasKeys (sym at.1) tt

pub marking_has_keys : (task : Task) (i : ℕ) → task_kind.Marking i ≡ task_kind_of task → HasKeys task
marking_has_keys task i d = let at = marking_at task i d in subst HasKeys (sym at.1) tt

pub names_validating : (task : Task) (i n left : ℕ) (failed : Bool) → task_kind.Validating i n left failed ≡ task_kind_of task → named_by task ≡ Some i
names_validating task i n left failed d = ap named_by (validates_at task i n left failed d)

pub checks_named : (task : Task) (i left : ℕ) → check_of task ≡ Some (i, left) → named_by task ≡ Some i
checks_named (Validating j n l f) i left d = ap (option_map (λ (c : ℕ × ℕ). c.0)) d
checks_named task i left d = cc

pub names_marking : (task : Task) (i : ℕ) → task_kind.Marking i ≡ task_kind_of task → named_by task ≡ Some i
names_marking task i d = let at = marking_at task i d in ap named_by at.1

-- a task runs a call if its kind does
pub runs_one : (task : Task) (i : ℕ) (blocked : Option ℕ) → task_kind.Running i blocked ≡ task_kind_of task → IsRunning task
runs_one task i blocked d = let at = running_at task i blocked d in subst IsRunning (sym at.1) tt

-- the call of the step that a worker owes is one of the calls if the call of its task is
pub within_doing : (count : ℕ) (s : State) (task : Task) → ((i : ℕ) → named_by task ≡ Some i → i < count) → IsWithin count (next_step_of s task)
within_doing count s Idle h = tt
within_doing count s (Running j answers None) h = h j refl
within_doing count s (Running j answers (Some b)) h = h j refl
within_doing count s (Moving j (k ∷ keys) c) h = h j refl
within_doing count s (Moving j [] c) h = h j refl
within_doing count s (Validating j m l true) h = h j refl
within_doing count s (Validating j m zero false) h = h j refl
within_doing count s (Validating j m (suc l) false) h = h j refl
within_doing count s (Marking j (k ∷ keys)) h = h j refl
within_doing count s (Marking j []) h = h j refl

-- the step of a task that moves keys: the next key, if there is one
pub moves_next : (s : State) (i : ℕ) (key : List ℕ) (keys : List (List ℕ)) (new : Bool) → Some key ≡ slice_get keys 0 → next_step.Make kinds.MoveKey i (call_at s i).incarnation ≡ next_step_of s (Moving i keys new)
moves_next s i key [] new h = cc
moves_next s i key (k ∷ keys) new h = refl

pub moves_none : (s : State) (i : ℕ) (keys : List (List ℕ)) (new : Bool) → None ≡ slice_get keys 0 → next_step.Make kinds.FinishExecution i (call_at s i).incarnation ≡ next_step_of s (Moving i keys new)
moves_none s i [] new h = refl
moves_none s i (k ∷ keys) new h = cc

-- so is that of a task that marks keys
pub marks_next : (s : State) (i : ℕ) (key : List ℕ) (keys : List (List ℕ)) → Some key ≡ slice_get keys 0 → next_step.Make kinds.MarkEstimate i (call_at s i).incarnation ≡ next_step_of s (Marking i keys)
marks_next s i key [] h = cc
marks_next s i key (k ∷ keys) h = refl

pub marks_none : (s : State) (i : ℕ) (keys : List (List ℕ)) → None ≡ slice_get keys 0 → next_step.Make kinds.FinishAbort i (call_at s i).incarnation ≡ next_step_of s (Marking i keys)
marks_none s i [] h = refl
marks_none s i (k ∷ keys) h = cc

-- a key is moved if its version is set and the worker continues with the next key
pub moved_is : (w i : ℕ) (key : List ℕ) (keys : List (List ℕ)) (new : Bool) (s : State) (versions : Versions) (placed : ℕ) → versions ≡ changed s.versions (key, i) (version_of (call_at s i) key) → placed ≡ s.record_count
    → with_task w (Moving i keys new) (record s { versions = versions; record_count = placed }) ≡ after_move_key w i key keys new s
moved_is w i key keys new s versions placed v p =
    ap (λ x. with_task w (Moving i keys new) (record s { versions = x; record_count = placed })) v
    ∙ ap (λ x. with_task w (Moving i keys new) (record s { versions = changed s.versions (key, i) (version_of (call_at s i) key); record_count = x })) p
