-- A run that is given the answer to its read fits its task after the read.
use Rattle.std.proofs.Common.{◌≡◌, ◌<◌, ℕ, true, List, [], ◌∷◌, ◌++◌, length, Option, None, Some, Ok, IfSome, refl, sym, ap, subst, ◌∙◌, slice_get}
use Rattle.std.proofs.lemmas.List.{get_or-set_same}
use Rattle.std.specs.FinMap as map
use Rattle.read_set.specs.Origin.{Origin, base_origin}
use Rattle.mvmap.specs.Reading.{Visible, blocker, origin_in, reading, value_seen}
use Rattle.rv_ledger.specs.Call.{Invocation}
use Rattle.rv_ledger.specs.Key.{Storage}
use Rattle.rv_step.specs.declared.answer.StorageAnswer.{StorageAnswer}
use Rattle.rv_step.specs.declared.stage.Stage.{Stage}
use Rattle.rv_step.specs.declared.stage.Stage.TheVariants.{Asked}
use Rattle.rv_step.specs.Step.{Progress, Going, Over, answered, delivered}
use Rattle.rv_step.specs.Run.{RunView, after_answer, asked_key, standing_at}
use Rattle.stm_state.specs.declared.state.Task.{Task}
use Rattle.stm_state.specs.declared.state.Task.TheVariants.{Idle, Running}
use Rattle.stm_state.specs.State.{State, task_at}
use Rattle.stm_state.specs.Steps.{Block, ReadKey, answered_by, answered_with, counted, one_step, after_read_key, step_with, worker_step}
use Rattle.stm_state.proofs.Tests.{equal_itself}
use Rattle.stm_state.proofs.InvariantKept.{same_state}
use Rattle.stm_core.specs.CoreState.{read_result_by, read_result_of, runs}
use Rattle.stm_core.specs.Driving.{IsRunOf}
use Rattle.stm_core.specs.declared.next_step.ReadResult.{ReadResult}
use Rattle.stm_core.specs.declared.next_step.ReadResult.TheVariants as read_result

-- a step keeps the call and the answers
kept_call : (progress : Progress) (r : RunView) → (standing_at progress r).call ≡ r.call
kept_call (Going t) r = refl
kept_call (Over end out t) r = refl

kept_answers : (progress : Progress) (r : RunView) → (standing_at progress r).answers ≡ r.answers
kept_answers (Going t) r = refl
kept_answers (Over end out t) r = refl

abbrev value_in : ReadResult → Option (List ℕ)
value_in (read_result.Given value from) = value
value_in read_result.Blocked = None

abbrev origin_of : ReadResult → Origin
origin_of (read_result.Given value from) = from
origin_of read_result.Blocked = base_origin

no_answer : (value : Option (List ℕ)) (from : Origin) → read_result.Given value from ≡ read_result.Blocked → ⊥
no_answer value from e = cc

module _ (block : Block) (calls : List Invocation) (w : ℕ) (key : List ℕ) (value : Option (List ℕ)) (from : Origin) (old new : RunView) (asked : old.stage ≡ Asked key) (is : IfSome (asked_key old.stage) (λ k. new ≡ after_answer k value from old)) where
  abbrev given : StorageAnswer
  given = record { key = key; value = value; origin = from }

  abbrev before : RunView
  before = record old { answers = old.answers ++ given ∷ [] }

  after : new ≡ after_answer key value from old
  after = subst (λ (s : Stage). IfSome (asked_key s) (λ k. new ≡ after_answer k value from old)) asked is

  same_call : new.call ≡ old.call
  same_call = ap (λ (r : RunView). r.call) after ∙ kept_call (answered old.machine (delivered old.machine key value)) before

  one_more : new.answers ≡ old.answers ++ given ∷ []
  one_more = ap (λ (r : RunView). r.answers) after ∙ kept_answers (answered old.machine (delivered old.machine key value)) before

  more : (answers : List StorageAnswer) → old.answers ≡ answers → (result : ReadResult) → read_result.Given value from ≡ result → new.answers ≡ answers ++ record { key = key; value = value_in result; origin = origin_of result } ∷ []
  more answers same result e =
      one_more
      ∙ ap (λ (xs : List StorageAnswer). xs ++ given ∷ []) same
      ∙ ap (λ (r : ReadResult). answers ++ record { key = key; value = value_in r; origin = origin_of r } ∷ []) e

  seen_fits : (i : ℕ) (answers : List StorageAnswer) → slice_get calls i ≡ Some old.call → old.answers ≡ answers → (seen : Visible) → read_result.Given value from ≡ read_result_of block.base key seen → IsRunOf calls new (answered_with block.base key i answers seen)
  seen_fits i answers call same seen = go (blocker seen)
    where
      go : (o : Option ℕ) → read_result.Given value from ≡ read_result_by block.base key seen o → IsRunOf calls new (answered_by block.base key i answers seen o)
      go None e = (call ∙ ap Some (sym same_call), more answers same (read_result_by block.base key seen None) e)
      go (Some b) e = absurd (no_answer value from e)

  module _ (s t : State) (worker : w < length s.tasks) where
    task_after : (i : ℕ) (answers : List StorageAnswer) → task_at (counted one_step w (after_read_key block.base key w i answers s)) w ≡ answered_with block.base key i answers (reading s.versions key i)
    task_after i answers = get_or-set_same s.tasks w (answered_with block.base key i answers (reading s.versions key i)) Idle worker

    fits_with : (task : Task) → step_with block w task (ReadKey key) s ≡ Some (Ok t) → IsRunOf calls old task → ((i : ℕ) → runs task i ≡ true → read_result.Given value from ≡ read_result_of block.base key (reading s.versions key i)) → IsRunOf calls new (task_at t w)
    fits_with (Running i answers None) k fits told =
        subst (λ (x : State). IsRunOf calls new (task_at x w)) (same_state _ t k)
        (subst (IsRunOf calls new) (sym (task_after i answers)) (seen_fits i answers fits.0 fits.1 (reading s.versions key i) (told i (equal_itself i))))
    fits_with task k fits told = absurd fits

    -- the run fits its task after the read
    pub read_fits : worker_step block w (ReadKey key) s ≡ Some (Ok t) → IsRunOf calls old (task_at s w) → ((i : ℕ) → runs (task_at s w) i ≡ true → read_result.Given value from ≡ read_result_of block.base key (reading s.versions key i)) → IsRunOf calls new (task_at t w)
    read_fits k fits told = fits_with (task_at s w) k fits told

-- ---- what the core gives for a read

module _ (store : Storage) (key : List ℕ) (i : ℕ) (answers : List StorageAnswer) (seen : Visible) where
  -- if no estimate is met
  module _ (open_now : blocker seen ≡ None) (value : Option (List ℕ)) (from : Origin) (value_is : value_seen (map.get store key) seen ≡ value) (origin_is : origin_in seen ≡ from) where
    pub given_task : Running i (answers ++ record { key = key; value = value; origin = from } ∷ []) None ≡ answered_with store key i answers seen
    given_task =
        ap (λ v. Running i (answers ++ record { key = key; value = v; origin = from } ∷ []) None) (sym value_is)
        ∙ ap (λ o. Running i (answers ++ record { key = key; value = value_seen (map.get store key) seen; origin = o } ∷ []) None) (sym origin_is)
        ∙ ap (answered_by store key i answers seen) (sym open_now)

  -- if one is met
  pub blocked_task : (b : ℕ) → blocker seen ≡ Some b → Running i answers (Some b) ≡ answered_with store key i answers seen
  blocked_task b met = ap (answered_by store key i answers seen) (sym met)
