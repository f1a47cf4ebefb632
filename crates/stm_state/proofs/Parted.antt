-- The four parts of the invariant, from its facts.
use Rattle.std.proofs.Common.{◌≡◌, ◌≢◌, ◌<◌, ◌⊎◌, ℕ, Bool, true, false, option_map, List, [], ◌∷◌, Some, refl, sym, ap, ◌∙◌, inl, inr}
use Rattle.std.specs.List.{AllByRecursion}
use Rattle.std.proofs.lemmas.Bool.{cases_lt}
use Rattle.rv_ledger.specs.Change.{ContentChange}
use Rattle.rv_step.specs.declared.answer.StorageAnswer.{StorageAnswer}
use Rattle.mvmap.specs.Versions.{Stands, entry_at}
use Rattle.stm_state.specs.declared.state.Status.{Status}
use Rattle.stm_state.specs.declared.state.Status.TheVariants.{Ready, Executing, Executed, Aborting}
use Rattle.stm_state.specs.declared.state.Task.{Task}
use Rattle.stm_state.specs.declared.state.Task.TheVariants.{Running, Moving, Marking}
use Rattle.stm_state.specs.State.{State, call_at, task_at}
use Rattle.stm_state.specs.Steps.{Block, write_of}
use Rattle.stm_state.specs.Parts.{HoldsWhereReached, SizesStay, IsExecutingRun, runs, moves, CallsAreAttended, IsOfUnfinishedRecord, OthersHaveEstimates, IsOfUnfinishedAbort, IsTakenBack, IsBehindNewKey, IsBehindAbort, IsToBeMet, ReadsAreWatched, IsTrueAnswer, RunsAreBorneOut, has_key}
use Rattle.stm_state.proofs.Invariant.{view_of, ViewInvariant, IsCovered, IsRightAnswer, IsUnturned, IsWaiting, validated, ahead, lowered_by, marked_by, owned_by, run_by, turned_by}
use Rattle.stm_state.proofs.OneCallChanges.{owned_status, turned_owned, unturned, unturned_run}
use Rattle.stm_state.proofs.Asks.{same_entries, executed_entries}
use Rattle.stm_state.proofs.Writes.{no_version, version_is}
use Rattle.stm_state.proofs.InvariantKept.{invariant_kept}

-- a worker that has a call runs it or moves its keys
run_of : (s : State) (w i : ℕ) (task : Task) → task_at s w ≡ task → run_by task ≡ Some i → IsExecutingRun s i
run_of s w i (Running j answers waits) at h = runs w answers waits (let same : j ≡ i = cc in at ∙ ap (λ x. Running x answers waits) same)
run_of s w i (Moving j keys new) at h = moves w keys new (let same : j ≡ i = cc in at ∙ ap (λ x. Moving x keys new) same)
run_of s w i task at h = cc

-- a worker that marks a call's keys aborts the call
taken_back_of : (s : State) (w i : ℕ) (task : Task) → task_at s w ≡ task → marked_by task ≡ Some i → IsTakenBack s i
taken_back_of s w i (Marking j keys) at h = record { worker = w; keys = keys; task = let same : j ≡ i = cc in at ∙ ap (λ x. Marking x keys) same }
taken_back_of s w i task at h = cc

-- a worker whose task lowers the validation index has an unfinished record with a new key, or an unfinished abort, of a lower
-- call
behind_of : (s : State) (w i j : ℕ) (task : Task) → task_at s w ≡ task → lowered_by task ≡ Some j → j < i → IsBehindNewKey s i ⊎ IsBehindAbort s i
behind_of s w i j (Moving x keys true) at h low = inl (record { worker = w; call = j; keys = keys; task = let same : x ≡ j = cc in at ∙ ap (λ y. Moving y keys true) same; lower = low })
behind_of s w i j (Marking x keys) at h low = inr (record { call = j; taken_back = record { worker = w; keys = keys; task = let same : x ≡ j = cc in at ∙ ap (λ y. Marking y keys) same }; lower = low })
behind_of s w i j task at h low = cc

module _ (block : Block) (s : State) (f : ViewInvariant block (view_of s)) where
  -- part 1
  pub attended : CallsAreAttended block s
  attended = record {
    ready = f.ready;
    executing = λ i h. let run = f.executing i h in run_of s run.0 i (task_at s run.0) refl run.1;
    aborting = λ i h. elim (f.aborting i h) [
      | inl wait ↦ inr (record { on = wait.on; parked = wait.parked; lower = wait.lower; not_done = wait.not_done })
      | inr marks ↦ inl (taken_back_of s marks.0 i (task_at s marks.0) refl marks.1)
    ];
  }

  -- a call that is not EXECUTED and whose keys no worker turns has no version
  none_unturned : (i : ℕ) → (call_at s i).status ≢ Executed → IsUnturned (view_of s) i → (key : List ℕ) (n : ℕ) (c : ContentChange) → entry_at s.versions key i ≢ Some (Stands n c)
  none_unturned i ne free key n c h = no_version (write_of (call_at s i).last key) n c (sym (same_entries block (view_of s) f i ne free key) ∙ h)

  -- a version of a call whose keys are moved is one of its unfinished record
  of_unfinished : (w i : ℕ) (keys : List (List ℕ)) (new : Bool) → task_at s w ≡ Moving i keys new → (key : List ℕ) (n : ℕ) (c : ContentChange) → entry_at s.versions key i ≡ Some (Stands n c) → IsOfUnfinishedRecord s i key n c
  of_unfinished w i keys new at key n c h = go (has_key key keys) refl
    where
      go : (b : Bool) → has_key key keys ≡ b → IsOfUnfinishedRecord s i key n c
      go true left = elim ((f.moving w i keys new at).unmoved key left) [ inl estimate ↦ cc | inr none ↦ let is_none = none.0 in cc ]
      go false moved = elim ((f.moving w i keys new at).amid key) [
        | inl there ↦ let is = version_is (write_of (call_at s i).last key) (call_at s i).incarnation n c (sym there ∙ h) in record { worker = w; keys = keys; new = new; task = at; incarnation = is.0; written = is.1; published = moved }
        | inr q ↦ let left = q.0 in cc
      ]

  -- a version of an EXECUTING call is one of its unfinished record
  of_executing : (i : ℕ) → (call_at s i).status ≡ Executing → IsExecutingRun s i → (key : List ℕ) (n : ℕ) (c : ContentChange) → entry_at s.versions key i ≡ Some (Stands n c) → IsOfUnfinishedRecord s i key n c
  of_executing i is (runs w answers waits at) key n c h = absurd (none_unturned i (λ done. cc) (unturned_run block (view_of s) f i w (ap owned_by at) (ap turned_by at)) key n c h)
  of_executing i is (moves w keys new at) key n c h = of_unfinished w i keys new at key n c h

  -- a version of a call whose keys are marked must still be turned
  of_taken_back : (w i : ℕ) (keys : List (List ℕ)) → task_at s w ≡ Marking i keys → (key : List ℕ) (n : ℕ) (c : ContentChange) → entry_at s.versions key i ≡ Some (Stands n c) → IsOfUnfinishedAbort s i key n
  of_taken_back w i keys at key n c h = elim ((f.marking w i keys at).amid key) [
    | inl there ↦ absurd (no_version (write_of (call_at s i).last key) n c (sym there ∙ h))
    | inr q ↦ let version = q.1.1 in record { worker = w; keys = keys; task = at; incarnation = cc; left = q.0 }
  ]

  -- no worker turns the keys of an ABORTING call that waits
  waiting_unturned : (i : ℕ) → (call_at s i).status ≡ Aborting → IsWaiting (view_of s) i → IsUnturned (view_of s) i
  waiting_unturned i is wait w h = elim (owned_status block (view_of s) f w i (task_at s w) refl (turned_owned (task_at s w) i h)) [ inl other ↦ cc | inr none ↦ let unparked = none.1 in let parked = wait.parked in cc ]

  -- a version of an ABORTING call is one of its unfinished abort
  of_aborting : (i : ℕ) → (call_at s i).status ≡ Aborting → (key : List ℕ) (n : ℕ) (c : ContentChange) → entry_at s.versions key i ≡ Some (Stands n c) → IsOfUnfinishedAbort s i key n
  of_aborting i is key n c h = elim (f.aborting i is) [
    | inl wait ↦ absurd (none_unturned i (λ done. cc) (waiting_unturned i is wait) key n c h)
    | inr marks ↦ let taken = taken_back_of s marks.0 i (task_at s marks.0) refl marks.1 in of_taken_back taken.worker i taken.keys taken.task key n c h
  ]

  -- part 2
  pub estimates : OthersHaveEstimates block s
  estimates i ne key n c h = go (call_at s i).status refl
    where
      go : (st : Status) → (call_at s i).status ≡ st → IsOfUnfinishedRecord s i key n c ⊎ IsOfUnfinishedAbort s i key n
      go Ready is = absurd (none_unturned i ne (unturned block (view_of s) f i (λ e. cc) (λ e. cc)) key n c h)
      go Executing is = inl (of_executing i is (attended.executing i is) key n c h)
      go Executed is = absurd (ne is)
      go Aborting is = inr (of_aborting i is key n c h)

  -- some worker's task meets each read that must still be met
  to_be_met : (i place : ℕ) → IsCovered (view_of s) i place → IsToBeMet s i place
  to_be_met i place (validated w left failed task meets) = inl (record { worker = w; left = left; failed = failed; task = task; meets = meets })
  to_be_met i place (ahead q) = inr (behind_of s q.worker i q.call (task_at s q.worker) refl q.task q.lower)

  -- part 3
  pub watched : ReadsAreWatched block s
  watched i h = elim (cases_lt i s.validation) [
    | inl low ↦ inr (λ place read at. elim (f.safe i h low place read at) [ inl stand ↦ inl stand | inr covered ↦ inr (to_be_met i place covered) ])
    | inr high ↦ inl high
  ]

  -- right answers are true
  true_all : (i : ℕ) (answers : List StorageAnswer) → AllByRecursion (IsRightAnswer block (view_of s) i) answers → AllByRecursion (IsTrueAnswer block s i) answers
  true_all i [] h = tt
  true_all i (x ∷ xs) h = ((h.0.value_is, h.0.known), true_all i xs h.1)

  -- part 4
  pub borne_out : RunsAreBorneOut block s
  borne_out = record {
    recorded = λ i run h. let b = f.recorded i run h in record { answers = b.answers; reads = b.reads; borne_out = b.borne_out; true_answers = true_all i b.answers b.right };
    going_on = λ w i answers waits h. true_all i answers (f.answered w i answers waits h);
    published = λ i h. let run = f.executed i h in record {
      run = run.0;
      last = run.1;
      entries = λ key. executed_entries block (view_of s) f i h key ∙ ap (λ last. option_map (λ c. Stands (call_at s i).incarnation c) (write_of last key)) run.1;
    };
  }

-- in each state that is reached the sizes are those of the start, and the four parts hold
pub sizes_kept : SizesStay
sizes_kept block workers s reached = (invariant_kept block workers s reached).sized

pub attended_kept : HoldsWhereReached CallsAreAttended
attended_kept block workers s reached = attended block s (invariant_kept block workers s reached).facts

pub estimates_kept : HoldsWhereReached OthersHaveEstimates
estimates_kept block workers s reached = estimates block s (invariant_kept block workers s reached).facts

pub watched_kept : HoldsWhereReached ReadsAreWatched
watched_kept block workers s reached = watched block s (invariant_kept block workers s reached).facts

pub borne_out_kept : HoldsWhereReached RunsAreBorneOut
borne_out_kept block workers s reached = borne_out block s (invariant_kept block workers s reached).facts
