-- Making all calls READY that are parked on one call keeps the invariant.
use Rattle.std.proofs.Common.{◌≡◌, ◌<◌, ◌≤◌, ◌-◌, ◌≢◌, ◌⊎◌, ◌+◌, ◌&&◌, min, ℕ, zero, suc, Bool, true, false, cond, List, [], ◌∷◌, get_or, Option, None, Some, arith, refl, sym, ap, subst, ◌∙◌, inl, inr}
use Rattle.std.proofs.lemmas.Bool.{and_parts}
use Rattle.stm_state.specs.declared.state.Status.TheVariants.{Ready, Executing, Executed, Aborting}
use Rattle.stm_state.specs.declared.state.CallState.{CallState}
use Rattle.stm_state.specs.declared.state.Recorded.{Recorded}
use Rattle.stm_state.specs.declared.state.Task.TheVariants.{Moving, Validating, Marking}
use Rattle.stm_state.specs.Limits.{incarnation_limit}
use Rattle.stm_state.specs.State.{fresh, is_aborting}
use Rattle.stm_state.specs.Steps.{Block, next_incarnation, is_parked_on, is_some_of, resume_if_parked, least_parked_call}
use Rattle.stm_state.specs.Parts.{IsPast}
use Rattle.stm_state.proofs.Invariant.{View, ViewInvariant, AreSafe, IsBorneOut, IsChecked, IsMarked, IsMoved, IsUnturned, IsWaiting, entry_of, marked_by, run_by}
use Rattle.stm_state.proofs.OneCallChanges.{Grows, right_all, borne_still}
use Rattle.stm_state.proofs.SafeReads.{cover_same, safe_still}
use Rattle.stm_state.proofs.Tests.{is_aborting_says, equal_itself, equal_says}
use Rattle.stm_state.proofs.Asks.{same_entries}

-- a call is as before, or was parked on call i and becomes READY
pub readied_cases : (i : ℕ) (call : CallState) → (resume_if_parked i call ≡ call) ⊎ ((is_parked_on i call ≡ true) × (resume_if_parked i call ≡ next_incarnation call))
readied_cases i call = go (is_parked_on i call) refl
  where
    go : (b : Bool) → is_parked_on i call ≡ b → (cond (is_parked_on i call) (next_incarnation call) call ≡ call) ⊎ ((is_parked_on i call ≡ true) × (cond (is_parked_on i call) (next_incarnation call) call ≡ next_incarnation call))
    go true h = inr (h, ap (λ t. cond t (next_incarnation call) call) h)
    go false h = inl (ap (λ t. cond t (next_incarnation call) call) h)

-- a call that is parked is ABORTING
pub parked_aborting : (i : ℕ) (call : CallState) → is_parked_on i call ≡ true → call.status ≡ Aborting
parked_aborting i call h = is_aborting_says call.status (and_parts (is_aborting call.status) (is_some_of call.parked i) h).0

-- a call that is not ABORTING stays as it is
pub not_parked : (i : ℕ) (call : CallState) → call.status ≢ Aborting → resume_if_parked i call ≡ call
not_parked i call ne = elim (readied_cases i call) [ inl same ↦ same | inr q ↦ absurd (ne (parked_aborting i call q.0)) ]

-- an ABORTING call that names call i is parked on it
parked_on : (i : ℕ) (call : CallState) → call.status ≡ Aborting → call.parked ≡ Some i → is_parked_on i call ≡ true
parked_on i call h k = ap (λ st. is_aborting st && is_some_of call.parked i) h ∙ ap (λ o. is_some_of o i) k ∙ equal_itself i

-- a call that is parked on call i names it
pub parked_names : (i : ℕ) (call : CallState) → is_parked_on i call ≡ true → call.parked ≡ Some i
parked_names i call h = go call.parked refl (and_parts (is_aborting call.status) (is_some_of call.parked i) h).1
  where
    go : (o : Option ℕ) → call.parked ≡ o → is_some_of o i ≡ true → call.parked ≡ Some i
    go None at k = cc
    go (Some j) at k = at ∙ ap Some (equal_says j i k)

-- afterwards no call is parked on call i
pub none_parked : (i : ℕ) (call : CallState) → (resume_if_parked i call).status ≡ Aborting → (resume_if_parked i call).parked ≢ Some i
none_parked i call h k = elim (readied_cases i call) [
  | inl same ↦
      let was : call.status ≡ Aborting = ap (λ (c : CallState). c.status) (sym same) ∙ h in
      let on : call.parked ≡ Some i = ap (λ (c : CallState). c.parked) (sym same) ∙ k in
      let now : resume_if_parked i call ≡ next_incarnation call = ap (λ t. cond t (next_incarnation call) call) (parked_on i call was on) in
      let ready : (resume_if_parked i call).status ≡ Ready = ap (λ (c : CallState). c.status) now in cc
  | inr q ↦ let ready : (resume_if_parked i call).status ≡ Ready = ap (λ (c : CallState). c.status) q.1 in cc
]

-- ---- the execution index lowered

-- one step of lowering does not raise the index
lower_of : (b : Bool) (x p : ℕ) → cond b (min x p) x ≤ x
lower_of true x p = omega arith
lower_of false x p = omega arith

-- one step lowers the index to at most a call that is parked
lower_to : (b : Bool) (x p : ℕ) → b ≡ true → cond b (min x p) x ≤ p
lower_to true x p h = omega arith
lower_to false x p h = cc

-- the lowered index is at most the index before
pub lowered_low : (i x p : ℕ) (calls : List CallState) → least_parked_call i x p calls ≤ x
lowered_low i x p [] = omega arith
lowered_low i x p (call ∷ calls) =
    let rest = lowered_low i (cond (is_parked_on i call) (min x p) x) (p + 1) calls in
    let low = lower_of (is_parked_on i call) x p in omega (arith, rest, low)

-- the lowered index is at most each call that is parked
pub lowered_at : (i x p : ℕ) (calls : List CallState) (k : ℕ) → is_parked_on i (get_or calls k fresh) ≡ true → least_parked_call i x p calls ≤ p + k
lowered_at i x p [] k h = cc
lowered_at i x p (call ∷ calls) zero h =
    let rest = lowered_low i (cond (is_parked_on i call) (min x p) x) (p + 1) calls in
    let low = lower_to (is_parked_on i call) x p h in omega (arith, rest, low)
lowered_at i x p (call ∷ calls) (suc k) h =
    let rest = lowered_at i (cond (is_parked_on i call) (min x p) x) (p + 1) calls k h in omega (arith, rest)

-- ---- the invariant

-- a view in which all calls that were parked on call i are READY
abbrev pub woken_view : View → ℕ → ℕ → View
woken_view v i execution = record { calls = λ j. resume_if_parked i (v.calls j); tasks = v.tasks; entries = v.entries; execution = execution; validation = v.validation }

module _ (block : Block) (v : View) (i execution : ℕ) (f : ViewInvariant block v) (low : execution ≤ v.execution) (least : (j : ℕ) → is_parked_on i (v.calls j) ≡ true → execution ≤ j) where
  abbrev now : View
  now = woken_view v i execution

  -- what holds of a call as it was, and of a parked call once it is READY, holds of the call now
  woken_calls : (j : ℕ) (P : CallState → Type 0) → P (v.calls j) → (is_parked_on i (v.calls j) ≡ true → (v.calls j).status ≡ Aborting → P (next_incarnation (v.calls j))) → P (resume_if_parked i (v.calls j))
  woken_calls j P h k = elim (readied_cases i (v.calls j)) [
    | inl same ↦ subst P (sym same) h
    | inr q ↦ subst P (sym q.1) (k q.0 (parked_aborting i (v.calls j) q.0))
  ]

  -- ---- each part of the invariant afterwards

  -- READY calls are at or above the execution index
  woken_ready : (j : ℕ) → (resume_if_parked i (v.calls j)).status ≡ Ready → execution ≤ j
  woken_ready j = woken_calls j (λ call. call.status ≡ Ready → execution ≤ j) (λ h. let r = f.ready j h in omega (arith, r)) (λ on _ _. least j on)

  -- some worker runs each EXECUTING call
  woken_executing : (j : ℕ) → (resume_if_parked i (v.calls j)).status ≡ Executing → (x : ℕ) × (run_by (v.tasks x) ≡ Some j)
  woken_executing j = woken_calls j (λ call. call.status ≡ Executing → (x : ℕ) × (run_by (v.tasks x) ≡ Some j)) (f.executing j) (λ _ _ h. cc)

  -- calls that a worker runs are EXECUTING
  woken_running : (x j : ℕ) → run_by (v.tasks x) ≡ Some j → (resume_if_parked i (v.calls j)).status ≡ Executing
  woken_running x j h = woken_calls j (λ call. call.status ≡ Executing) (f.running x j h) (λ _ aborts. let r = f.running x j h in cc)

  -- ABORTING calls still wait for a lower call that is not EXECUTED, or are marked
  woken_waits : (j : ℕ) → (resume_if_parked i (v.calls j)).status ≡ Aborting
      → ((b : ℕ) × ((resume_if_parked i (v.calls j)).parked ≡ Some b) × (b < j) × ((resume_if_parked i (v.calls b)).status ≢ Executed)) ⊎ ((x : ℕ) × (marked_by (v.tasks x) ≡ Some j))
  woken_waits j = woken_calls j (λ call. call.status ≡ Aborting → ((b : ℕ) × (call.parked ≡ Some b) × (b < j) × ((resume_if_parked i (v.calls b)).status ≢ Executed)) ⊎ ((x : ℕ) × (marked_by (v.tasks x) ≡ Some j)))
      (λ h. elim (f.aborting j h) [
        | inl old ↦ inl (old.on, old.parked, old.lower, woken_calls old.on (λ call. call.status ≢ Executed) old.not_done (λ _ _ k. cc))
        | inr marks ↦ inr marks
      ])
      (λ _ _ h. cc)

  -- ABORTING calls wait or are marked
  woken_aborting : (j : ℕ) → (resume_if_parked i (v.calls j)).status ≡ Aborting → IsWaiting now j ⊎ ((x : ℕ) × (marked_by (v.tasks x) ≡ Some j))
  woken_aborting j h = elim (woken_waits j h) [ inl q ↦ inl (record { on = q.0; parked = q.1; lower = q.2; not_done = q.3 }) | inr marks ↦ inr marks ]

  -- only ABORTING calls are parked
  woken_unparked : (j : ℕ) → (resume_if_parked i (v.calls j)).status ≢ Aborting → (resume_if_parked i (v.calls j)).parked ≡ None
  woken_unparked j = woken_calls j (λ call. call.status ≢ Aborting → call.parked ≡ None) (f.unparked j) (λ _ _ _. refl)

  -- incarnations are at most 65,535
  woken_limit : (j : ℕ) → (resume_if_parked i (v.calls j)).incarnation ≤ incarnation_limit
  woken_limit j = woken_calls j (λ call. call.incarnation ≤ incarnation_limit) (f.limit j) (λ _ aborts. let r = f.aborting_limit j aborts in omega (arith, r))

  -- those of EXECUTED calls are at most 65,534
  woken_executed_limit : (j : ℕ) → (resume_if_parked i (v.calls j)).status ≡ Executed → (resume_if_parked i (v.calls j)).incarnation ≤ incarnation_limit - 1
  woken_executed_limit j = woken_calls j (λ call. call.status ≡ Executed → call.incarnation ≤ incarnation_limit - 1) (f.executed_limit j) (λ _ _ h. cc)

  -- those of ABORTING calls are at most 65,534
  woken_aborting_limit : (j : ℕ) → (resume_if_parked i (v.calls j)).status ≡ Aborting → (resume_if_parked i (v.calls j)).incarnation ≤ incarnation_limit - 1
  woken_aborting_limit j = woken_calls j (λ call. call.status ≡ Aborting → call.incarnation ≤ incarnation_limit - 1) (f.aborting_limit j) (λ _ _ h. cc)

  -- entries are those of the calls, if no worker turns their keys
  woken_entries : (j : ℕ) (key : List ℕ) → IsUnturned v j → v.entries key j ≡ entry_of (resume_if_parked i (v.calls j)) key
  woken_entries j key free = woken_calls j (λ call. v.entries key j ≡ entry_of call key) (f.entries j key free) (λ _ aborts. same_entries block v f j (λ h. cc) free key)

  -- a call whose keys are moved is EXECUTING, so it stays
  woken_moving : (x j : ℕ) (keys : List (List ℕ)) (new : Bool) → v.tasks x ≡ Moving j keys new → IsMoved (resume_if_parked i (v.calls j)) (λ key. v.entries key j) keys new
  woken_moving x j keys new h = woken_calls j (λ call. IsMoved call (λ key. v.entries key j) keys new) (f.moving x j keys new h) (λ _ aborts. let r = f.running x j (ap run_by h) in cc)

  -- a call whose keys are marked is not parked, so it stays
  woken_marking : (x j : ℕ) (keys : List (List ℕ)) → v.tasks x ≡ Marking j keys → IsMarked (resume_if_parked i (v.calls j)) (λ key. v.entries key j) keys
  woken_marking x j keys h = woken_calls j (λ call. IsMarked call (λ key. v.entries key j) keys) (f.marking x j keys h)
      (λ on _. let names = parked_names i (v.calls j) on in let none = (f.marking x j keys h).unparked in cc)

  -- EXECUTED calls have a recorded run
  woken_executed : (j : ℕ) → (resume_if_parked i (v.calls j)).status ≡ Executed → (run : Recorded) × ((resume_if_parked i (v.calls j)).last ≡ Some run)
  woken_executed j = woken_calls j (λ call. call.status ≡ Executed → (run : Recorded) × (call.last ≡ Some run)) (f.executed j) (λ _ _ h. cc)

  -- incarnations do not fall, and versions stay
  pub woken_grows : Grows v (woken_view v i execution)
  woken_grows = record {
    incarnations = λ j. woken_calls j (λ call. (v.calls j).incarnation ≤ call.incarnation) (omega arith) (λ _ _. omega arith);
    past = λ j n h. woken_calls j (λ call. IsPast call n) h (λ _ _. elim h [ inl old ↦ inl (omega (arith, old)) | inr q ↦ let same = q.0 in inl (omega (arith, same)) ]);
    versions = λ key j n c h. inl h;
    known = λ key j n c h. inl h;
  }

  -- recorded runs are borne out
  woken_recorded : (j : ℕ) (run : Recorded) → (resume_if_parked i (v.calls j)).last ≡ Some run → IsBorneOut block now j run
  woken_recorded j run h = borne_still block v now woken_grows j run (woken_calls j (λ call. call.last ≡ Some run → IsBorneOut block v j run) (f.recorded j run) (λ _ _. f.recorded j run) h)

  -- validations are of incarnations that the calls had
  woken_validating : (x j n left : ℕ) (failed : Bool) → v.tasks x ≡ Validating j n left failed → n ≤ (resume_if_parked i (v.calls j)).incarnation
  woken_validating x j n left failed h = let old = f.validating x j n left failed h in let more = woken_grows.incarnations j in omega (arith, old, more)

  -- if a validation is at its call's present incarnation, the call is EXECUTED with enough reads, or ABORTING and not parked
  woken_current : (x j left : ℕ) (failed : Bool) → v.tasks x ≡ Validating j (resume_if_parked i (v.calls j)).incarnation left failed → IsChecked (resume_if_parked i (v.calls j)) left
  woken_current x j left failed = woken_calls j (λ call. v.tasks x ≡ Validating j call.incarnation left failed → IsChecked call left)
      (f.current x j left failed)
      (λ _ _ h. let over = f.validating x j ((v.calls j).incarnation + 1) left failed h in absurd (omega (arith, over)))

  -- reads stay safe
  woken_safe : (j : ℕ) → (resume_if_parked i (v.calls j)).status ≡ Executed → j < v.validation → AreSafe now j
  woken_safe j h l = elim (readied_cases i (v.calls j)) [
    | inl same ↦ safe_still v now j same (λ read k. k) (λ place read at covered. inr (cover_same v now j same (λ x. refl) place covered)) (f.safe j (ap (λ (call : CallState). call.status) (sym same) ∙ h) l)
    | inr q ↦ let ready : (resume_if_parked i (v.calls j)).status ≡ Ready = ap (λ (call : CallState). call.status) q.1 in cc
  ]

  -- the invariant is kept
  pub woken_facts : ViewInvariant block (woken_view v i execution)
  woken_facts = record {
    execution_within = let within = f.execution_within in omega (arith, within);
    validation_within = f.validation_within;
    named = f.named;
    ready = woken_ready;
    executing = woken_executing;
    running = woken_running;
    alone = f.alone;
    blocked = f.blocked;
    aborting = woken_aborting;
    unparked = woken_unparked;
    limit = woken_limit;
    executed_limit = woken_executed_limit;
    aborting_limit = woken_aborting_limit;
    entries = woken_entries;
    moving = woken_moving;
    marking = woken_marking;
    executed = woken_executed;
    recorded = woken_recorded;
    answered = λ x j answers waits h. right_all block v now woken_grows j answers (f.answered x j answers waits h);
    validating = woken_validating;
    current = woken_current;
    safe = woken_safe;
  }
