-- What a worker's task of call i leaves as it is.
use Rattle.std.proofs.Common.{◌≡◌, ◌≢◌, ◌<◌, ◌≤◌, ◌⊎◌, ◌+◌, min, ℕ, zero, suc, Bool, true, false, cond, List, [], ◌∷◌, get_or, Option, arith, refl, sym, ap, subst, ◌∙◌, inl, inr}
use Rattle.std.proofs.lemmas.Bool.{cases_lt}
use Rattle.std.proofs.lemmas.List.{get_or-set_other}
use Rattle.rv_ledger.specs.declared.outcome.Counts.{Counts}
use Rattle.mvmap.specs.Versions.{Entry, changed, entry_at}
use Rattle.stm_state.specs.declared.state.Status.TheVariants.{Ready, Aborting}
use Rattle.stm_state.specs.declared.state.CallState.{CallState}
use Rattle.stm_state.specs.declared.state.Task.{Task}
use Rattle.stm_state.specs.declared.state.Task.TheVariants.{Idle}
use Rattle.stm_state.specs.State.{State, fresh, call_at, task_at, with_call, with_task}
use Rattle.stm_state.specs.Steps.{counted, next_incarnation, is_parked_on, least_parked_call}
use Rattle.stm_state.proofs.Writes.{changed_other}

-- ---- three relations of states, each weaker than the one before

-- only worker w's task changes, and what is counted
pub record OnlyTask (w : ℕ) (s t : State) : Type 0 where
  pub calls : t.calls ≡ s.calls
  pub versions : t.versions ≡ s.versions
  pub tasks : (x : ℕ) → x ≢ w → task_at t x ≡ task_at s x
  pub execution : t.execution ≡ s.execution
  pub validation : t.validation ≡ s.validation

-- beside them only call i changes, and its entries
pub record OnlyCall (w i : ℕ) (s t : State) : Type 0 where
  pub calls : (j : ℕ) → j ≢ i → call_at t j ≡ call_at s j
  pub entries : (key : List ℕ) (j : ℕ) → j ≢ i → entry_at t.versions key j ≡ entry_at s.versions key j
  pub tasks : (x : ℕ) → x ≢ w → task_at t x ≡ task_at s x
  pub execution : t.execution ≡ s.execution
  pub validation : t.validation ≡ s.validation

-- a call stays, or it was ABORTING and is readied
abbrev pub Stays : CallState → CallState → Type 0
Stays before after = (after ≡ before) ⊎ ((before.status ≡ Aborting) × (after ≡ next_incarnation before))

-- the execution index stays, or is lowered to a call other than i that was ABORTING
abbrev pub IsAtMostLowered : ℕ → State → ℕ → Type 0
IsAtMostLowered i s execution = (execution ≡ s.execution) ⊎ ((execution < s.execution) × (execution ≢ i) × ((call_at s execution).status ≡ Aborting))

-- beside them ABORTING calls may be readied, with the execution index lowered to one of them; and the validation index may be
-- lowered, but not below i
pub record Kept (w i : ℕ) (s t : State) : Type 0 where
  pub calls : (j : ℕ) → j ≢ i → Stays (call_at s j) (call_at t j)
  pub entries : (key : List ℕ) (j : ℕ) → j ≢ i → entry_at t.versions key j ≡ entry_at s.versions key j
  pub tasks : (x : ℕ) → x ≢ w → task_at t x ≡ task_at s x
  pub execution : IsAtMostLowered i s t.execution
  pub not_raised : t.validation ≤ s.validation
  pub not_below : min s.validation i ≤ t.validation

pub task_call : (w i : ℕ) (s t : State) → OnlyTask w s t → OnlyCall w i s t
task_call w i s t h = record {
  calls = λ j ne. ap (λ calls. get_or calls j fresh) h.calls;
  entries = λ key j ne. ap (λ versions. entry_at versions key j) h.versions;
  tasks = h.tasks;
  execution = h.execution;
  validation = h.validation;
}

pub call_kept : (w i : ℕ) (s t : State) → OnlyCall w i s t → Kept w i s t
call_kept w i s t h = record {
  calls = λ j ne. inl (h.calls j ne);
  entries = h.entries;
  tasks = h.tasks;
  execution = inl h.execution;
  not_raised = let same = h.validation in omega (arith, same);
  not_below = let same = h.validation in omega (arith, same);
}

pub task_kept : (w i : ℕ) (s t : State) → OnlyTask w s t → Kept w i s t
task_kept w i s t h = call_kept w i s t (task_call w i s t h)

-- ---- one after another

pub task_on : (w : ℕ) (s t u : State) → OnlyTask w s t → OnlyTask w t u → OnlyTask w s u
task_on w s t u h k = record {
  calls = k.calls ∙ h.calls;
  versions = k.versions ∙ h.versions;
  tasks = λ x ne. k.tasks x ne ∙ h.tasks x ne;
  execution = k.execution ∙ h.execution;
  validation = k.validation ∙ h.validation;
}

pub call_on : (w i : ℕ) (s t u : State) → OnlyCall w i s t → OnlyCall w i t u → OnlyCall w i s u
call_on w i s t u h k = record {
  calls = λ j ne. k.calls j ne ∙ h.calls j ne;
  entries = λ key j ne. k.entries key j ne ∙ h.entries key j ne;
  tasks = λ x ne. k.tasks x ne ∙ h.tasks x ne;
  execution = k.execution ∙ h.execution;
  validation = k.validation ∙ h.validation;
}

-- a call that is readied is not ABORTING
readied_is : (before after : CallState) → after ≡ next_incarnation before → after.status ≢ Aborting
readied_is before after e h = let ready : after.status ≡ Ready = ap (λ (c : CallState). c.status) e in cc

-- a call that is ABORTING afterwards was so
still_aborting : (before after : CallState) → Stays before after → after.status ≡ Aborting → before.status ≡ Aborting
still_aborting before after (inl same) h = ap (λ (c : CallState). c.status) (sym same) ∙ h
still_aborting before after (inr readied) h = readied.0

pub stays_on : (a b c : CallState) → Stays a b → Stays b c → Stays a c
stays_on a b c (inl same) k = subst (λ x. Stays x c) same k
stays_on a b c (inr readied) (inl same) = inr (readied.0, same ∙ readied.1)
stays_on a b c (inr readied) (inr again) = absurd (readied_is a b readied.1 again.0)

-- an index that is at most lowered is not raised
not_higher : (i : ℕ) (s : State) (execution : ℕ) → IsAtMostLowered i s execution → execution ≤ s.execution
not_higher i s execution (inl same) = omega (arith, same)
not_higher i s execution (inr lower) = let less = lower.0 in omega (arith, less)

module _ (w i : ℕ) (s t u : State) (h : Kept w i s t) (k : Kept w i t u) where
  lowered_on : IsAtMostLowered i t u.execution → IsAtMostLowered i s u.execution
  lowered_on (inl same) = subst (IsAtMostLowered i s) (sym same) h.execution
  lowered_on (inr lower) =
      let less = lower.0 in
      let most = not_higher i s t.execution h.execution in
      inr (omega (arith, less, most), lower.1, still_aborting (call_at s u.execution) (call_at t u.execution) (h.calls u.execution lower.1) lower.2)

  pub kept_on : Kept w i s u
  kept_on = record {
    calls = λ j ne. stays_on (call_at s j) (call_at t j) (call_at u j) (h.calls j ne) (k.calls j ne);
    entries = λ key j ne. k.entries key j ne ∙ h.entries key j ne;
    tasks = λ x ne. k.tasks x ne ∙ h.tasks x ne;
    execution = lowered_on k.execution;
    not_raised = let first = h.not_raised in let second = k.not_raised in omega (arith, first, second);
    not_below = let first = h.not_below in let second = k.not_below in omega (arith, first, second);
  }

-- ---- changes of a task and of a call

-- another task of the worker
pub new_task : (w : ℕ) (add : Counts → Counts) (task : Task) (s : State) → OnlyTask w s (counted add w (with_task w task s))
new_task w add task s = record { calls = refl; versions = refl; tasks = λ x ne. get_or-set_other s.tasks w x task Idle ne; execution = refl; validation = refl }

-- another task of the worker and another call i
pub new_call : (w i : ℕ) (add : Counts → Counts) (task : Task) (call : CallState) (s : State) → OnlyCall w i s (counted add w (with_task w task (with_call i call s)))
new_call w i add task call s = record {
  calls = λ j ne. get_or-set_other s.calls i j call fresh ne;
  entries = λ key j ne. refl;
  tasks = λ x ne. get_or-set_other s.tasks w x task Idle ne;
  execution = refl;
  validation = refl;
}

-- another task of the worker and another entry of call i
pub new_entry : (w i : ℕ) (add : Counts → Counts) (task : Task) (key : List ℕ) (entry : Option Entry) (s : State) → OnlyCall w i s (counted add w (with_task w task (record s { versions = changed s.versions (key, i) entry })))
new_entry w i add task key entry s = record {
  calls = λ j ne. refl;
  entries = λ k j ne. changed_other s.versions key i entry k j ne;
  tasks = λ x ne. get_or-set_other s.tasks w x task Idle ne;
  execution = refl;
  validation = refl;
}

-- ---- the call to which an index is lowered

-- an index stays, or is lowered to a call that is parked on call i; the first call of the list has number p
abbrev pub IsLoweredTo : (i x p : ℕ) → List CallState → ℕ → Type 0
IsLoweredTo i x p calls y = (y ≡ x) ⊎ ((y < x) × ((k : ℕ) × (y ≡ p + k) × (is_parked_on i (get_or calls k fresh) ≡ true)))

-- one call more at the head of the list
lowered_joined : (i x p y : ℕ) (call : CallState) (calls : List CallState) (b : Bool) → is_parked_on i call ≡ b → IsLoweredTo i (cond b (min x p) x) (p + 1) calls y → IsLoweredTo i x p (call ∷ calls) y
lowered_joined i x p y call calls true on (inl same) = elim (cases_lt p x) [ inl less ↦ inr (omega (arith, same, less), (zero, omega (arith, same, less), on)) | inr more ↦ inl (omega (arith, same, more)) ]
lowered_joined i x p y call calls true on (inr lower) = let less = lower.0 in let at = lower.1.1 in inr (omega (arith, less), (suc lower.1.0, omega (arith, at), lower.1.2))
lowered_joined i x p y call calls false off (inl same) = inl same
lowered_joined i x p y call calls false off (inr lower) = let at = lower.1.1 in inr (lower.0, (suc lower.1.0, omega (arith, at), lower.1.2))

pub lowered_is : (i x p : ℕ) (calls : List CallState) → IsLoweredTo i x p calls (least_parked_call i x p calls)
lowered_is i x p [] = inl refl
lowered_is i x p (call ∷ calls) =
    lowered_joined i x p (least_parked_call i (cond (is_parked_on i call) (min x p) x) (p + 1) calls) call calls (is_parked_on i call) refl (lowered_is i (cond (is_parked_on i call) (min x p) x) (p + 1) calls)
