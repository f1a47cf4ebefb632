-- Incarnations do not fall, so a call whose incarnation is at the limit is never EXECUTED.
use Rattle.std.proofs.Common.{◌≡◌, ◌≤◌, ◌&&◌, nat_lt, ℕ, suc, Bool, List, [], ◌∷◌, length, map, get_or, set, Some, arith, refl, ap, subst, ◌∙◌, inl, inr}
use Rattle.std.proofs.lemmas.Bool.{cases_eq, cases_lt, cond_both}
use Rattle.std.proofs.lemmas.List.{get_or-set_same, get_or-set_other, set_past}
use Rattle.stm_state.specs.declared.state.CallState.{CallState}
use Rattle.stm_state.specs.declared.state.Task.{Task}
use Rattle.stm_state.specs.declared.state.Status.TheVariants.{Executed}
use Rattle.stm_state.specs.State.{State, fresh, call_at, is_executed, is_ready, is_done}
use Rattle.stm_state.specs.Steps.{Block, Step, ask_validation, ask_execution, after_ask, after_park, resume_if_parked, resume_dependents, to_validate, after_finish_execution, after_check_read, after_decide, after_finish_abort, is_executed_at, next_stands}
use Rattle.stm_state.specs.Walk.{walk}
use Rattle.stm_state.proofs.StepsByTask.{IsMade, by_ask, by_park, by_record, by_finish, by_check, by_decide, by_abort, made}
use Rattle.stm_state.proofs.Resumptions.{readied_cases}
use Rattle.stm_state.proofs.Finishes.{mapped_at}
use Rattle.stm_state.proofs.Walks.{walk_first, walk_none, reached_on}
use Rattle.stm_state.proofs.InvariantKept.{invariant_kept}
use Rattle.stm_state.proofs.Serials.{all_executed}
use Rattle.stm_state.proofs.Rounds.{not_done}
use Rattle.never_stuck.specs.Astray.{SpentCallsNeverEnd}

-- no incarnation falls
abbrev AreGrown : List CallState → List CallState → Type 0
AreGrown before after = (j : ℕ) → (get_or before j fresh).incarnation ≤ (get_or after j fresh).incarnation

abbrev IsGrown : State → State → Type 0
IsGrown s t = AreGrown s.calls t.calls

grown_itself : (calls : List CallState) → AreGrown calls calls
grown_itself calls j = omega arith

-- one call is set to another of no lower incarnation
set_grown : (calls : List CallState) (i : ℕ) (call : CallState) → (get_or calls i fresh).incarnation ≤ call.incarnation → AreGrown calls (set calls i call)
set_grown calls i call up j = elim (cases_eq j i) [
  | inr ne ↦ let same = ap (λ (c : CallState). c.incarnation) (get_or-set_other calls i j call fresh ne) in omega (arith, same)
  | inl e ↦ elim (cases_lt i (length calls)) [
    | inl there ↦
        let now = ap (λ (c : CallState). c.incarnation) (ap (λ x. get_or (set calls i call) x fresh) e ∙ get_or-set_same calls i call fresh there) in
        let was = ap (λ x. (get_or calls x fresh).incarnation) e in omega (arith, now, was, up)
    | inr past ↦ let same = ap (λ list. (get_or list j fresh).incarnation) (set_past calls i call past) in omega (arith, same)
  ]
]

-- calls are readied
readied_grown : (i : ℕ) (calls : List CallState) → AreGrown calls (map (resume_if_parked i) calls)
readied_grown i calls j =
    let now = ap (λ (c : CallState). c.incarnation) (mapped_at (resume_if_parked i) calls j fresh refl) in
    elim (readied_cases i (get_or calls j fresh)) [
      | inl same ↦ let at = ap (λ (c : CallState). c.incarnation) same in omega (arith, now, at)
      | inr up ↦ let at = ap (λ (c : CallState). c.incarnation) up.1 in omega (arith, now, at)
    ]

grown_on : (a b c : List CallState) → AreGrown a b → AreGrown b c → AreGrown a c
grown_on a b c h k j = let first = h j in let second = k j in omega (arith, first, second)

-- ---- a step

module _ (w : ℕ) (s : State) where
  -- a call is set to one of no lower incarnation
  sets : (i : ℕ) (call : CallState) → (call_at s i).incarnation ≤ call.incarnation → AreGrown s.calls (set s.calls i call)
  sets i call up = set_grown s.calls i call up

  stays : AreGrown s.calls s.calls
  stays = grown_itself s.calls

  asked_grown : IsGrown s (after_ask w s)
  unfolding ask_validation ask_execution
  asked_grown = cond_both (is_done s) _ _ (λ t. IsGrown s t) (λ _. stays)
      (λ _. cond_both (nat_lt s.validation s.execution) _ _ (λ t. IsGrown s t)
      (λ _. cond_both (is_executed (call_at s s.validation).status) _ _ (λ t. IsGrown s t) (λ _. stays) (λ _. stays))
      (λ _. cond_both (nat_lt s.execution (length s.calls)) _ _ (λ t. IsGrown s t)
      (λ _. cond_both (is_ready (call_at s s.execution).status) _ _ (λ t. IsGrown s t) (λ _. sets s.execution _ (omega arith)) (λ _. stays)) (λ _. stays)))

  parked_grown : (i b : ℕ) → IsGrown s (after_park w i b s)
  unfolding after_park
  parked_grown i b = cond_both (is_executed (call_at s b).status) _ _ (λ t. IsGrown s t) (λ _. stays) (λ _. sets i _ (omega arith))

  checked_grown : (i n left : ℕ) → IsGrown s (after_check_read w i n left s)
  unfolding after_check_read
  checked_grown i n left = cond_both (is_executed_at n (call_at s i)) _ _ (λ t. IsGrown s t) (λ _. cond_both (next_stands i (suc left) s) _ _ (λ t. IsGrown s t) (λ _. stays) (λ _. stays)) (λ _. stays)

  decided_grown : (i n : ℕ) (failed : Bool) → IsGrown s (after_decide w i n failed s)
  unfolding after_decide
  decided_grown i n failed = cond_both (failed && is_executed_at n (call_at s i)) _ _ (λ t. IsGrown s t) (λ _. sets i _ (omega arith)) (λ _. stays)

  aborted_grown : (i : ℕ) → IsGrown s (after_finish_abort w i s)
  unfolding after_finish_abort
  aborted_grown i = cond_both (nat_lt i s.execution) _ _ (λ t. IsGrown s t) (λ _. sets i _ (omega arith)) (λ _. sets i _ (omega arith))

  to_validate_grown : (i : ℕ) (new : Bool) (task : Task) → IsGrown s (to_validate w i new task s)
  unfolding to_validate
  to_validate_grown i new task = cond_both (nat_lt i s.validation) _ _ (λ t. IsGrown s t) (λ _. cond_both new _ _ (λ t. IsGrown s t) (λ _. stays) (λ _. stays)) (λ _. stays)

executed_grown : (w i : ℕ) (new : Bool) (s : State) → IsGrown s (after_finish_execution w i new s)
unfolding resume_dependents
executed_grown w i new s =
    let done : CallState = record (call_at s i) { status = Executed } in
    let sets_done = sets w s i done (omega arith) in
    grown_on s.calls (map (resume_if_parked i) (set s.calls i done)) (after_finish_execution w i new s).calls
    (grown_on s.calls (set s.calls i done) (map (resume_if_parked i) (set s.calls i done)) sets_done (readied_grown i (set s.calls i done)))
    (to_validate_grown w _ i new _)

-- no step lowers an incarnation
made_grown : (block : Block) (w : ℕ) (s : State) (step : Step) (t : State) → IsMade block w s step t → IsGrown s t
made_grown block w s step t (by_ask at) = asked_grown w s
made_grown block w s step t (by_park i b answers at below) = parked_grown w s i b
made_grown block w s step t (by_record i answers receipt at bears below) = sets w s i _ (omega arith)
made_grown block w s step t (by_finish i new at) = executed_grown w i new s
made_grown block w s step t (by_check i n left at) = checked_grown w s i n left
made_grown block w s step t (by_decide i n left failed at last) = decided_grown w s i n failed
made_grown block w s step t (by_abort i at) = aborted_grown w s i
made_grown block w s step t did = stays w s

-- nor does a list of steps
walk_grown : (block : Block) (entries : List (ℕ × Step)) (s t : State) → walk block entries s ≡ Some t → IsGrown s t
walk_grown block [] s t h = subst (IsGrown s) (walk_none block s t h) (stays 0 s)
walk_grown block (entry ∷ entries) s t h =
    let first = walk_first block entry entries s t h in
    grown_on s.calls first.state.calls t.calls (made_grown block entry.0 s entry.1 first.state (made block entry.0 s first.state entry.1 first.step)) (walk_grown block entries first.state t first.rest)

-- if workers are done, all calls are EXECUTED, below the limit
pub spent_calls_never_end : SpentCallsNeverEnd
spent_calls_never_end block workers s i reached within spent entries t named comes =
    let inv = invariant_kept block workers t (reached_on block workers entries s t reached named comes) in
    not_done block workers t inv (λ over.
    let low = inv.facts.executed_limit i (all_executed block t inv.facts over i within) in
    let up = walk_grown block entries s t comes i in
    omega (arith, low, up, spent))
