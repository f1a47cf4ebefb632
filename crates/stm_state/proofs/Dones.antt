-- What a step adds to the `Ask` steps answered Done, and the last entry of a worker with such a step.
use Rattle.std.proofs.Common.{◌≡◌, ◌≢◌, ◌<◌, ◌≤◌, ◌+◌, nat_lt, ℕ, Bool, true, false, cond, if◌then◌else◌, List, [], ◌∷◌, ◌++◌, length, get_or, set, Some, Ok, arith, refl, sym, ap, subst, ◌∙◌, inl, inr, length-set}
use Rattle.std.specs.List.{AllByRecursion}
use Rattle.std.proofs.lemmas.Bool.{cases_eq, cases_lt, cond_both, cond-true}
use Rattle.std.proofs.lemmas.List.{get_or-set_same, get_or-set_other, get_or_past, length-replicate}
use Rattle.stm_state.specs.State.{State, start_state, is_done}
use Rattle.stm_state.specs.Steps.{Block, Step, Ask, ask_validation, ask_execution, after_ask, count_done, worker_step, counted, one_asking}
use Rattle.stm_state.specs.Done.{Reached}
use Rattle.stm_state.specs.Walk.{walk}
use Rattle.stm_state.specs.Dones.{dones_of, DoneIsAsked, DoneStays, OtherDonesStay, DonesAreAsked, DonesGrowAtDone, LastEntryIsDone}
use Rattle.stm_state.proofs.Tests.{idle_at_done}
use Rattle.stm_state.proofs.StepsByTask.{IsMade, by_ask, by_read, by_park, by_record, by_move, by_finish, by_check, by_decide, by_mark, by_abort, made}
use Rattle.stm_state.proofs.Counted.{ask_validation_silent, ask_execution_silent, parked_silent, executed_silent, checked_silent, decided_silent, aborted_silent}
use Rattle.stm_state.proofs.Lists.{replicated, all_before}
use Rattle.stm_state.proofs.InvariantKept.{invariant_kept}
use Rattle.stm_state.proofs.Walks.{walk_on, walk_first, walk_none, walk_here, reached_by_list}

-- ---- once workers are done

-- workers are still done after an `Ask` step
done_again : (w : ℕ) (s : State) → is_done s ≡ true → is_done (after_ask w s) ≡ true
unfolding is_done
done_again w s done = subst (λ t. is_done t ≡ true) (sym (cond-true (is_done s) (count_done w s) _ done)) done

module _ (block : Block) (w : ℕ) (s : State) (done : is_done s ≡ true) where
  -- only an `Ask` step is made
  only_asked : (step : Step) (t : State) → IsMade block w s step t → (step ≡ Ask) × (t ≡ counted one_asking w (after_ask w s))
  only_asked step t (by_ask at) = (refl, refl)
  only_asked step t (by_read i answers key at) = let idle = idle_at_done s done w in (cc, cc)
  only_asked step t (by_park i b answers at below) = let idle = idle_at_done s done w in (cc, cc)
  only_asked step t (by_record i answers receipt at bears below) = let idle = idle_at_done s done w in (cc, cc)
  only_asked step t (by_move i key keys new at) = let idle = idle_at_done s done w in (cc, cc)
  only_asked step t (by_finish i new at) = let idle = idle_at_done s done w in (cc, cc)
  only_asked step t (by_check i n left at) = let idle = idle_at_done s done w in (cc, cc)
  only_asked step t (by_decide i n left failed at last) = let idle = idle_at_done s done w in (cc, cc)
  only_asked step t (by_mark i key keys at) = let idle = idle_at_done s done w in (cc, cc)
  only_asked step t (by_abort i at) = let idle = idle_at_done s done w in (cc, cc)

  -- workers are still done after the step
  still_done : (t : State) → t ≡ counted one_asking w (after_ask w s) → is_done t ≡ true
  unfolding is_done
  still_done t h = ap is_done h ∙ done_again w s done

-- the same for each step with a state after it
pub asked_at_done : DoneIsAsked
asked_at_done block w step s t done k = (only_asked block w s done step t (made block w s t step k)).0

pub done_after : DoneStays
done_after block w step s t done k = still_done block w s done t (only_asked block w s done step t (made block w s t step k)).1

-- ---- what a step adds

-- the number of `Ask` steps answered Done of each worker after a step
abbrev pub dones_after : ℕ → Step → State → List ℕ
dones_after w Ask s = if is_done s then set s.dones w (get_or s.dones w 0 + 1) else s.dones
dones_after w step s = s.dones

-- the numbers after an `Ask` step
asked_dones : (w : ℕ) (s : State) → (after_ask w s).dones ≡ dones_after w Ask s
asked_dones w s = go (is_done s)
  where
    go : (done : Bool) → (cond done (count_done w s) (cond (nat_lt s.validation s.execution) (ask_validation w s) (cond (nat_lt s.execution (length s.calls)) (ask_execution w s) s))).dones ≡ cond done (set s.dones w (get_or s.dones w 0 + 1)) s.dones
    go true = refl
    go false = cond_both (nat_lt s.validation s.execution) _ _ (λ (t : State). t.dones ≡ s.dones) (λ _. (ask_validation_silent w s).1)
        (λ _. cond_both (nat_lt s.execution (length s.calls)) _ _ (λ (t : State). t.dones ≡ s.dones) (λ _. (ask_execution_silent w s).1) (λ _. refl))

-- the numbers after each step that is made
made_dones : (block : Block) (w : ℕ) (s : State) (step : Step) (t : State) → IsMade block w s step t → t.dones ≡ dones_after w step s
made_dones block w s step t (by_ask at) = asked_dones w s
made_dones block w s step t (by_read i answers key at) = refl
made_dones block w s step t (by_park i b answers at below) = (parked_silent w i b s).1
made_dones block w s step t (by_record i answers receipt at bears below) = refl
made_dones block w s step t (by_move i key keys new at) = refl
made_dones block w s step t (by_finish i new at) = (executed_silent w i new s).1
made_dones block w s step t (by_check i n left at) = (checked_silent w i n left s).1
made_dones block w s step t (by_decide i n left failed at last) = (decided_silent w i n failed s).1
made_dones block w s step t (by_mark i key keys at) = refl
made_dones block w s step t (by_abort i at) = (aborted_silent w i s).1

pub step_dones : (block : Block) (w : ℕ) (step : Step) (s t : State) → worker_step block w step s ≡ Some (Ok t) → t.dones ≡ dones_after w step s
step_dones block w step s t k = made_dones block w s step t (made block w s t step k)

-- the number of workers stays the same
after_length : (w : ℕ) (step : Step) (s : State) → length (dones_after w step s) ≡ length s.dones
after_length w Ask s = cond_both (is_done s) _ _ (λ l. length l ≡ length s.dones) (λ _. length-set s.dones w _) (λ _. refl)
after_length w step s = refl

-- the numbers of the other workers stay the same
after_others : (w u : ℕ) (step : Step) (s : State) → u ≢ w → get_or (dones_after w step s) u 0 ≡ get_or s.dones u 0
after_others w u Ask s ne = cond_both (is_done s) _ _ (λ l. get_or l u 0 ≡ get_or s.dones u 0) (λ _. get_or-set_other s.dones w u _ 0 ne) (λ _. refl)
after_others w u step s ne = refl

-- a step that is not an `Ask` step leaves all numbers as they were
after_own : (w : ℕ) (step : Step) (s : State) → step ≢ Ask → dones_after w step s ≡ s.dones
after_own w Ask s ne = absurd (ne refl)
after_own w step s ne = refl

-- the worker's own number after an `Ask` step
after_asking : (w : ℕ) (s : State) → w < length s.dones → get_or (dones_after w Ask s) w 0 ≡ (if is_done s then get_or s.dones w 0 + 1 else get_or s.dones w 0)
after_asking w s l = go (is_done s)
  where
    go : (done : Bool) → get_or (cond done (set s.dones w (get_or s.dones w 0 + 1)) s.dones) w 0 ≡ cond done (get_or s.dones w 0 + 1) (get_or s.dones w 0)
    go true = get_or-set_same s.dones w (get_or s.dones w 0 + 1) 0 l
    go false = refl

pub others_stay : OtherDonesStay
others_stay block w step s t k u ne = ap (λ l. get_or l u 0) (step_dones block w step s t k) ∙ after_others w u step s ne

pub dones_are_asked : DonesAreAsked
dones_are_asked block w step s t k ne = ap (λ l. get_or l w 0) (step_dones block w step s t k ∙ after_own w step s ne)

pub dones_grow : DonesGrowAtDone
dones_grow block w s t k l = ap (λ xs. get_or xs w 0) (step_dones block w Ask s t k) ∙ after_asking w s l

-- ---- the last entry of a worker

-- an `Ask` step answered Done adds one to its worker's number
asked_more : (block : Block) (w : ℕ) (step : Step) (s t : State) → is_done s ≡ true → worker_step block w step s ≡ Some (Ok t) → w < length s.dones → dones_of w t ≡ dones_of w s + 1
asked_more block w step s t done k l =
    let asks_it = asked_at_done block w step s t done k in
    dones_grow block w s t (subst (λ (x : Step). worker_step block w x s ≡ Some (Ok t)) asks_it k) l ∙ cond-true (is_done s) _ _ done

-- a step lowers no number
dones_kept : (block : Block) (u : ℕ) (step : Step) (s t : State) → worker_step block u step s ≡ Some (Ok t) → (w : ℕ) → w < length s.dones → dones_of w s ≤ dones_of w t
dones_kept block u step s t k w l = elim (cases_eq w u) [
  | inl e ↦ subst (λ x. dones_of w s ≤ get_or x w 0) (sym (step_dones block u step s t k)) (own step e)
  | inr ne ↦ let same = others_stay block u step s t k w ne in omega (arith, same)
]
  where
    own : (step : Step) → w ≡ u → dones_of w s ≤ get_or (dones_after u step s) w 0
    own Ask e = subst (λ x. dones_of w s ≤ get_or (dones_after x Ask s) w 0) e
        (subst (λ n. dones_of w s ≤ n) (sym (after_asking w s l)) (cond_both (is_done s) _ _ (λ n. dones_of w s ≤ n) (λ _. omega arith) (λ _. omega arith)))
    own step e = omega arith

-- a worker's index is still in range after a step
step_length : (block : Block) (u : ℕ) (step : Step) (s t : State) → worker_step block u step s ≡ Some (Ok t) → (w : ℕ) → w < length s.dones → w < length t.dones
step_length block u step s t k w l = let same = ap length (step_dones block u step s t k) ∙ after_length u step s in omega (arith, same, l)

module _ (block : Block) (w : ℕ) where
  -- a list lowers no number
  dones_rise : (entries : List (ℕ × Step)) (s t : State) → walk block entries s ≡ Some t → w < length s.dones → dones_of w s ≤ dones_of w t
  dones_rise [] s t h l = subst (λ (x : State). dones_of w s ≤ dones_of w x) (walk_none block s t h) (omega arith)
  dones_rise (entry ∷ entries) s t h l =
      let first = walk_first block entry entries s t h in
      let now = dones_kept block entry.0 entry.1 s first.state first.step w l in
      let rest = dones_rise entries first.state t first.rest (step_length block entry.0 entry.1 s first.state first.step w l) in
      omega (arith, now, rest)

  -- if workers are done and a list adds nothing to the worker's number, none of its entries is the worker's
  none_own : (entries : List (ℕ × Step)) (s t : State) → walk block entries s ≡ Some t → is_done s ≡ true → w < length s.dones → dones_of w t ≡ dones_of w s → AllByRecursion (λ entry. entry.0 ≢ w) entries
  none_own [] s t h done l same = tt
  none_own (entry ∷ entries) s t h done l same =
      let first = walk_first block entry entries s t h in
      let longer = step_length block entry.0 entry.1 s first.state first.step w l in
      let now = dones_kept block entry.0 entry.1 s first.state first.step w l in
      let rest = dones_rise entries first.state t first.rest longer in (
        (λ e. let more = asked_more block w entry.1 s first.state done (subst (λ x. worker_step block x entry.1 s ≡ Some (Ok first.state)) e first.step) l in omega (arith, more, rest, same)),
        none_own entries first.state t first.rest (done_after block entry.0 entry.1 s first.state done first.step) longer (omega (arith, now, rest, same)),
      )

  -- the worker's last entry in a list is an `Ask` step answered Done
  record LastFrom (entries : List (ℕ × Step)) (s : State) (earlier : ℕ) : Type 0 where
    before : List (ℕ × Step)
    after : List (ℕ × Step)
    split : entries ≡ before ++ (w, Ask) ∷ after
    state : State
    comes : walk block before s ≡ Some state
    done : is_done state ≡ true
    dones_before : dones_of w state ≡ earlier
    alone : AllByRecursion (λ entry. entry.0 ≢ w) after

  -- a step that adds one is the worker's `Ask` step, made when workers are done
  record AddsOne (entry : ℕ × Step) (s : State) : Type 0 where
    is : entry ≡ (w, Ask)
    done : is_done s ≡ true

  adds_one : (u : ℕ) (step : Step) (s t : State) → worker_step block u step s ≡ Some (Ok t) → w < length s.dones → dones_of w s < dones_of w t → AddsOne (u, step) s
  adds_one u step s t k l less = elim (cases_eq w u) [
    | inl e ↦ own step (subst (λ x. get_or s.dones w 0 < get_or (dones_after x step s) w 0) (sym e) (subst (λ x. dones_of w s < get_or x w 0) (step_dones block u step s t k) less)) (sym e)
    | inr ne ↦ let same = others_stay block u step s t k w ne in absurd (omega (arith, same, less))
  ]
    where
      asking : (b : Bool) → is_done s ≡ b → dones_of w s < (if b then dones_of w s + 1 else dones_of w s) → is_done s ≡ true
      asking true e h = e
      asking false e h = absurd (omega (arith, h))

      own : (step : Step) → dones_of w s < get_or (dones_after w step s) w 0 → u ≡ w → AddsOne (u, step) s
      own Ask h e = record { is = ap (λ x. (x, Ask)) e; done = asking (is_done s) refl (subst (λ n. dones_of w s < n) (after_asking w s l) h) }
      own step h e = absurd (omega (arith, h))

  last_from : (entries : List (ℕ × Step)) (s t : State) (earlier : ℕ) → walk block entries s ≡ Some t → w < length s.dones → dones_of w s < dones_of w t → dones_of w t ≡ earlier + 1 → LastFrom entries s earlier
  last_from [] s t earlier h l less is = let same = ap (dones_of w) (walk_none block s t h) in absurd (omega (arith, same, less))
  last_from (entry ∷ entries) s t earlier h l less is =
      let first = walk_first block entry entries s t h in
      let longer = step_length block entry.0 entry.1 s first.state first.step w l in
      elim (cases_lt (dones_of w first.state) (dones_of w t)) [
        | inl later ↦
            let rest = last_from entries first.state t earlier first.rest longer later is in record {
              before = entry ∷ rest.before;
              after = rest.after;
              split = ap (λ xs. entry ∷ xs) rest.split;
              state = rest.state;
              comes = walk_on block entry rest.before s first.state first.step ∙ rest.comes;
              done = rest.done;
              dones_before = rest.dones_before;
              alone = rest.alone;
            }
        | inr here ↦
            let rest = dones_rise entries first.state t first.rest longer in
            let one = adds_one entry.0 entry.1 s first.state first.step l (omega (arith, here, less)) in
            let asks_it = asked_more block w entry.1 s first.state one.done (subst (λ (x : ℕ × Step). worker_step block x.0 entry.1 s ≡ Some (Ok first.state)) one.is first.step) l in record {
              before = [];
              after = entries;
              split = ap (λ x. x ∷ entries) one.is;
              state = s;
              comes = walk_here block s;
              done = one.done;
              dones_before = omega (arith, asks_it, rest, here, is);
              alone = none_own entries first.state t first.rest (done_after block entry.0 entry.1 s first.state one.done first.step) longer (omega (arith, rest, here));
            }
      ]

-- a worker with an `Ask` step answered Done is a worker of the block
is_worker : (block : Block) (workers : ℕ) (s : State) (w : ℕ) → Reached block workers s → 0 < dones_of w s → w < workers
is_worker block workers s w reached more = elim (cases_lt w workers) [
  | inl low ↦ low
  | inr high ↦
      let size = (invariant_kept block workers s reached).sized.dones in
      let none = get_or_past s.dones w 0 (omega (arith, size, high)) in absurd (omega (arith, none, more))
]

pub last_entry : LastEntryIsDone
last_entry block workers entries t w earlier leads is =
    let first : State = start_state block.count workers in
    let none : dones_of w first ≡ 0 = replicated workers w 0 in
    let worker = is_worker block workers t w ((reached_by_list block workers t).1 (entries, leads)) (omega (arith, is)) in
    let size = length-replicate {A = ℕ} workers 0 in
    let last = last_from block w entries first t earlier leads.comes (omega (arith, size, worker)) (omega (arith, none, is)) is in record {
      before = last.before;
      after = last.after;
      split = last.split;
      state = last.state;
      leads = record { within = all_before (λ entry. entry.0 < workers) last.before ((w, Ask) ∷ last.after) (subst (λ xs. AllByRecursion (λ entry. entry.0 < workers) xs) last.split leads.within); comes = last.comes };
      done = last.done;
      dones_before = last.dones_before;
      alone = last.alone;
    }
