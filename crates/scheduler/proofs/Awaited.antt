-- What the flags of calls say once those that are parked on a call are readied.
use Rattle.std.proofs.Common.{◌≡◌, ◌<◌, ◌+◌, ◌∷◌, ◌++◌, ◌&&◌, ◌||◌, ℕ, suc, Bool, true, false, if◌then◌else◌, List, [], length, map, take, drop, get_or, set, min, Option, Some, None, arith, refl, sym, ap, subst, ◌∙◌, inl, inr, length-set}
use Rattle.std.proofs.lemmas.Bool.{cases_eq}
use Rattle.std.proofs.lemmas.List.{drop_more, get_or-set_same, get_or-set_other, get_or_at, length-append, length-drop, length-map, length-take}
use Rattle.std.proofs.Math.ListN.{get_or-map}
use Rattle.stm_state.specs.declared.state.CallState.{CallState}
use Rattle.stm_state.specs.State.{fresh, is_aborting}
use Rattle.stm_state.specs.Steps.{is_parked_on, is_some_of, least_parked_call, next_incarnation, resume_if_parked}
use Rattle.scheduler.specs.Awaited.{IsAwaited}
use Rattle.scheduler.specs.Workers.{WorkerState}
use Rattle.scheduler.specs.Schedule.{Schedule, schedule_of}

-- ---- the calls in turn

-- a loop writes f x over each element x: the element that it reaches is the old one
pub untouched : {X : Type 0} (f : X → X) (xs ys : List X) (i : ℕ) (x : X) → i < length xs → ys ≡ map f (take i xs) ++ drop i xs → x ≡ get_or ys i x → x ≡ get_or xs i x
untouched f xs ys i x lt h is =
    let long : length (map f (take i xs)) ≡ i = length-map (take i xs) f ∙ omega (arith, length-take i xs) in
    is ∙ ap (λ l. get_or l i x) (h ∙ ap (λ l. map f (take i xs) ++ l) (drop_more xs i x lt)) ∙ get_or_at (map f (take i xs)) _ _ x i long

-- and it is within the list
pub still_within : {X : Type 0} (f : X → X) (xs ys : List X) (i : ℕ) → i < length xs → ys ≡ map f (take i xs) ++ drop i xs → i < length ys
still_within f xs ys i lt h =
    let all = ap length h ∙ length-append (map f (take i xs)) (drop i xs) in
    let front = length-map (take i xs) f in
    omega (arith, lt, all, front, length-take i xs, length-drop i xs)

-- the index, lowered by one call more
pub lowered_more : (on x i : ℕ) (calls : List CallState) (call : CallState) → i < length calls → call ≡ get_or calls i call
    → least_parked_call on (if is_parked_on on call then min x i else x) (i + 1) (drop (i + 1) calls) ≡ least_parked_call on x i (drop i calls)
lowered_more on x i calls call lt is = ap (least_parked_call on x i) (ap (λ c. c ∷ drop (i + 1) calls) is ∙ sym (drop_more calls i call lt))

or_left : (b c : Bool) → b ≡ true → (b || c) ≡ true
or_left true c e = refl
or_left false c e = cc

or_right : (b c : Bool) → c ≡ true → (b || c) ≡ true
or_right true c e = refl
or_right false c e = e

-- whether one of the calls names a call, with one call more
pub named_more : (on k : ℕ) (calls : List CallState) (new : CallState) (named more : Bool) → k < length calls
    → ((i : ℕ) → i < k → (get_or calls i fresh).parked ≡ Some on → named ≡ true) → (new.parked ≡ Some on → more ≡ true)
    → (i : ℕ) → i < k + 1 → (get_or (set calls k new) i fresh).parked ≡ Some on → (named || more) ≡ true
named_more on k calls new named more lt before last i l h = elim (cases_eq i k) [
  | inl p ↦ or_right named more (last (ap (λ (c : CallState). c.parked) (sym (get_or-set_same calls k new fresh lt) ∙ ap (λ (m : ℕ). get_or (set calls k new) m fresh) (sym p)) ∙ h))
  | inr q ↦ or_left named more (before i (omega arith) (ap (λ (c : CallState). c.parked) (sym (get_or-set_other calls k i new fresh q)) ∙ h))
]

-- ---- the flags

kept_by : (b : Bool) (call : CallState) (j : ℕ) → (if b then next_incarnation call else call).parked ≡ Some j → call.parked ≡ Some j
kept_by true call j h = cc
kept_by false call j h = h

-- a call that names one afterwards named it before
named_before : (on : ℕ) (calls : List CallState) (i j : ℕ) → (get_or (map (resume_if_parked on) calls) i fresh).parked ≡ Some j → (get_or calls i fresh).parked ≡ Some j
named_before on calls i j h =
    kept_by (is_parked_on on (get_or calls i fresh)) (get_or calls i fresh) j (ap (λ (c : CallState). c.parked) (sym (get_or-map (resume_if_parked on) calls i fresh)) ∙ h)

-- the flag of a call goes down if no call names it any more
pub awaited_resumed : (on at : ℕ) (calls new : List CallState) (awaited : List Bool) (named : Bool) → at ≡ on → at < length calls → new ≡ map (resume_if_parked on) calls → IsAwaited calls awaited
    → ((i : ℕ) → (get_or new i fresh).parked ≡ Some on → named ≡ true) → IsAwaited new (set awaited at named)
awaited_resumed on at calls new awaited named is lt e old left = record {
  flags = length-set awaited at named ∙ old.flags ∙ sym (ap length e ∙ length-map calls (resume_if_parked on));
  raised = λ i j h. elim (cases_eq j at) [
    | inl p ↦ ap (λ (k : ℕ). get_or (set awaited at named) k false) p ∙ get_or-set_same awaited at named false (subst (λ (n : ℕ). at < n) (sym old.flags) lt) ∙ left i (h ∙ ap Some (p ∙ is))
    | inr q ↦ get_or-set_other awaited at j named false q ∙ old.raised i j (named_before on calls i j (ap (λ (l : List CallState). (get_or l i fresh).parked) (sym e) ∙ h))
  ];
}

-- ---- nothing to ready

and_right : (b c : Bool) → (c ≡ true → ⊥) → (b && c) ≡ false
and_right true true h = absurd (h refl)
and_right true false h = refl
and_right false c h = refl

some_is : (o : Option ℕ) (on : ℕ) → is_some_of o on ≡ true → o ≡ Some on
some_is None on h = cc
some_is (Some j) on h = ap Some (grind (arith, h))

-- a call that isn't awaited is named by none, so none is parked on it
pub none_parked : (on : ℕ) (calls : List CallState) (awaited : List Bool) → IsAwaited calls awaited → get_or awaited on false ≡ false → (i : ℕ) → is_parked_on on (get_or calls i fresh) ≡ false
none_parked on calls awaited old down i =
    and_right (is_aborting (get_or calls i fresh).status) (is_some_of (get_or calls i fresh).parked on) (λ h.
    let up : get_or awaited on false ≡ true = old.raised i on (some_is (get_or calls i fresh).parked on h) in cc)

none_readied : (on : ℕ) (calls : List CallState) → ((i : ℕ) → is_parked_on on (get_or calls i fresh) ≡ false) → map (resume_if_parked on) calls ≡ calls
none_readied on [] h = refl
none_readied on (c ∷ calls) h = rw (h 0, none_readied on calls (λ i. h (suc i))) refl

none_lower : (on x p : ℕ) (calls : List CallState) → ((i : ℕ) → is_parked_on on (get_or calls i fresh) ≡ false) → least_parked_call on x p calls ≡ x
none_lower on x p [] h = refl
none_lower on x p (c ∷ calls) h = rw (h 0) (none_lower on x (p + 1) calls (λ i. h (suc i)))

-- if none is parked on a call, readying those that are changes nothing
pub none_resumed : (on : ℕ) (calls : List CallState) (execution validation key_room : ℕ) (workers : List WorkerState) (s : Schedule) → schedule_of calls execution validation key_room workers ≡ s
    → ((i : ℕ) → is_parked_on on (get_or calls i fresh) ≡ false)
    → schedule_of calls execution validation key_room workers ≡ record s { calls = map (resume_if_parked on) s.calls; execution = least_parked_call on s.execution 0 s.calls }
none_resumed on calls execution validation key_room workers s was none =
    sym (rw (none_readied on calls none, none_lower on execution 0 calls none) refl)
    ∙ ap (λ (t : Schedule). record t { calls = map (resume_if_parked on) t.calls; execution = least_parked_call on t.execution 0 t.calls }) was
