-- The moment at which a run stops.
use Rattle.std.proofs.Common.{◌≡◌, ℕ, zero, suc, ◌+◌, ◌<◌, ◌≤◌, Bool, true, false, if◌then◌else◌, Some, OnErr, Result, Ok, Err, refl, sym, ap, ◌∙◌, inl, inr, arith, eq-or-lt_of_le}
use Rattle.rv_ledger.specs.Key.{Storage}
use Rattle.rv_ledger.specs.Call.{Invocation}
use Rattle.rv_step.specs.declared.machine.Machine.{Machine}
use Rattle.rv_step.specs.Step.{Progress, Going, Over}
use Rattle.rv_step.specs.Moment.{is_over, moment_over}
use Rattle.debugger.specs.Replay.{IsLaterMoment, ReplayState, is_at_end, standing, stops}
use Rattle.debugger.specs.More.{first_stop}
use Rattle.debugger.specs.Session.{stop_of}
use Rattle.debugger.proofs.Moments.{within_gas}

clash : true ≡ false → ⊥
clash e = cc

-- a run stops when the call is over
pub not_over : (is_wanted : Machine → Bool) (at : Progress) → stops is_wanted at ≡ false → is_over at ≡ false
not_over is_wanted (Going s) h = refl
not_over is_wanted (Over end out s) h = absurd (clash h)

stop_here : (call : Invocation) (store : Storage) (is_wanted : Machine → Bool) (n m rest : ℕ) (b : Bool) → stops is_wanted (moment_over call store n) ≡ b → n ≤ m → (n < m → stops is_wanted (moment_over call store n) ≡ false) → stops is_wanted (moment_over call store m) ≡ true → (n < m → rest ≡ m) → (if b then n else rest) ≡ m
stop_here call store is_wanted n m rest true e le before there more =
    elim (eq-or-lt_of_le le) [ inl same ↦ same | inr less ↦ absurd (clash (sym e ∙ before less)) ]
stop_here call store is_wanted n m rest false e le before there more =
    elim (eq-or-lt_of_le le) [
      | inl same ↦ absurd (clash (sym there ∙ ap (λ (k : ℕ). stops is_wanted (moment_over call store k)) (sym same) ∙ e))
      | inr less ↦ more less
    ]

-- the first moment at which it stops, if that is within reach
pub first_stop_is : (left : ℕ) (call : Invocation) (store : Storage) (is_wanted : Machine → Bool) (n m : ℕ) → n ≤ m → m ≤ n + left → ((k : ℕ) → n ≤ k → k < m → stops is_wanted (moment_over call store k) ≡ false) → stops is_wanted (moment_over call store m) ≡ true → first_stop left is_wanted call store n ≡ m
unfolding first_stop
first_stop_is zero call store is_wanted n m le near before there = omega arith
first_stop_is (suc left) call store is_wanted n m le near before there =
    stop_here call store is_wanted n m (first_stop left is_wanted call store (n + 1)) (stops is_wanted (moment_over call store n)) refl le
    (λ less. before n (omega arith) less) there
    (λ less. first_stop_is left call store is_wanted (n + 1) m (omega arith) (omega arith) (λ k more below. before k (omega arith) below) there)

-- a moment after one at which the call is not over, with no stop between them, is within reach
stop_within : (call : Invocation) (store : Storage) (is_wanted : Machine → Bool) (from m : ℕ) → from < m → is_over (moment_over call store from) ≡ false → ((k : ℕ) → from < k → k < m → stops is_wanted (moment_over call store k) ≡ false) → m ≤ call.gas + 1
stop_within call store is_wanted from zero less going between = absurd (omega arith)
stop_within call store is_wanted from (suc n) less going between =
    let le : from ≤ n = omega arith in
    elim (eq-or-lt_of_le le) [
      | inl same ↦
          let within = within_gas call store from going in
          omega (arith, within, same)
      | inr before ↦
          let within = within_gas call store n (not_over is_wanted (moment_over call store n) (between n before (omega arith))) in
          omega (arith, within)
    ]

pub same_state : (old new : ReplayState) (m : ℕ) → new.call ≡ old.call → new.store ≡ old.store → m ≡ new.moment → record old { moment = m } ≡ new
same_state old new m call store moment =
    ap (λ (x : ℕ). record old { moment = x }) moment
    ∙ ap (λ (s : Storage). record old { store = s; moment = new.moment }) (sym store)
    ∙ ap (λ (x : Invocation). record new { call = x }) (sym call)

-- a run that stopped at a later moment reached the moment of `stop_of`
pub stop_is : (is_wanted : Machine → Bool) (old new : ReplayState) → (is_at_end old ≡ false) × IsLaterMoment is_wanted old new × (old.moment < new.moment) × (stops is_wanted (standing new) ≡ true) → stop_of is_wanted old ≡ Some new
stop_is is_wanted old new (going, past, later, there) =
    let within = stop_within old.call old.store is_wanted old.moment new.moment later going past.between in
    let here : stops is_wanted (moment_over old.call old.store new.moment) ≡ true =
    ap (λ (c : Invocation). stops is_wanted (moment_over c old.store new.moment)) (sym past.call)
    ∙ ap (λ (s : Storage). stops is_wanted (moment_over new.call s new.moment)) (sym past.store) ∙ there in
    let first : first_stop (old.call.gas + 1) is_wanted old.call old.store (old.moment + 1) ≡ new.moment =
    first_stop_is (old.call.gas + 1) old.call old.store is_wanted (old.moment + 1) new.moment (omega arith) (omega (arith, within))
    (λ k more below. past.between k (omega arith) below) here in
    rw going (ap Some (same_state old new (first_stop (old.call.gas + 1) is_wanted old.call old.store (old.moment + 1)) past.call past.store first))

-- a run that has not moved yet
pub still_past : (is_wanted : Machine → Bool) (r : ReplayState) → IsLaterMoment is_wanted r r × (r.moment < r.moment → stops is_wanted (standing r) ≡ false)
still_past is_wanted r = (
  record {
    call = refl;
    store = refl;
    later = omega arith;
    between = λ n after before. absurd (omega arith);
  },
  λ less. absurd (omega arith),
)

-- what holds in any case
pub on_err : {X E : Type 0} (r : Result X E) (P : Type 0) → P → OnErr r P
on_err (Ok x) P p = tt
on_err (Err e) P p = p
