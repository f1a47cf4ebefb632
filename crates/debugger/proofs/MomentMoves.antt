-- Moves to a moment, and the last moment of a call.
use Rattle.std.proofs.Common.{◌≡◌, ℕ, zero, suc, ◌+◌, ◌-◌, ◌<◌, ◌≤◌, Bool, List, true, false, not, if◌then◌else◌, Some, None, Result, Ok, Err, IfErr, OnErr, OnOk, refl, sym, ap, subst, ◌∙◌, inl, inr, arith, eq-or-lt_of_le}
use Rattle.rv_ledger.specs.Key.{Storage}
use Rattle.rv_ledger.specs.Call.{Invocation}
use Rattle.rv_ledger.specs.declared.end.End.{End}
use Rattle.rv_ledger.specs.declared.receipt.Receipt.{Receipt}
use Rattle.rv_step.specs.declared.machine.Machine.{Machine}
use Rattle.rv_step.specs.declared.stage.Stage.{Stage}
use Rattle.rv_step.specs.declared.stage.Stage.TheVariants.{Running, Asked, Ended}
use Rattle.rv_step.specs.Chain.{ends, receipt_at, receipt_of}
use Rattle.rv_step.specs.Run.{RunView}
use Rattle.rv_step.specs.Step.{Progress, Going, Over}
use Rattle.rv_step.specs.Moment.{from_storage, is_over, moment_from, moment_over, start}
use Rattle.rv_step.proofs.Receipts.{over_ends}
use Rattle.debugger.specs.declared.fault.ReplayFault.{ReplayFault}
use Rattle.debugger.specs.declared.fault.ReplayFault.TheVariants.{Memory}
use Rattle.debugger.specs.More.{GoesTo, IsTowards, at_moment, ending_line, is_moment, last_moment, never, receipt_line}
use Rattle.debugger.specs.Replay.{ReplayState, is_at_end, stops}
use Rattle.rv_step.specs.Over.{is_ended}
use Rattle.debugger.specs.ReplayMoment.{AreOf, GoesOnUntil, HasEnded, advance_over}
use Rattle.debugger.proofs.Moments.{within_gas}
use Rattle.debugger.proofs.ReplayMoments.{next_suc}
use Rattle.debugger.proofs.Stops.{first_stop_is, same_state}

-- a replay that has not moved yet
pub still_towards : (moment : ℕ) (r : ReplayState) → IsTowards moment r r
still_towards moment r = record {
  call = refl;
  store = refl;
  later = omega arith;
  within = λ less. absurd (omega arith);
}

-- a moment before which the call is not over is one of its moments
pub is_moment_of : (call : Invocation) (store : Storage) (m : ℕ) → GoesOnUntil call store m → is_moment call store m ≡ true
is_moment_of call store zero goes = refl
is_moment_of call store (suc n) goes = ap not (goes n (omega arith))

pub at_moment_of : (r : ReplayState) (m : ℕ) → GoesOnUntil r.call r.store m → at_moment m r ≡ Some (record r { moment = m })
at_moment_of r m goes = ap (λ (b : Bool). if b then Some (record r { moment = m }) else None) (is_moment_of r.call r.store m goes)

-- a call that is over stays over
over_next : (store : Storage) (at : Progress) → is_over at ≡ true → is_over (advance_over store at) ≡ true
over_next store (Going s) over = cc
over_next store (Over end out s) over = refl

pub stays_over : (call : Invocation) (store : Storage) (n m : ℕ) → n ≤ m → is_over (moment_over call store n) ≡ true → is_over (moment_over call store m) ≡ true
stays_over call store n zero le over =
    elim (eq-or-lt_of_le le) [
      | inl same ↦ subst (λ (k : ℕ). is_over (moment_over call store k) ≡ true) same over
      | inr less ↦ absurd (omega arith)
    ]
stays_over call store n (suc m) le over =
    elim (eq-or-lt_of_le le) [
      | inl same ↦ subst (λ (k : ℕ). is_over (moment_over call store k) ≡ true) same over
      | inr less ↦ ap is_over (next_suc call store m) ∙ over_next store (moment_over call store m) (stays_over call store n m (omega arith) over)
    ]

-- a replay of the same call that moved towards a moment
module _ (m : ℕ) (old mid : ReplayState) (call : mid.call ≡ old.call) (store : mid.store ≡ old.store) where
  over_there : is_at_end mid ≡ true → is_over (moment_over old.call old.store mid.moment) ≡ true
  over_there over =
      sym (ap (λ (c : Invocation). is_over (moment_over c old.store mid.moment)) call)
      ∙ sym (ap (λ (s : Storage). is_over (moment_over mid.call s mid.moment)) store) ∙ over

  -- if the call is over before it, there is no such moment
  pub no_moment : mid.moment < m → is_at_end mid ≡ true → at_moment m old ≡ None
  no_moment less over = by_moment m less
    where
      by_moment : (n : ℕ) → mid.moment < n → at_moment n old ≡ None
      by_moment zero below = absurd (omega arith)
      by_moment (suc n) below =
          ap (λ (b : Bool). if not b then Some (record old { moment = suc n }) else None)
          (stays_over old.call old.store mid.moment n (omega arith) (over_there over))

-- if it went back to its first moment, it is as before
pub back_is : (old mid new : ReplayState) (first : ℕ) → mid.call ≡ old.call → mid.store ≡ old.store → first ≡ old.moment → new ≡ record mid { moment = first } → new ≡ old
back_is old mid new first call store moment back = back ∙ same_state mid old first (sym call) (sym store) moment

-- a move back, made or refused
pub went_back : {X : Type 0} (result : Result X ReplayFault) (m : ℕ) (old new : ReplayState) → GoesOnUntil old.call old.store m → OnOk result (new ≡ record old { moment = m }) → IfErr result (λ e. e ≡ Memory) → OnErr result (new ≡ old) → GoesTo m result old new
went_back (Ok x) m old new goes ok memory same = at_moment_of old m goes ∙ ap Some (sym ok)
went_back (Err Memory) m old new goes ok memory same = subst (λ (r : ReplayState). IsTowards m old r) (sym same) (still_towards m old)
went_back (Err fault) m old new goes ok memory same = cc

-- ---- the last moment

never_stops : (at : Progress) → is_over at ≡ false → stops never at ≡ false
never_stops (Going s) h = refl
never_stops (Over end out s) h = cc

over_stops : (at : Progress) → is_over at ≡ true → stops never at ≡ true
over_stops (Going s) h = cc
over_stops (Over end out s) h = refl

near_gas : (call : Invocation) (store : Storage) (m : ℕ) → GoesOnUntil call store m → m ≤ 0 + (call.gas + 1)
near_gas call store zero goes = omega arith
near_gas call store (suc n) goes = let within = within_gas call store n (goes n (omega arith)) in omega (arith, within)

pub last_is : (call : Invocation) (store : Storage) (m : ℕ) → GoesOnUntil call store m → is_over (moment_over call store m) ≡ true → last_moment call store ≡ m
last_is call store m goes over =
    first_stop_is (call.gas + 1) call store never 0 m (omega arith) (near_gas call store m goes)
    (λ k _ below. never_stops (moment_over call store k) (goes k below)) (over_stops (moment_over call store m) over)

-- a call that is over has the receipt of its end
pub end_is : (call : Invocation) (store : Storage) (m : ℕ) (end : End) (out : List ℕ) (s : Machine) → moment_over call store m ≡ Over end out s → ends call store ≡ receipt_of call.gas end out s
end_is call store m end out s e =
    sym (over_ends call store m (moment_from from_storage m (Going (start call), store)) refl (ap is_over e)) ∙ ap (receipt_at call.gas) e

pub going_or_ended : (at : Progress) (s : Machine) (stage : Stage) → AreOf at s stage → is_ended stage ≡ false → is_over at ≡ false
going_or_ended at s Running h e = ap is_over h
going_or_ended at s (Asked key) h e = ap is_over h.0
going_or_ended at s (Ended end out) h e = cc

-- the line of the end of a call
pub end_line_is : (call : Invocation) (store : Storage) (m : ℕ) (end : End) (out : List ℕ) (s : Machine) → moment_over call store m ≡ Over end out s → GoesOnUntil call store m → ending_line end out (call.gas - s.gas) m ≡ receipt_line (ends call store) (last_moment call store)
end_line_is call store m end out s e goes =
    sym (ap (λ (r : Receipt). receipt_line r (last_moment call store)) (end_is call store m end out s e)
    ∙ ap (λ (k : ℕ). ending_line end out (call.gas - s.gas) k) (last_is call store m goes (ap is_over e)))

pub ended_line : (call : Invocation) (store : Storage) (run : RunView) (m : ℕ) (end : End) (out bytes : List ℕ) (gas : ℕ) → HasEnded call store run m → run.stage ≡ Ended end out → bytes ≡ out → gas ≡ call.gas - run.machine.gas → ending_line end bytes gas m ≡ receipt_line (ends call store) (last_moment call store)
ended_line call store run m end out bytes gas ended stage same used =
    let over : moment_over call store m ≡ Over end out run.machine =
    subst (λ (x : Stage). AreOf (moment_over call store m) run.machine x) stage ended.stands in
    ap (λ (b : List ℕ). ending_line end b gas m) same
    ∙ ap (λ (g : ℕ). ending_line end out g m) used
    ∙ end_line_is call store m end out run.machine over ended.earlier
