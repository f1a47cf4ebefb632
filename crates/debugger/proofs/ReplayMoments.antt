-- Runs at the progress of a call.
use Rattle.std.proofs.Common.{◌≡◌, ℕ, suc, ◌+◌, ◌-◌, ◌<◌, Bool, true, false, if◌then◌else◌, refl, sym, ap, subst, ◌∙◌, arith, add-one, below_more, Some, None}
use Rattle.rv_ledger.specs.Key.{Storage}
use Rattle.rv_ledger.specs.Call.{Invocation}
use Rattle.rv_step.specs.declared.machine.Machine.{Machine}
use Rattle.rv_step.specs.declared.stage.Stage.{Stage}
use Rattle.rv_step.specs.declared.stage.Stage.TheVariants.{Running, Asked, Ended}
use Rattle.rv_step.specs.Run.{RunView}
use Rattle.debugger.specs.Replay.{ReplayState, is_at_end, next_of}
use Rattle.debugger.proofs.Moments.{within_gas}
use Rattle.rv_step.specs.Step.{Progress, Going}
use Rattle.rv_step.specs.Moment.{advance, from_storage, is_over, moment_over, start}
use Rattle.rv_step.proofs.Moments.{one_more}
use Rattle.rv_step.proofs.Receipts.{keeps_storage}
use Rattle.debugger.specs.ReplayMoment.{AreOf, GoesOnUntil, IsRunAt, advance_over}

-- a run at a moment at which the call is not over has the call's machine
pub going_is : (at : Progress) (s : Machine) (stage : Stage) → AreOf at s stage → is_over at ≡ false → at ≡ Going s
going_is at s Running h e = h
going_is at s (Asked key) h e = h.0
going_is at s (Ended end out) h e = let t : true ≡ false = ap is_over (sym h) ∙ e in cc

-- the call is not over at one more moment
pub goes_on_more : (call : Invocation) (store : Storage) (n : ℕ) → GoesOnUntil call store n → is_over (moment_over call store n) ≡ false → GoesOnUntil call store (n + 1)
goes_on_more call store n before here = below_more (λ (k : ℕ). is_over (moment_over call store k) ≡ false) n before here

-- a moment more
pub next_suc : (call : Invocation) (store : Storage) (n : ℕ) → moment_over call store (suc n) ≡ advance_over store (moment_over call store n)
next_suc call store n =
    let first : Progress = Going (start call) in
    ap (λ (at : Progress × Storage). at.0) (one_more from_storage n (first, store) ∙ ap (advance from_storage) (keeps_storage store first n))

pub next_moment : (call : Invocation) (store : Storage) (n : ℕ) → moment_over call store (n + 1) ≡ advance_over store (moment_over call store n)
next_moment call store n = rw add-one (next_suc call store n)

-- a run that made a step is at the next moment
pub stands_next : (call : Invocation) (store : Storage) (n : ℕ) (old new : RunView) → IsRunAt (moment_over call store n) old → is_over (moment_over call store n) ≡ false → IsRunAt (advance_over store (Going old.machine)) new → IsRunAt (moment_over call store (n + 1)) new
stands_next call store n old new h e made =
    subst (λ (x : Progress). IsRunAt x new)
    (sym (next_moment call store n ∙ ap (advance_over store) (going_is (moment_over call store n) old.machine old.stage h e))) made

next_cases : (old new : ReplayState) (b : Bool) → is_at_end old ≡ b → (if b then None else Some (record old { moment = old.moment + 1 })) ≡ Some new → (is_at_end old ≡ false) × (record old { moment = old.moment + 1 } ≡ new)
next_cases old new true e h = cc
next_cases old new false e h = (e, cc)

-- a step leaves fewer to come
pub fewer_left : (old new : ReplayState) → next_of old ≡ Some new → new.call.gas + 1 - new.moment < old.call.gas + 1 - old.moment
fewer_left old new h =
    let found = next_cases old new (is_at_end old) refl h in
    let within = within_gas old.call old.store old.moment found.0 in
    let left : old.call.gas + 1 - (old.moment + 1) < old.call.gas + 1 - old.moment = omega (arith, within) in
    subst (λ (r : ReplayState). r.call.gas + 1 - r.moment < old.call.gas + 1 - old.moment) found.1 left
