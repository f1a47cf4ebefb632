-- Moves by more than one step.
use Rattle.std.proofs.Common.{◌≡◌, ℕ, zero, suc, ◌+◌, ◌-◌, ◌<◌, ◌≤◌, Bool, true, false, if◌then◌else◌, Option, IsSome, refl, sym, ap, subst, ◌∙◌, inl, inr, arith}
use Rattle.std.proofs.lemmas.Bool.{cases_order}
use Rattle.rv_ledger.specs.Key.{Storage}
use Rattle.rv_ledger.specs.Call.{Invocation}
use Rattle.rv_step.specs.declared.machine.Machine.{Machine}
use Rattle.rv_step.specs.declared.stage.Stage.{Stage}
use Rattle.rv_step.specs.declared.stage.Stage.TheVariants.{Running, Asked, Ended}
use Rattle.rv_step.specs.Moment.{from_storage, is_over, moment_over}
use Rattle.rv_step.specs.Moment as moment
use Rattle.rv_step.specs.Run.{RunView, after_one, after_steps, asked_key, is_running, run_after_result}
use Rattle.rv_step.specs.Step.{Progress, Going, Over, StepResult, Leads, Asks, step}
use Rattle.rv_step.specs.Until.{GoesUntil, is_at}
use Rattle.rv_step.proofs.Steps.{more}
use Rattle.rv_step.proofs.Walks.{runs_on}
use Rattle.debugger.specs.Further.{GoesOver, steps_over, wants}
use Rattle.debugger.specs.Replay.{IsLaterMoment, ReplayState, is_at_end, stops}
use Rattle.debugger.specs.ReplayMoment.{AreOf, GoesOnUntil, IsAnswered, IsAnsweredAt, IsRunAt, advance_over}
use Rattle.debugger.proofs.Moments.{within_gas}
use Rattle.debugger.proofs.ReplayMoments.{going_is, next_suc}
use Rattle.debugger.proofs.Stops.{not_over}

-- ---- the steps of a run are those of its call over a storage

module _ (store : Storage) where
  -- a step after which the run can make another
  on_result : (o : StepResult) (q : RunView) → is_running (run_after_result o q).stage ≡ true → (moment.after_result from_storage q.machine o store).0 ≡ Going (run_after_result o q).machine
  on_result (Leads (Going t)) q on = refl
  on_result (Leads (Over end out t)) q on = cc
  on_result (Asks key) q on = cc

  -- the last step, and its answer if it asked
  last_result : (o : StepResult) (q new : RunView) → IsAnswered store (run_after_result o q) new → IsRunAt (moment.after_result from_storage q.machine o store).0 new
  last_result (Leads (Going t)) q new answered = rw answered refl
  last_result (Leads (Over end out t)) q new answered = rw answered refl
  last_result (Asks key) q new answered = answered

  -- a last step that was not answered yet
  unanswered_result : (o : StepResult) (q : RunView) → step q.machine ≡ o → IsSome (asked_key (run_after_result o q).stage) → IsRunAt (Going q.machine) (run_after_result o q)
  unanswered_result (Leads (Going t)) q e asked = cc
  unanswered_result (Leads (Over end out t)) q e asked = cc
  unanswered_result (Asks key) q e asked = (refl, e)

  -- the answer of a run that asked before
  asked_next : (stage : Stage) (r new : RunView) → is_running stage ≡ false → AreOf (Going r.machine) r.machine stage → IsAnsweredAt store stage r new → IsRunAt (advance_over store (Going r.machine)) new
  asked_next Running r new still at answered = cc
  asked_next (Asked key) r new still at answered = subst (λ (o : StepResult). IsRunAt (moment.after_result from_storage r.machine o store).0 new) (sym at.1) answered
  asked_next (Ended end out) r new still at answered = cc

  pub answer_over : (stop : Option ℕ) (most : ℕ) (r new : RunView) → 0 < most → is_running r.stage ≡ false → IsRunAt (Going r.machine) r → IsAnswered store r new → GoesOver store stop most 1 (Going r.machine) new
  unfolding steps_over
  answer_over stop most r new some still at answered = record {
    some = omega arith;
    within = omega arith;
    stands = asked_next r.stage r new still at answered;
    between = λ k after before. absurd (omega arith);
  }

  one_is : (q : RunView) → is_running q.stage ≡ true → after_one q ≡ run_after_result (step q.machine) q
  one_is q running = ap (λ (b : Bool). if b then run_after_result (step q.machine) q else q) running

  module _ (r : RunView) where
    same_place : (n : ℕ) → ((k : ℕ) → k ≤ n → is_running (after_steps k r).stage ≡ true) → steps_over store n (Going r.machine) ≡ Going (after_steps n r).machine
    unfolding steps_over
    same_place zero runs = refl
    same_place (suc n) runs =
        let q : RunView = after_steps n r in
        let on : is_running q.stage ≡ true = runs n (omega arith) in
        let is : after_steps (suc n) r ≡ run_after_result (step q.machine) q = more n r ∙ one_is q on in
        ap (advance_over store) (same_place n (λ k below. runs k (omega arith)))
        ∙ on_result (step q.machine) q (subst (λ (p : RunView). is_running p.stage ≡ true) is (runs (suc n) (omega arith)))
        ∙ ap (λ (p : RunView). Going p.machine) (sym is)

    module _ (stop : Option ℕ) (most : ℕ) (running : is_running r.stage ≡ true) where
      runs : (made : ℕ) (q : RunView) → GoesUntil stop most made r q → (k : ℕ) → k < made → is_running (after_steps k r).stage ≡ true
      runs made q goes zero below = running
      runs made q goes (suc k) below =
          let p : RunView = after_steps (suc k) r in
          runs_on stop p (is_running p.stage) refl (goes.between (suc k) (omega arith) below)

      -- it stops on the way at no moment of the call
      on_way : (made : ℕ) (q : RunView) → GoesUntil stop most made r q → (k : ℕ) → 0 < k → k < made → stops (wants stop) (steps_over store k (Going r.machine)) ≡ false
      on_way made q goes k after before =
          let p : RunView = after_steps k r in
          let on : is_running p.stage ≡ true = runs made q goes k before in
          let at : is_at stop p.machine.pc ≡ false = rw on at (goes.between k after before) in
          ap (stops (wants stop)) (same_place k (λ j below. runs made q goes j (omega arith))) ∙ at

      pub goes_over : (made : ℕ) (q new : RunView) → GoesUntil stop most made r q → IsAnswered store q new → GoesOver store stop most made (Going r.machine) new
      unfolding steps_over
      goes_over zero q new goes answered = absurd (let some = goes.some in omega (arith, some))
      goes_over (suc n) q new goes answered =
          let p : RunView = after_steps n r in
          let on : is_running p.stage ≡ true = runs (suc n) q goes n (omega arith) in
          let is : q ≡ run_after_result (step p.machine) p = goes.steps ∙ more n r ∙ one_is p on in
          record {
            some = omega arith;
            within = goes.within;
            stands =
                subst (λ (at : Progress). IsRunAt (advance_over store at) new) (sym (same_place n (λ k below. runs (suc n) q goes k (omega arith))))
                (last_result (step p.machine) p new (subst (λ (x : RunView). IsAnswered store x new) is answered));
            between = on_way (suc n) q goes;
          }

      -- the last step asked, and was not answered
      unanswered : (n : ℕ) (q new : RunView) → GoesUntil stop most (suc n) r q → new ≡ q → IsSome (asked_key q.stage) → IsRunAt (steps_over store n (Going r.machine)) new
      unanswered n q new goes same asked =
          let p : RunView = after_steps n r in
          let on : is_running p.stage ≡ true = runs (suc n) q goes n (omega arith) in
          let is : q ≡ run_after_result (step p.machine) p = goes.steps ∙ more n r ∙ one_is p on in
          subst (λ (at : Progress). IsRunAt at new) (sym (same_place n (λ k below. runs (suc n) q goes k (omega arith))))
          (subst (λ (x : RunView). IsRunAt (Going p.machine) x) (sym (same ∙ is))
          (unanswered_result (step p.machine) p refl (subst (λ (x : RunView). IsSome (asked_key x.stage)) is asked)))

      pub one_unanswered : (made : ℕ) (q new : RunView) → made ≡ 1 → GoesUntil stop most made r q → new ≡ q → IsSome (asked_key q.stage) → IsRunAt (Going r.machine) new
      unfolding steps_over
      one_unanswered made q new one goes same asked = unanswered 0 q new (subst (λ (k : ℕ). GoesUntil stop most k r q) one goes) same asked

      pub one_less_over : (made : ℕ) (q new : RunView) → (made ≡ 1 → ⊥) → GoesUntil stop most made r q → new ≡ q → IsSome (asked_key q.stage) → GoesOver store stop most (made - 1) (Going r.machine) new
      one_less_over zero q new many goes same asked = absurd (let some = goes.some in omega (arith, some))
      one_less_over (suc zero) q new many goes same asked = absurd (many refl)
      one_less_over (suc (suc n)) q new many goes same asked = record {
        some = omega arith;
        within = let within = goes.within in omega (arith, within);
        stands = let e : suc n ≡ suc (suc n) - 1 = omega arith in subst (λ (k : ℕ). IsRunAt (steps_over store k (Going r.machine)) new) e (unanswered (suc n) q new goes same asked);
        between = λ k after before. on_way (suc (suc n)) q goes k after (omega arith);
      }

-- ---- from a moment on

moment_sum : (call : Invocation) (store : Storage) (m n : ℕ) → moment_over call store (m + n) ≡ steps_over store n (moment_over call store m)
unfolding steps_over
moment_sum call store m zero = let e : m + 0 ≡ m = omega arith in ap (moment_over call store) e
moment_sum call store m (suc n) =
    let e : m + suc n ≡ suc (m + n) = omega arith in
    ap (moment_over call store) e ∙ next_suc call store (m + n) ∙ ap (advance_over store) (moment_sum call store m n)

module _ (call : Invocation) (store : Storage) (m : ℕ) (run new : RunView) (stop : Option ℕ) (most made : ℕ) (stood : IsRunAt (moment_over call store m) run) (going : is_over (moment_over call store m) ≡ false) (goes : GoesOver store stop most made (Going run.machine) new) where
  at_step : (k : ℕ) → steps_over store k (Going run.machine) ≡ moment_over call store (m + k)
  at_step k = sym (moment_sum call store m k ∙ ap (steps_over store k) (going_is (moment_over call store m) run.machine run.stage stood going))

  pub further_stands : IsRunAt (moment_over call store (m + made)) new
  further_stands = subst (λ (at : Progress). IsRunAt at new) (at_step made) goes.stands

  further_between : (n : ℕ) → m < n → n < m + made → stops (wants stop) (moment_over call store n) ≡ false
  further_between n after before =
      let e : m + (n - m) ≡ n = omega arith in
      subst (λ (at : Progress). stops (wants stop) at ≡ false) (at_step (n - m) ∙ ap (moment_over call store) e)
      (goes.between (n - m) (omega arith) (omega arith))

  pub further_earlier : GoesOnUntil call store m → GoesOnUntil call store (m + made)
  further_earlier before n below = elim (cases_order m n) [
    | inl same ↦ subst (λ (k : ℕ). is_over (moment_over call store k) ≡ false) same going
    | inr apart ↦ elim apart [
      | inl later ↦ not_over (wants stop) (moment_over call store n) (further_between n later below)
      | inr earlier ↦ before n earlier
    ]
  ]

  pub further_gas : GoesOnUntil call store m → m + made ≤ call.gas + 1
  further_gas before =
      let some = goes.some in
      let within = within_gas call store (m + made - 1) (further_earlier before (m + made - 1) (omega (arith, some))) in
      omega (arith, within, some)

  pub further_past : IsLaterMoment (wants stop) (record { call = call; store = store; moment = m }) (record { call = call; store = store; moment = m + made })
  further_past = record { call = refl; store = refl; later = omega arith; between = further_between }

-- a move leaves fewer moments to come
pub fewer_to_come : (is_wanted : Machine → Bool) (old new : ReplayState) → is_at_end old ≡ false → IsLaterMoment is_wanted old new → old.moment < new.moment → new.call.gas + 1 - new.moment < old.call.gas + 1 - old.moment
fewer_to_come is_wanted old new going past later =
    let within = within_gas old.call old.store old.moment going in
    let same : new.call.gas ≡ old.call.gas = ap (λ (c : Invocation). c.gas) past.call in
    omega (arith, within, same, later)
