-- Steps after which the call continues, up to a pc.
use Rattle.std.proofs.Common.{◌≡◌, ℕ, zero, suc, ◌+◌, ◌-◌, ◌<◌, ◌≤◌, Bool, true, false, Option, refl, sym, ap, subst, ◌∙◌, inl, inr, arith, add-one, eq-or-lt_of_le}
use Rattle.std.proofs.lemmas.Bool.{cases_order}
use Rattle.rv_step.specs.declared.machine.Machine.{Machine}
use Rattle.rv_step.specs.Meets.{Reaches}
use Rattle.rv_step.specs.Run.{RunView, after_one, after_steps, is_running, run_after_result}
use Rattle.rv_step.specs.Step.{Leads, Going, step}
use Rattle.rv_step.specs.Until.{GoesUntil, is_at, stops_at}
use Rattle.rv_step.specs.Walks.{Walks}
use Rattle.rv_step.proofs.Reached.{reached_steps}
use Rattle.rv_step.proofs.Steps.{more}

-- ---- machines

pub none_walked : (stop : Option ℕ) (s : Machine) → Walks stop 0 s s
unfolding Walks
none_walked stop s = refl

pub one_walked : (stop : Option ℕ) (n : ℕ) (s m t : Machine) → Walks stop n s m → is_at stop m.pc ≡ false → step m ≡ Leads (Going t) → Walks stop (n + 1) s t
unfolding Walks
one_walked stop n s m t before on made = rw add-one (m, before, on, made)

-- the call continues after each of them
pub walk_reaches : (stop : Option ℕ) (n : ℕ) (s t : Machine) → Walks stop n s t → Reaches n s t
unfolding Walks Reaches
walk_reaches stop zero s t walked = walked
walk_reaches stop (suc n) s t walked = (walked.0, walk_reaches stop n s walked.0 walked.1, walked.3)

-- ---- runs

-- a run that can make a step stops only at the pc
stops_at_pc : (stop : Option ℕ) (r : RunView) (b : Bool) → is_running r.stage ≡ true → is_at stop r.machine.pc ≡ b → stops_at stop r ≡ b
stops_at_pc stop r b running at = rw (running, at) refl

-- no run stops on the way
pub walk_between : (stop : Option ℕ) (n : ℕ) (r : RunView) (t : Machine) → is_running r.stage ≡ true → Walks stop n r.machine t → (k : ℕ) → k < n → stops_at stop (after_steps k r) ≡ false
unfolding Walks
walk_between stop zero r t running walked k below = absurd (omega arith)
walk_between stop (suc n) r t running walked k below =
    let le : k ≤ n = omega arith in
    elim (eq-or-lt_of_le le) [
      | inl same ↦
          subst (λ (q : RunView). stops_at stop q ≡ false)
          (reached_steps n r walked.0 running (walk_reaches stop n r.machine walked.0 walked.1) ∙ ap (λ (j : ℕ). after_steps j r) (sym same))
          (stops_at_pc stop (record r { machine = walked.0 }) false running walked.2)
      | inr less ↦ walk_between stop n r walked.0 running walked.1 k less
    ]

-- ---- steps of a run up to a pc

-- steps after steps
pub steps_sum : (m n : ℕ) (r : RunView) → after_steps m (after_steps n r) ≡ after_steps (n + m) r
steps_sum zero n r = let e : n ≡ n + 0 = omega arith in ap (λ (k : ℕ). after_steps k r) e
steps_sum (suc m) n r =
    let e : suc (n + m) ≡ n + suc m = omega arith in
    more m (after_steps n r) ∙ ap after_one (steps_sum m n r) ∙ sym (more (n + m) r) ∙ ap (λ (k : ℕ). after_steps k r) e

-- a run that does not stop can make a step
pub runs_on : (stop : Option ℕ) (r : RunView) (b : Bool) → is_running r.stage ≡ b → stops_at stop r ≡ false → b ≡ true
runs_on stop r true running on = refl
runs_on stop r false running on = absurd (let e : true ≡ false = rw running at on in cc)

pub one_step : (r : RunView) → is_running r.stage ≡ true → run_after_result (step r.machine) r ≡ after_steps 1 r
one_step r running = let e : after_one r ≡ run_after_result (step r.machine) r = rw running refl in sym (more 0 r ∙ e)

-- one step
pub one_goes : (stop : Option ℕ) (most : ℕ) (old new : RunView) → 0 < most → is_running old.stage ≡ true → new ≡ run_after_result (step old.machine) old → GoesUntil stop most 1 old new
one_goes stop most old new some running made = record {
  steps = made ∙ one_step old running;
  some = omega arith;
  within = omega arith;
  between = λ n after before. absurd (omega arith);
}

-- steps after steps that did not lead to a stop
pub goes_more : (stop : Option ℕ) (most m n : ℕ) (old mid new : RunView) → GoesUntil stop most m old mid → stops_at stop mid ≡ false → GoesUntil stop (most - m) n mid new → GoesUntil stop most (m + n) old new
goes_more stop most m n old mid new first on next = record {
  steps = next.steps ∙ ap (after_steps n) first.steps ∙ steps_sum n m old;
  some = let a = first.some in omega (arith, a);
  within = let a = first.within in let b = next.within in omega (arith, a, b);
  between = λ k after before. by_place k after before;
}
  where
    behind : (k : ℕ) → m < k → k < m + n → stops_at stop (after_steps k old) ≡ false
    behind k after before =
        let e : m + (k - m) ≡ k = omega arith in
        subst (λ (q : RunView). stops_at stop q ≡ false)
        (ap (after_steps (k - m)) first.steps ∙ steps_sum (k - m) m old ∙ ap (λ (j : ℕ). after_steps j old) e)
        (next.between (k - m) (omega arith) (omega arith))

    by_place : (k : ℕ) → 0 < k → k < m + n → stops_at stop (after_steps k old) ≡ false
    by_place k after before =
        elim (cases_order m k) [
          | inl same ↦ subst (λ (q : RunView). stops_at stop q ≡ false) (first.steps ∙ ap (λ (j : ℕ). after_steps j old) same) on
          | inr apart ↦ elim apart [ inl less ↦ behind k less before | inr more ↦ first.between k after more ]
        ]
