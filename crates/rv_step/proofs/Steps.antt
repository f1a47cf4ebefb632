-- Runs after a number of steps.
use Rattle.std.proofs.Common.{◌≡◌, ℕ, zero, suc, Bool, true, false, if◌then◌else◌, List, [], ◌∷◌, Some, refl, sym, ap, ◌∙◌}
use Rattle.rv_ledger.specs.Change.{Content}
use Rattle.rv_step.specs.declared.machine.Machine.{Machine}
use Rattle.rv_step.specs.declared.stage.Stage.{Stage}
use Rattle.rv_step.specs.declared.stage.Stage.TheVariants.{Running, Asked, Ended}
use Rattle.rv_step.specs.Step.{Progress, Going, Over, StepResult, Leads, Asks, step}
use Rattle.rv_step.specs.Moment.{Reply, advance, from_replies, moment_from}
use Rattle.rv_step.specs.Run.{RunView, after_one, after_steps, is_running, run_after_result, standing_at}
use Rattle.rv_step.proofs.Moments.{advance_leads, advance_waits, kept}

-- ---- one step more

told_none : (left : List Reply) (key : List ℕ) (content : Content) (rest : List Reply) → left ≡ [] → from_replies left key ≡ Some (content, rest) → rest ≡ []
told_none [] key content rest none e = cc
told_none (reply ∷ left) key content rest none e = cc

-- without replies none is left
leaves_none : (n : ℕ) (progress : Progress) → (moment_from from_replies n (progress, [])).1 ≡ []
leaves_none n progress = kept from_replies (λ at. at.1 ≡ []) (λ s left next none e. none) (λ s left key content rest none e told. told_none left key content rest none told) n (progress, []) refl

-- a run makes the steps of its chain, and asks when the chain waits
result_made : (r : RunView) (s : Machine) (o : StepResult) → step s ≡ o → after_one (standing_at (advance from_replies (Going s, [])).0 r) ≡ after_one (after_one (standing_at (Going s) r))
result_made r s (Leads progress) e =
    ap (λ (at : Progress × List Reply). after_one (standing_at at.0 r)) (advance_leads from_replies s [] progress e)
    ∙ sym (ap (λ (o : StepResult). after_one (run_after_result o (record r { machine = s; stage = Running }))) e ∙ stood r progress)
  where
    stood : (r : RunView) (progress : Progress) → after_one (standing_at progress (record r { machine = s; stage = Running })) ≡ after_one (standing_at progress r)
    stood r (Going t) = refl
    stood r (Over end out t) = refl
result_made r s (Asks key) e =
    ap (λ (at : Progress × List Reply). after_one (standing_at at.0 r)) (advance_waits from_replies s [] key e refl)
    ∙ ap (λ (o : StepResult). run_after_result o (record r { machine = s; stage = Running })) e
    ∙ sym (ap (λ (o : StepResult). after_one (run_after_result o (record r { machine = s; stage = Running }))) e)

progress_made : (r : RunView) (progress : Progress) (left : List Reply) → left ≡ [] → after_one (standing_at (advance from_replies (progress, left)).0 r) ≡ after_one (after_one (standing_at progress r))
progress_made r (Going s) left e = rw e (result_made r s (step s) refl)
progress_made r (Over end out s) left e = refl

running_stands : (r : RunView) (stage : Stage) → r.stage ≡ stage → is_running stage ≡ true → standing_at (Going r.machine) r ≡ r
running_stands r Running e running = ap (λ (x : Stage). record r { stage = x }) (sym e)
running_stands r (Asked key) e running = cc
running_stands r (Ended end out) e running = cc

-- a run that can make no step does not change
still_one : (r : RunView) → is_running r.stage ≡ false → after_one r ≡ r
still_one r still = ap (λ (b : Bool). if b then run_after_result (step r.machine) r else r) still

stays_still : (n : ℕ) (r : RunView) → is_running r.stage ≡ false → after_steps n r ≡ r
stays_still zero r still = refl
stays_still (suc n) r still = ap (λ (b : Bool). if b then after_one (standing_at (moment_from from_replies n (Going r.machine, [])).0 r) else r) still

first_step : (r : RunView) → is_running r.stage ≡ true → after_steps (suc zero) r ≡ after_one r
unfolding moment_from
first_step r running = ap (λ (b : Bool). if b then after_one (standing_at (Going r.machine) r) else r) running ∙ ap after_one (running_stands r r.stage refl running)

more_if : (n : ℕ) (r : RunView) (b : Bool) → is_running r.stage ≡ b → after_steps (suc n) r ≡ after_one (after_steps n r)
unfolding moment_from
more_if zero r true running = first_step r running
more_if (suc n) r true running = rw running (let before = moment_from from_replies n (Going r.machine, []) in progress_made r before.0 before.1 (leaves_none n (Going r.machine)))
more_if n r false still = stays_still (suc n) r still ∙ sym (still_one r still) ∙ ap after_one (sym (stays_still n r still))

-- ---- runs

-- one step more
pub more : (n : ℕ) (r : RunView) → after_steps (suc n) r ≡ after_one (after_steps n r)
more n r = more_if n r (is_running r.stage) refl

-- a run is itself after no steps
pub no_steps : (r : RunView) → (n : ℕ) × (r ≡ after_steps n r)
no_steps r = (zero, refl)

-- a run that can make a step makes it
step_made : (r : RunView) → is_running r.stage ≡ true → run_after_result (step r.machine) r ≡ after_one r
step_made r e = rw e refl

-- if some steps led to a run, a step of it is one more
pub one_more_step : (r s t : RunView) → (n : ℕ) × (s ≡ after_steps n r) → is_running s.stage ≡ true → t ≡ run_after_result (step s.machine) s → (n : ℕ) × (t ≡ after_steps n r)
one_more_step r s t made running e = (suc made.0, e ∙ step_made s running ∙ ap after_one made.1 ∙ sym (more made.0 r))

joined : (m n : ℕ) (r : RunView) → (k : ℕ) × (after_steps m (after_steps n r) ≡ after_steps k r)
joined zero n r = (n, refl)
joined (suc m) n r = let before = joined m n r in (suc before.0, more m (after_steps n r) ∙ ap after_one before.1 ∙ sym (more before.0 r))

-- if some steps led to a run, steps of it are steps of the first run
pub more_steps : (r s t : RunView) → (n : ℕ) × (s ≡ after_steps n r) → (m : ℕ) × (t ≡ after_steps m s) → (n : ℕ) × (t ≡ after_steps n r)
more_steps r s t made more =
    let both = joined more.0 made.0 r in
    (both.0, more.1 ∙ ap (λ (q : RunView). after_steps more.0 q) made.1 ∙ both.1)
