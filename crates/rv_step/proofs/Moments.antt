-- Moments of a chain of steps: one step more, and the moment from which on nothing changes.
use Rattle.std.proofs.Common.{◌≡◌, ℕ, zero, suc, ◌+◌, ◌≤◌, ◌⊎◌, inl, inr, List, Option, Some, None, refl, sym, ap, ◌∙◌, arith}
use Rattle.rv_ledger.specs.Change.{Content}
use Rattle.rv_step.specs.declared.machine.Machine.{Machine}
use Rattle.rv_step.specs.Step.{Progress, Going, Over, StepResult, Leads, Asks, step, answered, delivered}
use Rattle.rv_step.specs.Moment.{Source, advance, after_asking, after_result, machine_of, moment_from}
use Rattle.rv_step.proofs.Kept.{IsKept, answered_stays, step_stays}
use Rattle.rv_step.proofs.Falls.{IsFalling, answered_falls, less_gas, step_falls}

module _ {A : Type 0} (source : Source A) where
  -- ---- one step more

  pub one_more : (n : ℕ) (at : Progress × A) → moment_from source (suc n) at ≡ advance source (moment_from source n at)
  unfolding moment_from
  one_more n at = refl

  pub no_more : (at : Progress × A) → moment_from source zero at ≡ at
  unfolding moment_from
  no_more at = refl

  module _ (s : Machine) (left : A) where
    -- a step that leads to a state
    pub advance_leads : (progress : Progress) → step s ≡ Leads progress → advance source (Going s, left) ≡ (progress, left)
    advance_leads progress e = ap (λ (o : StepResult). after_result source s o left) e

    -- a step that asks and is answered
    pub advance_told : (key : List ℕ) (content : Content) (rest : A) → step s ≡ Asks key → source left key ≡ Some (content, rest) → advance source (Going s, left) ≡ (answered s (delivered s key content), rest)
    advance_told key content rest e a = ap (λ (o : StepResult). after_result source s o left) e ∙ ap (after_asking s key left) a

    -- and one that is not answered
    pub advance_waits : (key : List ℕ) → step s ≡ Asks key → source left key ≡ None → advance source (Going s, left) ≡ (Going s, left)
    advance_waits key e a = ap (λ (o : StepResult). after_result source s o left) e ∙ ap (after_asking s key left) a

  -- ---- what each step keeps

  module _ (P : Progress × A → Type 0) (leads : (s : Machine) (left : A) (progress : Progress) → P (Going s, left) → step s ≡ Leads progress → P (progress, left)) (told : (s : Machine) (left : A) (key : List ℕ) (content : Content) (rest : A) → P (Going s, left) → step s ≡ Asks key → source left key ≡ Some (content, rest) → P (answered s (delivered s key content), rest)) where
    answer_keeps : (s : Machine) (left : A) (key : List ℕ) (answer : Option (Content × A)) → P (Going s, left) → step s ≡ Asks key → source left key ≡ answer → P (after_asking s key left answer)
    answer_keeps s left key None holds e a = holds
    answer_keeps s left key (Some (content, rest)) holds e a = told s left key content rest holds e a

    result_keeps : (s : Machine) (left : A) (o : StepResult) → P (Going s, left) → step s ≡ o → P (after_result source s o left)
    result_keeps s left (Leads progress) holds e = leads s left progress holds e
    result_keeps s left (Asks key) holds e = answer_keeps s left key (source left key) holds e refl

    next_keeps : (progress : Progress) (left : A) → P (progress, left) → P (advance source (progress, left))
    next_keeps (Going s) left holds = result_keeps s left (step s) holds refl
    next_keeps (Over end out s) left holds = holds

    -- what each step keeps holds at each moment
    pub kept : (n : ℕ) (at : Progress × A) → P at → P (moment_from source n at)
    unfolding moment_from
    kept zero at holds = holds
    kept (suc n) at holds = let before = moment_from source n at in next_keeps before.0 before.1 (kept n at holds)

  -- so does a property that each change of the machine keeps
  pub kept_at : (P : Machine → Type 0) → IsKept P → (n : ℕ) (at : Progress × A) → P (machine_of at.0) → P (machine_of (moment_from source n at).0)
  kept_at P keeps n at holds = kept (λ (x : Progress × A). P (machine_of x.0))
      (λ s left progress before e. step_stays P keeps s progress before e)
      (λ s left key content rest before e told. answered_stays P keeps s (delivered s key content) before)
      n at holds

  -- steps from a moment on
  pub joined : (m n : ℕ) (at : Progress × A) → (k : ℕ) × (moment_from source m (moment_from source n at) ≡ moment_from source k at)
  unfolding moment_from
  joined zero n at = (n, refl)
  joined (suc m) n at = let before = joined m n at in (suc before.0, ap (advance source) before.1)

  -- ---- the moment at which nothing more changes

  abbrev pub IsLast : Progress × A → Type 0
  IsLast at = advance source at ≡ at

  -- from then on it stays the same
  pub stays : (n : ℕ) (at : Progress × A) → IsLast at → moment_from source n at ≡ at
  unfolding moment_from
  stays zero at last = refl
  stays (suc n) at last = ap (advance source) (stays n at last) ∙ last

  sooner : (n : ℕ) (at : Progress × A) → moment_from source n (advance source at) ≡ advance source (moment_from source n at)
  unfolding moment_from
  sooner zero at = refl
  sooner (suc n) at = ap (advance source) (sooner n at)

  either_first : (m n : ℕ) (at : Progress × A) → moment_from source m (moment_from source n at) ≡ moment_from source n (moment_from source m at)
  unfolding moment_from
  either_first zero n at = refl
  either_first (suc m) n at = ap (advance source) (either_first m n at) ∙ sym (sooner n (moment_from source m at))

  -- there is only one such moment
  pub one_last : (m n : ℕ) (at : Progress × A) → IsLast (moment_from source m at) → IsLast (moment_from source n at) → moment_from source m at ≡ moment_from source n at
  one_last m n at first second = sym (stays n (moment_from source m at) first) ∙ sym (either_first m n at) ∙ stays m (moment_from source n at) second

  -- ---- the gas bounds when it comes

  -- nothing changes any more, or n steps have taken gas
  abbrev pub IsNear : ℕ → ℕ → Progress × A → Type 0
  IsNear limit n at = IsLast at ⊎ ((machine_of at.0).gas + n ≤ limit)

  near_progress : (limit n : ℕ) (s : Machine) (progress : Progress) (left : A) → IsFalling s.gas progress → s.gas + n ≤ limit → IsNear limit (suc n) (progress, left)
  near_progress limit n s (Going t) left falls near = let less = less_gas s.gas t falls in inr (omega (arith, less, near))
  near_progress limit n s (Over end out t) left falls near = inl refl

  near_answer : (limit n : ℕ) (s : Machine) (key : List ℕ) (left : A) (answer : Option (Content × A)) → step s ≡ Asks key → source left key ≡ answer → s.gas + n ≤ limit → IsNear limit (suc n) (after_asking s key left answer)
  near_answer limit n s key left None e a near = inl (advance_waits s left key e a)
  near_answer limit n s key left (Some (content, rest)) e a near = near_progress limit n s (answered s (delivered s key content)) rest (answered_falls s (delivered s key content)) near

  near_result : (limit n : ℕ) (s : Machine) (o : StepResult) (left : A) → step s ≡ o → s.gas + n ≤ limit → IsNear limit (suc n) (after_result source s o left)
  near_result limit n s (Leads progress) left e near = near_progress limit n s progress left (step_falls s progress e) near
  near_result limit n s (Asks key) left e near = near_answer limit n s key left (source left key) e refl near

  near_next : (limit n : ℕ) (progress : Progress) (left : A) → IsNear limit n (progress, left) → IsNear limit (suc n) (advance source (progress, left))
  near_next limit n (Going s) left (inl last) = inl (ap (advance source) last)
  near_next limit n (Going s) left (inr near) = near_result limit n s (step s) left refl near
  near_next limit n (Over end out s) left near = inl refl

  pub near_at : (limit n : ℕ) (at : Progress × A) → (machine_of at.0).gas ≤ limit → IsNear limit n (moment_from source n at)
  unfolding moment_from
  near_at limit zero at h = inr (omega (arith, h))
  near_at limit (suc n) at h = let before = moment_from source n at in near_next limit n before.0 before.1 (near_at limit n at h)

  last_of : (limit : ℕ) (at : Progress × A) → IsNear limit (suc limit) at → IsLast at
  last_of limit at (inl last) = last
  last_of limit at (inr near) = absurd (omega (arith, near))

  -- after one step more than the gas nothing changes any more
  pub last_after_gas : (limit : ℕ) (at : Progress × A) → (machine_of at.0).gas ≤ limit → IsLast (moment_from source (suc limit) at)
  last_after_gas limit at h = last_of limit (moment_from source (suc limit) at) (near_at limit (suc limit) at h)

  -- so each moment from which on nothing changes is that one
  pub last_is : (limit n : ℕ) (at : Progress × A) → (machine_of at.0).gas ≤ limit → IsLast (moment_from source n at) → moment_from source (suc limit) at ≡ moment_from source n at
  last_is limit n at h last = one_last (suc limit) n at (last_after_gas limit at h) last
