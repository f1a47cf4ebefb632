-- A call makes at most as many charged steps as it has gas.
use Rattle.std.proofs.Common.{◌≡◌, ℕ, zero, suc, ◌+◌, ◌<◌, ◌≤◌, Bool, true, false, if◌then◌else◌, nat_lt, List, Option, Some, None, refl, arith}
use Rattle.std.proofs.lemmas.Bool.Decides.{nat_tests}
use Rattle.rv_ledger.specs.Call.{Invocation}
use Rattle.rv_ledger.specs.Change.{Content}
use Rattle.rv_step.specs.declared.machine.Machine.{Machine}
use Rattle.rv_step.specs.Step.{Progress, Going, Over, StepResult, Leads, Asks, answered, delivered, step}
use Rattle.rv_step.specs.Moment.{Reply, advance, after_asking, after_result, from_replies, moment_from, moment_with, start}
use Rattle.rv_step.specs.Charged.{charged_steps, gas_after, gas_left}
use Rattle.rv_step.proofs.Falls.{IsFalling, answered_falls, end_gas, less_gas, step_falls}
use Rattle.rv_step.proofs.Moments.{one_more}
use Rattle.rv_step.proofs.Receipts.{start_gas}

-- ---- no step returns gas

falls_within : (gas : ℕ) (progress : Progress) → IsFalling gas progress → gas_left progress ≤ gas
falls_within gas (Going t) falls = let less = less_gas gas t falls in omega (arith, less)
falls_within gas (Over end out t) falls = end_gas gas end out t falls

asked_within : (s : Machine) (key : List ℕ) (left : List Reply) (answer : Option (Content × List Reply)) → gas_left (after_asking s key left answer).0 ≤ s.gas
asked_within s key left None = omega arith
asked_within s key left (Some (content, rest)) = falls_within s.gas (answered s (delivered s key content)) (answered_falls s (delivered s key content))

result_within : (s : Machine) (left : List Reply) (o : StepResult) → step s ≡ o → gas_left (after_result from_replies s o left).0 ≤ s.gas
result_within s left (Leads progress) e = falls_within s.gas progress (step_falls s progress e)
result_within s left (Asks key) e = asked_within s key left (from_replies left key)

next_within : (progress : Progress) (left : List Reply) → gas_left (advance from_replies (progress, left)).0 ≤ gas_left progress
next_within (Going s) left = result_within s left (step s) refl
next_within (Over end out s) left = omega arith

after_within : (call : Invocation) (replies : List Reply) (n : ℕ) → gas_after call replies (suc n) ≤ gas_after call replies n
after_within call replies n =
    let at : Progress × List Reply = moment_with call replies n in
    rw (one_more from_replies n (Going (start call), replies)) (next_within at.0 at.1)

-- ---- so the steps that take gas are no more than the gas

one_charged : (before after gas steps : ℕ) → after ≤ before → steps + before ≤ gas → (steps + (if nat_lt after before then 1 else 0)) + after ≤ gas
one_charged before after gas steps falls within = by_test (nat_lt after before) refl
  where
    by_test : (b : Bool) → nat_lt after before ≡ b → (steps + (if b then 1 else 0)) + after ≤ gas
    by_test true less = let below : after < before = grind (arith, nat_tests) in omega (arith, below)
    by_test false less = omega arith

charged_and_left : (call : Invocation) (replies : List Reply) (n : ℕ) → charged_steps call replies n + gas_after call replies n ≤ call.gas
unfolding charged_steps moment_from
charged_and_left call replies zero = let at = start_gas call in omega (arith, at)
charged_and_left call replies (suc n) = one_charged _ _ _ _ (after_within call replies n) (charged_and_left call replies n)

pub charged_within_gas : (call : Invocation) (replies : List Reply) (n : ℕ) → charged_steps call replies n ≤ call.gas
charged_within_gas call replies n = let both = charged_and_left call replies n in omega (arith, both)
