-- Each reply takes 200 gas, so a call asks for a key after few replies.
use Rattle.std.proofs.Common.{◌≡◌, ◌≤◌, ◌+◌, ◌-◌, ◌*◌, ◌/◌, nat_le, nat_lt, ℕ, List, [], ◌∷◌, length, Option, Some, None, Result, Ok, Err, subst, arith}
use Rattle.std.proofs.lemmas.Bool.{cond_both}
use Rattle.std.proofs.lemmas.Bool.Decides.{nat_tests}
use Rattle.rv_mem.specs.Space.{AccessFault, Space}
use Rattle.rv_ledger.specs.Call.{Invocation}
use Rattle.rv_ledger.specs.Change.{Content}
use Rattle.ecalls.specs.StorageCalls.{a2, late_charge}
use Rattle.rv_step.specs.declared.machine.Machine.{Machine}
use Rattle.rv_step.specs.Step.{Progress, Going, Over, Leads, Asks, step, answered, charged, delivered, delivery_result, memory_result, value_result}
use Rattle.rv_step.specs.Moment.{Reply, from_replies, moment_with, start}
use Rattle.rv_step.specs.Chain.{enough_steps}
use Rattle.rv_step.specs.Asked.{asked_by, key_asked}
use Rattle.rv_step.proofs.Falls.{less_gas, step_falls}
use Rattle.rv_step.proofs.Moments.{kept}
use Rattle.rv_step.proofs.Receipts.{reply_taken, start_gas}

-- ---- what a reply takes

-- if the call continues, at least `cost` of this gas is gone
unfoldable pub Takes : (cost gas : ℕ) → Progress → Type 0
Takes cost gas (Going t) = t.gas + cost ≤ gas
Takes cost gas (Over end out t) = Unit {0}

module _ (cost gas : ℕ) (s : Machine) where
  memory_takes : (registers : List ℕ) (r : Result Space AccessFault) → s.gas + cost ≤ gas → Takes cost gas (memory_result s registers r)
  unfolding Takes
  memory_takes registers (Ok memory) h = h
  memory_takes registers (Err cause) h = tt

  -- a charge is taken if it can be paid
  charged_takes : (charge : ℕ) (act : Machine → Progress) → (charge ≤ s.gas → Takes cost gas (act (record s { gas = s.gas - charge }))) → Takes cost gas (charged charge s act)
  charged_takes charge act h = cond_both (nat_le charge s.gas) _ _ (λ o. Takes cost gas o) (λ pays. h (grind (arith, nat_tests))) (λ _. unfold Takes in tt)

delivered_takes : (cost gas : ℕ) (s : Machine) (content : Option (List ℕ)) → s.gas + cost ≤ gas → Takes cost gas (delivery_result s content)
unfolding delivery_result
delivered_takes cost gas s None h = unfold Takes in h
delivered_takes cost gas s (Some value) h = cond_both (nat_lt (a2 s.regs) (length value)) _ _ (λ o. Takes cost gas o)
    (λ _. unfold Takes in h)
    (λ _. charged_takes cost gas s (late_charge s.rules (length value)) (λ t. value_result t value) (λ _. memory_takes cost gas (record s { gas = s.gas - late_charge s.rules (length value) }) _ _ (omega (arith, h))))

-- a reply takes 200 gas
pub reply_takes : (s : Machine) (content : Option (List ℕ)) → Takes 200 s.gas (answered s content)
unfolding answered
reply_takes s content = charged_takes 200 s.gas s 200 (λ t. delivery_result t content) (λ pays. delivered_takes 200 s.gas (record s { gas = s.gas - 200 }) content (omega (arith, pays)))

-- ---- a moment

-- each of `all` replies that was used took 200 of this gas; the last of them may have ended the call
unfoldable pub IsPaid : (gas : ℕ) → List Reply → Progress × List Reply → Type 0
IsPaid gas all (Going s, left) = 200 * length all + s.gas ≤ 200 * length left + gas
IsPaid gas all (Over end out s, left) = 200 * length all ≤ 200 * length left + gas + 200

module _ (gas : ℕ) (all : List Reply) where
  leads_paid : (s : Machine) (left : List Reply) (progress : Progress) → IsPaid gas all (Going s, left) → step s ≡ Leads progress → IsPaid gas all (progress, left)
  unfolding IsPaid
  leads_paid s left (Going t) paid e = let less = less_gas s.gas t (step_falls s (Going t) e) in omega (arith, paid, less)
  leads_paid s left (Over end out t) paid e = omega (arith, paid)

  answer_paid : (s : Machine) (reply : Reply) (left : List Reply) (progress : Progress) → IsPaid gas all (Going s, reply ∷ left) → Takes 200 s.gas progress → IsPaid gas all (progress, left)
  unfolding IsPaid Takes
  answer_paid s reply left (Going t) paid takes = omega (arith, paid, takes)
  answer_paid s reply left (Over end out t) paid takes = omega (arith, paid)

  told_paid : (s : Machine) (left : List Reply) (key : List ℕ) (content : Content) (rest : List Reply) → IsPaid gas all (Going s, left) → step s ≡ Asks key → from_replies left key ≡ Some (content, rest) → IsPaid gas all (answered s (delivered s key content), rest)
  told_paid s [] key content rest paid e told = cc
  told_paid s (reply ∷ left) key content rest paid e told =
      let taken = reply_taken reply left key content rest told in
      subst (λ l. IsPaid gas all (answered s (delivered s key content), l)) taken.2
      (answer_paid s reply left (answered s (delivered s key content)) paid (reply_takes s (delivered s key content)))

-- at each moment the replies that were used are paid
pub moments_paid : (call : Invocation) (replies : List Reply) (n : ℕ) → IsPaid call.gas replies (moment_with call replies n)
moments_paid call replies n = kept from_replies (IsPaid call.gas replies) (leads_paid call.gas replies) (told_paid call.gas replies)
    n (Going (start call), replies) (unfold IsPaid in let gas = start_gas call in omega (arith, gas))

few_asked : (gas : ℕ) (all left : List Reply) (progress : Progress) (key : List ℕ) → IsPaid gas all (progress, left) → key_asked (progress, left) ≡ Some key → length all ≤ gas / 200
unfolding IsPaid
few_asked gas all [] (Going s) key paid asks = omega (arith, paid)
few_asked gas all (reply ∷ left) (Going s) key paid asks = cc
few_asked gas all left (Over end out s) key paid asks = cc

-- a call that asks for a key has had at most one reply for each 200 of its gas
pub asks_early : (call : Invocation) (replies : List Reply) (key : List ℕ) → asked_by call replies ≡ Some key → length replies ≤ call.gas / 200
asks_early call replies key e =
    let at : Progress × List Reply = moment_with call replies (enough_steps call) in
    few_asked call.gas replies at.1 at.0 key (moments_paid call replies (enough_steps call)) e
