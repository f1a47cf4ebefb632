-- A call that asks for a key continues after each answer to it: it asks again, or it has ended.
use Rattle.std.proofs.Common.{◌≡◌, ℕ, suc, List, [], ◌∷◌, ◌++◌, Option, Some, None, refl, sym, ap, ◌∙◌, arith, append_assoc, append-nil}
use Rattle.std.specs.FinMap as map
use Rattle.rv_ledger.specs.Call.{Invocation}
use Rattle.rv_ledger.specs.declared.receipt.Receipt.{Receipt}
use Rattle.rv_step.specs.declared.machine.Machine.{Machine}
use Rattle.rv_step.specs.Step.{Progress, Going, Over, StepResult, Leads, Asks, step, answered, delivered}
use Rattle.rv_step.specs.Moment.{Reply, advance, from_replies, from_storage, machine_of, moment_from, moment_with, start}
use Rattle.rv_step.specs.Chain.{borne_out, ends, enough_steps, receipt_at}
use Rattle.rv_step.specs.Asked.{asked_by, key_asked, key_of}
use Rattle.rv_step.proofs.Moments.{advance_told, joined, one_more}
use Rattle.rv_step.proofs.Receipts.{led_to, one_receipt_lem, over_bears, over_from, reply_told, with_more}
use Rattle.rv_step.proofs.Askings.{chain_asks}

-- some replies lead to a receipt
abbrev pub Completes : (List Reply → Option Receipt) → Type 0
Completes f = (rest : List Reply) × (receipt : Receipt) × (f rest ≡ Some receipt)

-- a call continues after these replies: some further replies bear a receipt of it out
abbrev pub GoesOn : Invocation → List Reply → Type 0
GoesOn call replies = Completes (λ rest. borne_out call (replies ++ rest))

-- ---- one more answer

-- all replies are used up, and the machine asks for this key
abbrev IsAsking : List ℕ → Progress × List Reply → Type 0
IsAsking key at = (s : Machine) × (at ≡ (Going s, [])) × (step s ≡ Asks key)

step_asking : (s : Machine) (o : StepResult) (key : List ℕ) → step s ≡ o → key_of o ≡ Some key → step s ≡ Asks key
step_asking s (Leads progress) key e asks = cc
step_asking s (Asks other) key e asks = e ∙ ap Asks (let same : other ≡ key = cc in same)

pub asking : (progress : Progress) (left : List Reply) (key : List ℕ) → key_asked (progress, left) ≡ Some key → IsAsking key (progress, left)
asking (Going s) [] key asks = (s, refl, step_asking s (step s) key refl asks)
asking (Going s) (reply ∷ left) key asks = cc
asking (Over end out s) left key asks = cc

-- ---- what a call does

-- a call continues from its start
pub goes_first : (call : Invocation) → GoesOn call []
goes_first call = let some = (one_receipt_lem call map.empty).some_answers in (some.0, ends call map.empty, some.2)

-- a call continues after one more answer, if it asks for the key of that answer
pub goes_next : (call : Invocation) (replies : List Reply) (key : List ℕ) (content : Option (List ℕ)) → asked_by call replies ≡ Some key → GoesOn call (replies ++ (key, content) ∷ [])
goes_next call replies key content e =
    let at : Progress × List Reply = moment_with call replies (enough_steps call) in
    let asks = asking at.0 at.1 key e in
    let s : Machine = asks.0 in
    let next : Progress = answered s (delivered s key content) in
    -- the empty storage answers the rest
    let count : ℕ = suc (machine_of next).gas in
    let led = led_to map.empty next count in
    let rest : List Reply = led.replies in
    let all : List Reply = replies ++ (key, content) ∷ rest in
    let comes = with_more replies ((key, content) ∷ rest) (Going (start call)) (enough_steps call) in
    let stands : moment_with call all comes.0 ≡ (Going s, (key, content) ∷ rest) = comes.1 ∙ ap (λ (x : Progress × List Reply). (x.0, x.1 ++ (key, content) ∷ rest)) asks.1 in
    let told : moment_with call all (suc comes.0) ≡ (next, rest) =
    one_more from_replies comes.0 (Going (start call), all) ∙ ap (advance from_replies) stands ∙ advance_told from_replies s ((key, content) ∷ rest) key content rest asks.2 (reply_told key content rest) in
    let last : Progress = (moment_from from_storage count (next, map.empty)).0 in
    let both = joined from_replies led.count (suc comes.0) (Going (start call), all) in
    let over : moment_with call all both.0 ≡ (last, []) = sym both.1 ∙ ap (λ (x : Progress × List Reply). moment_from from_replies led.count x) told ∙ led.comes in
    (rest, receipt_at call.gas last, ap (borne_out call) (append_assoc replies ((key, content) ∷ []) rest) ∙ over_bears call all both.0 last over (over_from map.empty (machine_of next).gas next (omega arith)))

-- a call that continues and asks for nothing has ended
pub goes_last : (call : Invocation) (replies : List Reply) → GoesOn call replies → asked_by call replies ≡ None → (receipt : Receipt) × (borne_out call replies ≡ Some receipt)
goes_last call replies ([], receipt, e) none = (receipt, ap (borne_out call) (sym (append-nil replies)) ∙ e)
goes_last call replies (reply ∷ rest, receipt, e) none =
    let asks = chain_asks call replies (reply ∷ rest) receipt e in cc
