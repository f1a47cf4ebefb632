-- The run of a call over a storage.
use Rattle.std.proofs.Common.{◌≡◌, ℕ, zero, suc, ◌<◌, ◌≤◌, List, Some, Result, Ok, Err, OnOk, refl, sym, ap, subst, ◌∙◌, arith}
use Rattle.std.specs.FinMap as map
use Rattle.std.specs.declared.alloc.AllocError.{AllocError}
use Rattle.rv_ledger.specs.Change.{Content}
use Rattle.rv_ledger.specs.Call.{Invocation}
use Rattle.rv_ledger.specs.Key.{Storage}
use Rattle.rv_ledger.specs.declared.end.End.{End}
use Rattle.rv_step.specs.declared.machine.Machine.{Machine}
use Rattle.rv_step.specs.declared.stage.Stage.{Stage}
use Rattle.rv_step.specs.declared.stage.Stage.TheVariants.{Running, Asked, Ended}
use Rattle.rv_step.specs.Step.{Progress, Going, Over, Leads, step, answered, delivered}
use Rattle.rv_step.specs.Moment.{advance, from_storage, machine_of, moment_from, moment_over, start}
use Rattle.rv_step.specs.Chain.{ends, receipt_of}
use Rattle.rv_step.specs.Meets.{MeetsResult, MeetsStage, MeetsSteps, Reaches}
use Rattle.rv_step.specs.Over.{IsBeginningOver}
use Rattle.rv_step.specs.Run.{left_for}
use Rattle.rv_step.proofs.Falls.{IsFalling, answered_falls, end_gas, less_gas, step_falls}
use Rattle.rv_step.proofs.Moments.{advance_leads, advance_told, kept, no_more, one_more}
use Rattle.rv_step.proofs.Receipts.{keeps_storage, over_ends, start_gas}
use Rattle.rv_step.proofs.Beginnings.{answer_leaves_fewer, leads_not_asks, led}

-- before the first instruction
pub starts_over : (call : Invocation) (store : Storage) → IsBeginningOver call store (start call) Running
starts_over call store = record {
  stands = start_gas call;
  moment = (zero, ap (λ (at : Progress × Storage). at.0) (no_more from_storage (Going (start call), store)));
}

-- no moment has more gas than the start
falls_within : (limit gas : ℕ) (progress : Progress) → IsFalling gas progress → gas ≤ limit → (machine_of progress).gas ≤ limit
falls_within limit gas (Going t) falls h = let less = less_gas gas t falls in omega (arith, less, h)
falls_within limit gas (Over end out t) falls h = let less = end_gas gas end out t falls in omega (arith, less, h)

gas_within : (call : Invocation) (store : Storage) (n : ℕ) → (machine_of (moment_over call store n)).gas ≤ call.gas
gas_within call store n = kept from_storage (λ at. (machine_of at.0).gas ≤ call.gas)
    (λ s left progress h e. falls_within call.gas s.gas progress (step_falls s progress e) h)
    (λ s left key content rest h e told. falls_within call.gas s.gas (answered s (delivered s key content)) (answered_falls s (delivered s key content)) h)
    n (Going (start call), store) (start_gas call)

module _ (call : Invocation) (store : Storage) where
  abbrev Comes : Progress → Type 0
  Comes progress = (n : ℕ) × (moment_over call store n ≡ progress)

  gas_at : (progress : Progress) → Comes progress → (machine_of progress).gas ≤ call.gas
  gas_at progress comes = subst (λ (p : Progress). (machine_of p).gas ≤ call.gas) comes.1 (gas_within call store comes.0)

  -- the next moment
  next : (s : Machine) (progress : Progress) → Comes (Going s) → advance from_storage (Going s, store) ≡ (progress, store) → Comes progress
  next s progress comes e =
      let stands : moment_from from_storage comes.0 (Going (start call), store) ≡ (Going s, store) = keeps_storage store (Going (start call)) comes.0 ∙ ap (λ (p : Progress). (p, store)) comes.1 in
      (suc comes.0, ap (λ (at : Progress × Storage). at.0) (one_more from_storage comes.0 (Going (start call), store) ∙ ap (advance from_storage) stands ∙ e))

  -- steps after which the call continues
  reached_over : (n : ℕ) (s t : Machine) → Comes (Going s) → Reaches n s t → Comes (Going t)
  unfolding Reaches
  reached_over zero s t comes reached = rw reached comes
  reached_over (suc n) s t comes reached =
      next reached.0 (Going t) (reached_over n s reached.0 comes reached.1) (advance_leads from_storage reached.0 store (Going t) reached.2)

  -- and one more
  step_over : (s t : Machine) (came : Stage) → MeetsResult (Ok came) (step s) s t → Comes (Going s) → IsBeginningOver call store t came
  step_over s t Running did comes =
      let on = next s (Going t) comes (advance_leads from_storage s store (Going t) did) in record { stands = gas_at (Going t) on; moment = on }
  step_over s t (Asked key) did comes = rw did.1 (record { stands = (gas_at (Going s) comes, did.0); moment = comes })
  step_over s t (Ended end out) did comes =
      let on = next s (Over end out t) comes (advance_leads from_storage s store (Over end out t) did) in record { stands = gas_at (Over end out t) on; moment = on }

  -- steps up to a stop
  stop_over : (s t : Machine) (came : Stage) → MeetsSteps (Ok tt) came s t → IsBeginningOver call store s Running → IsBeginningOver call store t came
  stop_over s t came did over = step_over did.last t came did.did (reached_over did.count s did.last over.moment did.reached)

  module _ (s : Machine) (key : List ℕ) (content : Content) (same : content ≡ map.get store key) (over : IsBeginningOver call store s (Asked key)) where
    told : (progress : Progress) → answered s (delivered s key content) ≡ progress → Comes progress
    told progress e =
        next s progress over.moment
        (advance_told from_storage s store key content store over.stands.1 (ap (λ (c : Content). Some (c, store)) (sym same))
        ∙ ap (λ (p : Progress). (p, store)) e)

    -- the answer of the storage
    answer_over : (t : Machine) (came : Stage) → MeetsResult (Ok came) (Leads (answered s (delivered s key content))) s t → IsBeginningOver call store t came
    answer_over t Running did = let on = told (Going t) (led did) in record { stands = gas_at (Going t) on; moment = on }
    answer_over t (Asked other) did = absurd (leads_not_asks (answered s (delivered s key content)) other did.0)
    answer_over t (Ended end out) did = let on = told (Over end out t) (led did) in record { stands = gas_at (Over end out t) on; moment = on }

  -- at its end the call has the receipt
  pub ended_over : (s : Machine) (end : End) (out : List ℕ) → IsBeginningOver call store s (Ended end out) → receipt_of call.gas end out s ≡ ends call store
  ended_over s end out over =
      over_ends call store over.moment.0 (Over end out s, store) (keeps_storage store (Going (start call)) over.moment.0 ∙ ap (λ (p : Progress). (p, store)) over.moment.1) refl

-- steps up to a stop keep it
pub stops_over : (result : Result (Unit {0}) AllocError) (store : Storage) (s t : Machine) (stage came : Stage) → stage ≡ Running → MeetsSteps result came s t → OnOk result ((call : Invocation) → IsBeginningOver call store s stage → IsBeginningOver call store t came)
stops_over (Ok done) store s t stage came running did = λ call over. stop_over call store s t came did (subst (IsBeginningOver call store s) running over)
stops_over (Err e) store s t stage came running did = tt

-- and so does the answer with the content that the storage has at the key
pub asked_over : (result : Result (Unit {0}) AllocError) (store : Storage) (s t : Machine) (stage came : Stage) (key : List ℕ) (content : Content) → stage ≡ Asked key → content ≡ map.get store key → MeetsStage result came (Leads (answered s (delivered s key content))) s t → OnOk result ((call : Invocation) → IsBeginningOver call store s stage → IsBeginningOver call store t came)
asked_over (Ok done) store s t stage came key content asked same did = λ call over. answer_over call store s key content same (subst (IsBeginningOver call store s) asked over) t came did
asked_over (Err e) store s t stage came key content asked same did = tt

-- which leaves fewer steps to come
pub asked_fewer : (result : Result (Unit {0}) AllocError) (s t : Machine) (stage came : Stage) (key : List ℕ) (content : Content) → stage ≡ Asked key → MeetsStage result came (Leads (answered s (delivered s key content))) s t → OnOk result (left_for t.gas came < left_for s.gas stage)
asked_fewer (Ok done) s t stage came key content asked did = answer_leaves_fewer s t stage key content came asked did
asked_fewer (Err e) s t stage came key content asked did = tt
