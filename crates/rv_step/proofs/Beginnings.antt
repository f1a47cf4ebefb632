-- A run stays a beginning of its call's chain.
use Rattle.std.proofs.Common.{◌≡◌, ℕ, zero, suc, ◌+◌, ◌*◌, ◌<◌, ◌≤◌, true, List, [], ◌∷◌, ◌++◌, Option, Some, Ok, refl, sym, ap, subst, ◌∙◌, arith}
use Rattle.std.proofs.lemmas.List.{map-append}
use Rattle.read_set.specs.Origin.{Origin}
use Rattle.rv_ledger.specs.Call.{Invocation}
use Rattle.rv_ledger.specs.declared.end.End.{End}
use Rattle.rv_step.specs.declared.machine.Machine.{Machine}
use Rattle.rv_step.specs.declared.answer.StorageAnswer.{StorageAnswer}
use Rattle.rv_step.specs.declared.stage.Stage.{Stage}
use Rattle.rv_step.specs.declared.stage.Stage.TheVariants.{Running, Asked, Ended}
use Rattle.ecalls.specs.StorageCalls.{ecall_charge}
use Rattle.rv_step.specs.Step.{Progress, Going, Over, Leads, Asks, step, answered, delivered, ecall_result}
use Rattle.rv_step.specs.declared.outcome.InstructionOutcome.TheVariants as outcome
use Rattle.rv_step.specs.Growth.{instruction_at}
use Rattle.rv_step.specs.Meets.{MeetsInstruction, MeetsResult}
use Rattle.rv_step.specs.Moment.{Reply, advance, from_replies, moment_with, start}
use Rattle.rv_step.specs.Chain.{borne_out, receipt_of}
use Rattle.rv_step.specs.Run.{IsBeginning, IsStage, is_running, left_for, progress_of, run_at_start}
use Rattle.rv_step.specs.Replies.{replies_of, reply_of}
use Rattle.rv_step.proofs.Falls.{IsFalling, answered_falls, end_gas, less_gas, step_falls}
use Rattle.rv_step.proofs.Moments.{advance_leads, advance_told, no_more, one_more}
use Rattle.rv_step.proofs.Receipts.{over_bears, reply_told, with_more}

-- a run before its first instruction
pub begins : (call : Invocation) → IsBeginning (run_at_start call)
unfolding start
begins call = record { stands = omega arith; moment = (zero, no_more from_replies (Going (start call), [])) }

running_progress : (s : Machine) (stage : Stage) → is_running stage ≡ true → progress_of s stage ≡ Going s
running_progress s Running h = refl
running_progress s (Asked key) h = cc
running_progress s (Ended end out) h = cc

running_gas : (limit : ℕ) (s : Machine) (stage : Stage) → is_running stage ≡ true → IsStage limit s stage → s.gas ≤ limit
running_gas limit s Running h k = k
running_gas limit s (Asked key) h k = cc
running_gas limit s (Ended end out) h k = cc

running_stage : (limit : ℕ) (s : Machine) (stage : Stage) → is_running stage ≡ true → s.gas ≤ limit → IsStage limit s stage
running_stage limit s Running h k = k
running_stage limit s (Asked key) h k = cc
running_stage limit s (Ended end out) h k = cc

module _ (call : Invocation) (s : Machine) (answers : List StorageAnswer) (stage : Stage) (so_far : IsBeginning (record { call = call; machine = s; answers = answers; stage = stage })) (running : is_running stage ≡ true) where
  gas : s.gas ≤ call.gas
  gas = running_gas call.gas s stage running so_far.stands

  going : moment_with call (replies_of answers) so_far.moment.0 ≡ (Going s, [])
  going = so_far.moment.1 ∙ ap (λ (progress : Progress). (progress, [])) (running_progress s stage running)

  -- the next moment
  next : (progress : Progress) → step s ≡ Leads progress → moment_with call (replies_of answers) (suc so_far.moment.0) ≡ (progress, [])
  next progress e = one_more from_replies so_far.moment.0 (Going (start call), replies_of answers) ∙ ap (advance from_replies) going ∙ advance_leads from_replies s [] progress e

  -- a step after which the call continues
  pub steps_on : (t : Machine) → step s ≡ Leads (Going t) → IsBeginning (record { call = call; machine = t; answers = answers; stage = stage })
  steps_on t e =
      let less : t.gas < s.gas = less_gas s.gas t (step_falls s (Going t) e) in
      record {
        stands = running_stage call.gas t stage running (omega (arith, less, gas));
        moment = (suc so_far.moment.0, next (Going t) e ∙ ap (λ (progress : Progress). (progress, [])) (sym (running_progress t stage running)));
      }

  -- a step that asks
  pub steps_to_ask : (key : List ℕ) → step s ≡ Asks key → IsBeginning (record { call = call; machine = s; answers = answers; stage = Asked key })
  steps_to_ask key e = record { stands = (gas, e); moment = (so_far.moment.0, going) }

  -- a step that ends the call
  pub steps_to_end : (end : End) (out : List ℕ) (t : Machine) → step s ≡ Leads (Over end out t) → IsBeginning (record { call = call; machine = t; answers = answers; stage = Ended end out })
  steps_to_end end out t e =
      let less : t.gas ≤ s.gas = end_gas s.gas end out t (step_falls s (Over end out t) e) in
      record { stands = omega (arith, less, gas); moment = (suc so_far.moment.0, next (Over end out t) e) }

module _ (call : Invocation) (s : Machine) (answers : List StorageAnswer) (key : List ℕ) (content : Option (List ℕ)) (origin : Origin) (so_far : IsBeginning (record { call = call; machine = s; answers = answers; stage = Asked key })) where
  abbrev given : StorageAnswer
  given = record { key = key; value = content; origin = origin }

  -- the moment after the answer
  told : (n : ℕ) × (moment_with call (replies_of (answers ++ given ∷ [])) n ≡ (answered s (delivered s key content), []))
  told =
      let replies = replies_of answers in
      let comes = with_more replies (reply_of given ∷ []) (Going (start call)) so_far.moment.0 in
      let stands : moment_with call (replies ++ reply_of given ∷ []) comes.0 ≡ (Going s, reply_of given ∷ []) = comes.1 ∙ ap (λ (at : Progress × List Reply). (at.0, at.1 ++ reply_of given ∷ [])) so_far.moment.1 in (
        suc comes.0,
        ap (λ (all : List Reply). moment_with call all (suc comes.0)) (map-append reply_of answers (given ∷ []))
            ∙ one_more from_replies comes.0 (Going (start call), replies ++ reply_of given ∷ [])
            ∙ ap (advance from_replies) stands
            ∙ advance_told from_replies s (reply_of given ∷ []) key content [] so_far.stands.1 (reply_told key content []),
      )

  -- an answer after which the call continues
  pub answers_on : (t : Machine) → answered s (delivered s key content) ≡ Going t → IsBeginning (record { call = call; machine = t; answers = answers ++ record { key = key; value = content; origin = origin } ∷ []; stage = Running })
  answers_on t e =
      let less : t.gas < s.gas = less_gas s.gas t (subst (IsFalling s.gas) e (answered_falls s (delivered s key content))) in
      let gas : s.gas ≤ call.gas = so_far.stands.0 in
      record { stands = omega (arith, less, gas); moment = (told.0, told.1 ∙ ap (λ (progress : Progress). (progress, [])) e) }

  -- an answer that ends the call
  pub answers_to_end : (end : End) (out : List ℕ) (t : Machine) → answered s (delivered s key content) ≡ Over end out t → IsBeginning (record { call = call; machine = t; answers = answers ++ record { key = key; value = content; origin = origin } ∷ []; stage = Ended end out })
  answers_to_end end out t e =
      let less : t.gas ≤ s.gas = end_gas s.gas end out t (subst (IsFalling s.gas) e (answered_falls s (delivered s key content))) in
      let gas : s.gas ≤ call.gas = so_far.stands.0 in
      record { stands = omega (arith, less, gas); moment = (told.0, told.1 ∙ ap (λ (progress : Progress). (progress, [])) e) }

-- the receipt of a run that has ended
pub is_borne : (call : Invocation) (s : Machine) (answers : List StorageAnswer) (end : End) (out : List ℕ) → IsBeginning (record { call = call; machine = s; answers = answers; stage = Ended end out }) → borne_out call (replies_of answers) ≡ Some (receipt_of call.gas end out s)
is_borne call s answers end out so_far = over_bears call (replies_of answers) so_far.moment.0 (Over end out s) so_far.moment.1 refl

-- a step that leads to a state does not ask
pub leads_not_asks : (progress : Progress) (key : List ℕ) → Leads progress ≡ Asks key → ⊥
leads_not_asks progress key e = cc

pub led : {p q : Progress} → Leads p ≡ Leads q → p ≡ q
led e = cc

-- an answer keeps it, whatever the result
pub answer_keeps : (call : Invocation) (s t : Machine) (answers : List StorageAnswer) (key : List ℕ) (content : Option (List ℕ)) (origin : Origin) (came : Stage) → IsBeginning (record { call = call; machine = s; answers = answers; stage = Asked key }) → MeetsResult (Ok came) (Leads (answered s (delivered s key content))) s t → IsBeginning (record { call = call; machine = t; answers = answers ++ record { key = key; value = content; origin = origin } ∷ []; stage = came })
answer_keeps call s t answers key content origin Running so_far did = answers_on call s answers key content origin so_far t (led did)
answer_keeps call s t answers key content origin (Asked other) so_far did = absurd (leads_not_asks (answered s (delivered s key content)) other did.0)
answer_keeps call s t answers key content origin (Ended end out) so_far did = answers_to_end call s answers key content origin so_far end out t (led did)

-- a step after which the call continues leaves fewer steps to come
pub next_leaves_fewer : (s t : Machine) (stage : Stage) → is_running stage ≡ true → step s ≡ Leads (Going t) → left_for t.gas stage < left_for s.gas stage
next_leaves_fewer s t Running h e = let less : t.gas < s.gas = less_gas s.gas t (step_falls s (Going t) e) in omega arith
next_leaves_fewer s t (Asked key) h e = cc
next_leaves_fewer s t (Ended end out) h e = cc

came_falls : (s t : Machine) (content : Option (List ℕ)) (came : Stage) → MeetsResult (Ok came) (Leads (answered s content)) s t → left_for t.gas came < 2 * s.gas + 1
came_falls s t content Running did = let less : t.gas < s.gas = less_gas s.gas t (subst (IsFalling s.gas) (led did) (answered_falls s content)) in omega arith
came_falls s t content (Asked other) did = absurd (leads_not_asks (answered s content) other did.0)
came_falls s t content (Ended end out) did = omega arith

-- the storage call at the pc of a machine is its step
pub call_is_step : (s m t : Machine) (came : Stage) → MeetsInstruction (Ok outcome.StorageCall) (instruction_at s) (step s) s m → MeetsResult (Ok came) (ecall_result m (ecall_charge m.regs m.rules)) m t → MeetsResult (Ok came) (step s) s t
call_is_step s m t came found did = rw found.1 (subst (λ (x : Machine). MeetsResult (Ok came) (ecall_result x (ecall_charge x.regs x.rules)) x t) found.2 did)

-- a step keeps it, whatever the result
pub step_keeps : (call : Invocation) (s t : Machine) (answers : List StorageAnswer) (stage : Stage) (came : Stage) → IsBeginning (record { call = call; machine = s; answers = answers; stage = stage }) → is_running stage ≡ true → MeetsResult (Ok came) (step s) s t → IsBeginning (record { call = call; machine = t; answers = answers; stage = came })
step_keeps call s t answers Running Running so_far running did = steps_on call s answers Running so_far running t did
step_keeps call s t answers Running (Asked key) so_far running did = rw did.1 (steps_to_ask call s answers Running so_far running key did.0)
step_keeps call s t answers Running (Ended end out) so_far running did = steps_to_end call s answers Running so_far running end out t did
step_keeps call s t answers (Asked key) came so_far running did = cc
step_keeps call s t answers (Ended end out) came so_far running did = cc

-- it leaves fewer steps to come
pub step_leaves_fewer : (s t : Machine) (stage : Stage) (came : Stage) → is_running stage ≡ true → MeetsResult (Ok came) (step s) s t → left_for t.gas came < left_for s.gas stage
step_leaves_fewer s t Running Running running did = next_leaves_fewer s t Running running did
step_leaves_fewer s t Running (Asked key) running did = let same : t.gas ≡ s.gas = ap (λ (m : Machine). m.gas) did.1 in omega arith
step_leaves_fewer s t Running (Ended end out) running did = omega arith
step_leaves_fewer s t (Asked key) came running did = cc
step_leaves_fewer s t (Ended end out) came running did = cc

-- so does an answer
pub answer_leaves_fewer : (s t : Machine) (stage : Stage) (key : List ℕ) (content : Option (List ℕ)) (came : Stage) → stage ≡ Asked key → MeetsResult (Ok came) (Leads (answered s (delivered s key content))) s t → left_for t.gas came < left_for s.gas stage
answer_leaves_fewer s t stage key content came asked did = rw (ap (left_for s.gas) asked) (came_falls s t (delivered s key content) came did)
