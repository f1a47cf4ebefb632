-- A run asks for the key of the next answer in any replies that bear a receipt out.
use Rattle.std.proofs.Common.{◌≡◌, ℕ, Bool, true, false, if◌then◌else◌, List, [], ◌∷◌, ◌++◌, Option, Some, None, refl, sym, ap, ◌∙◌}
use Rattle.std.specs.Str.{bytes_eq}
use Rattle.std.proofs.lemmas.Slice.Eq.{bytes_eq-Decides}
use Rattle.rv_ledger.specs.Call.{Invocation}
use Rattle.rv_ledger.specs.declared.end.End.{End}
use Rattle.rv_ledger.specs.declared.receipt.Receipt.{Receipt}
use Rattle.rv_step.specs.declared.machine.Machine.{Machine}
use Rattle.rv_step.specs.declared.answer.StorageAnswer.{StorageAnswer}
use Rattle.rv_step.specs.declared.stage.Stage.TheVariants.{Asked, Ended}
use Rattle.rv_step.specs.Step.{Progress, Going, Over, StepResult, Leads, Asks, answered, delivered, step}
use Rattle.rv_step.specs.Moment.{Reply, from_replies, moment_with, start}
use Rattle.rv_step.specs.Chain.{borne_out, enough_steps, receipt_with}
use Rattle.rv_step.specs.Asked.{asked_by, key_asked, key_of}
use Rattle.rv_step.specs.Run.{IsBeginning}
use Rattle.rv_step.specs.Replies.{replies_of}
use Rattle.rv_step.proofs.Falls.{answered_falls, step_falls}
use Rattle.rv_step.proofs.Moments.{IsLast, advance_leads, advance_told, advance_waits, last_after_gas}
use Rattle.rv_step.proofs.Receipts.{bears_over, last_with, start_gas, takes_something, with_more}

-- the key of the next answer
abbrev pub next_key : List Reply → Option (List ℕ)
next_key [] = None
next_key (reply ∷ rest) = Some reply.0

-- a reply answers a key, or the call waits
reply_test : (key : List ℕ) (reply : Reply) (left : List Reply) (b : Bool) → bytes_eq reply.0 key ≡ b → from_replies (reply ∷ left) key ≡ (if b then Some (reply.1, left) else None)
reply_test key reply left b same = ap (λ (b : Bool). if b then Some (reply.1, left) else None) same

module _ (call : Invocation) (all : List Reply) (m : ℕ) (r : Receipt) (bears : borne_out call all ≡ Some r) where
  -- replies that bear a receipt out leave no call waiting
  not_waiting : (s : Machine) (left : List Reply) → moment_with call all m ≡ (Going s, left) → IsLast from_replies (Going s, left) → ⊥
  not_waiting s left e last = let none : None ≡ Some r = sym (ap (receipt_with call.gas) (last_with call all m (Going s, left) e last)) ∙ bears in cc

  -- and they leave none of them over
  none_left : (end : End) (out : List ℕ) (s : Machine) (left : List Reply) → moment_with call all m ≡ (Over end out s, left) → left ≡ []
  none_left end out s left e = (bears_over call.gas (Over end out s) left r (sym (ap (receipt_with call.gas) (last_with call all m (Over end out s, left) e refl)) ∙ bears)).1

nothing_after : (replies rest : List Reply) → replies ++ rest ≡ [] → None ≡ next_key rest
nothing_after [] [] e = refl
nothing_after [] (reply ∷ rest) e = cc
nothing_after (first ∷ replies) rest e = cc

module _ (call : Invocation) (all : List Reply) (m : ℕ) (r : Receipt) (bears : borne_out call all ≡ Some r) where
  -- the first of the replies that are left answers what the call asks for
  first_answers : (s : Machine) (key : List ℕ) (reply : Reply) (left : List Reply) (b : Bool) → bytes_eq reply.0 key ≡ b → step s ≡ Asks key → moment_with call all m ≡ (Going s, reply ∷ left) → Some key ≡ Some reply.0
  first_answers s key reply left true same e stands = ap Some (sym ((bytes_eq-Decides reply.0 key).0 same))
  first_answers s key reply left false same e stands =
      absurd (not_waiting call all m r bears s (reply ∷ left) stands (advance_waits from_replies s (reply ∷ left) key e (reply_test key reply left false same)))

  asks_first : (s : Machine) (key : List ℕ) (left : List Reply) → step s ≡ Asks key → moment_with call all m ≡ (Going s, left) → Some key ≡ next_key left
  asks_first s key [] e stands = absurd (not_waiting call all m r bears s [] stands (advance_waits from_replies s [] key e refl))
  asks_first s key (reply ∷ left) e stands = first_answers s key reply left (bytes_eq reply.0 key) refl e stands

  -- a reply to another key is not taken at the last moment, whatever follows it
  never_stuck : (s : Machine) (key : List ℕ) (reply : Reply) (left more : List Reply) (b : Bool) → bytes_eq reply.0 key ≡ b → step s ≡ Asks key → IsLast from_replies (Going s, reply ∷ left) → moment_with call all m ≡ (Going s, reply ∷ more) → ⊥
  never_stuck s key reply left more true same e last stands =
      takes_something s (answered s (delivered s key reply.1)) left (reply ∷ left) (answered_falls s (delivered s key reply.1)) (sym (advance_told from_replies s (reply ∷ left) key reply.1 left e (reply_test key reply left true same)) ∙ last)
  never_stuck s key reply left more false same e last stands =
      not_waiting call all m r bears s (reply ∷ more) stands (advance_waits from_replies s (reply ∷ more) key e (reply_test key reply more false same))

  step_asks : (s : Machine) (left rest : List Reply) (o : StepResult) → step s ≡ o → IsLast from_replies (Going s, left) → moment_with call all m ≡ (Going s, left ++ rest) → key_asked (Going s, left) ≡ next_key rest
  step_asks s left rest (Leads progress) e last stands = absurd (takes_something s progress left left (step_falls s progress e) (sym (advance_leads from_replies s left progress e) ∙ last))
  step_asks s [] rest (Asks key) e last stands = ap key_of e ∙ asks_first s key rest e stands
  step_asks s (reply ∷ left) rest (Asks key) e last stands = absurd (never_stuck s key reply left (left ++ rest) (bytes_eq reply.0 key) refl e last stands)

  progress_asks : (progress : Progress) (left rest : List Reply) → IsLast from_replies (progress, left) → moment_with call all m ≡ (progress, left ++ rest) → key_asked (progress, left) ≡ next_key rest
  progress_asks (Going s) left rest last stands = step_asks s left rest (step s) refl last stands
  progress_asks (Over end out s) left rest last stands = nothing_after left rest (none_left call all m r bears end out s (left ++ rest) stands)

-- if some replies and others after them bear a receipt out, the call asks for the key of the first of the others
pub chain_asks : (call : Invocation) (replies rest : List Reply) (r : Receipt) → borne_out call (replies ++ rest) ≡ Some r → asked_by call replies ≡ next_key rest
chain_asks call replies rest r bears =
    let at : Progress × List Reply = moment_with call replies (enough_steps call) in
    let comes = with_more replies rest (Going (start call)) (enough_steps call) in
    progress_asks call (replies ++ rest) comes.0 r bears at.0 at.1 rest (last_after_gas from_replies call.gas (Going (start call), replies) (start_gas call)) comes.1

-- a run that asked for a key still asks for it
pub asked_asks : (call : Invocation) (s : Machine) (answers : List StorageAnswer) (key : List ℕ) → IsBeginning (record { call = call; machine = s; answers = answers; stage = Asked key }) → Some key ≡ asked_by call (replies_of answers)
asked_asks call s answers key so_far =
    sym (ap key_asked (last_with call (replies_of answers) so_far.moment.0 (Going s, []) so_far.moment.1 (advance_waits from_replies s [] key so_far.stands.1 refl)) ∙ ap key_of so_far.stands.1)

-- a run that has ended asks for nothing
pub ended_asks : (call : Invocation) (s : Machine) (answers : List StorageAnswer) (end : End) (out : List ℕ) → IsBeginning (record { call = call; machine = s; answers = answers; stage = Ended end out }) → None ≡ asked_by call (replies_of answers)
ended_asks call s answers end out so_far =
    sym (ap key_asked (last_with call (replies_of answers) so_far.moment.0 (Over end out s, []) so_far.moment.1 refl))
