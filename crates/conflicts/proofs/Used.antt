-- The answers that a run used are for the keys that its call asks the storage for.
use Rattle.std.proofs.Common.{◌≡◌, ℕ, zero, suc, ◌⊎◌, inl, inr, Bool, true, false, if◌then◌else◌, List, [], ◌∷◌, ◌++◌, Some, None, Result, Ok, Err, IfSome, OnOk, refl, sym, ap, subst, ◌∙◌}
use Rattle.std.specs.FinMap as map
use Rattle.std.specs.Str.{bytes_eq}
use Rattle.std.proofs.lemmas.Slice.Eq.{bytes_eq-Decides}
use Rattle.rv_ledger.specs.Change.{Content}
use Rattle.rv_ledger.specs.Call.{Invocation}
use Rattle.rv_ledger.specs.Key.{Storage}
use Rattle.rv_ledger.specs.declared.receipt.Receipt.{Receipt}
use Rattle.rv_step.specs.declared.machine.Machine.{Machine}
use Rattle.rv_step.specs.declared.answer.StorageAnswer.{StorageAnswer}
use Rattle.rv_step.specs.Asked.{key_of}
use Rattle.rv_step.specs.Chain.{AreFrom, borne_out, enough_steps}
use Rattle.rv_step.specs.Moment.{Reply, advance, from_replies, from_storage, is_over, moment_from, moment_over, moment_with, start}
use Rattle.rv_step.specs.Replies.{replies_of}
use Rattle.rv_step.specs.Run.{RunView, after_answer, asked_key, standing_at}
use Rattle.read_set.specs.Origin.{Origin}
use Rattle.std.specs.declared.alloc.AllocError.{AllocError}
use Rattle.rv_step.specs.Step.{Progress, Going, Over, StepResult, Leads, Asks, step, answered, delivered}
use Rattle.rv_step.proofs.Moments.{IsLast, advance_leads, advance_told, advance_waits, no_more, one_more}
use Rattle.rv_step.proofs.Receipts.{bears_over, keeps_storage}
use Rattle.conflicts.specs.Reads.{Keys, key_asked_at, keys_in, keys_read, keys_until, keys_with, with_key}

-- an answer keeps the call and the answers before it
pub standing_keeps : (p : Progress) (r : RunView) → ((standing_at p r).call ≡ r.call) × ((standing_at p r).answers ≡ r.answers)
standing_keeps (Going t) r = (refl, refl)
standing_keeps (Over end out t) r = (refl, refl)

-- one more answer that is the storage's
pub from_more : (store : Storage) (answers : List StorageAnswer) (a : StorageAnswer) → AreFrom store (replies_of answers) → a.value ≡ map.get store a.key → AreFrom store (replies_of (answers ++ a ∷ []))
from_more store [] a from e = (e, tt)
from_more store (first ∷ answers) a from e = (from.0, from_more store answers a from.1 e)

-- so an answer of the storage leaves answers of the storage
pub from_answered : (result : Result (Unit {0}) AllocError) (store : Storage) (old new : RunView) (key : List ℕ) (content : Content) (origin : Origin) → asked_key old.stage ≡ Some key → content ≡ map.get store key → OnOk result (IfSome (asked_key old.stage) (λ k. new ≡ after_answer k content origin old)) → OnOk result (AreFrom store (replies_of old.answers) → AreFrom store (replies_of new.answers))
from_answered (Ok done) store old new key content origin asked same ok = λ from.
    let e : new ≡ after_answer key content origin old = rw asked at ok in
    let answer : StorageAnswer = record { key = key; value = content; origin = origin } in
    let more : RunView = record old { answers = old.answers ++ answer ∷ [] } in
    let kept : new.answers ≡ old.answers ++ answer ∷ [] = ap (λ (r : RunView). r.answers) e ∙ (standing_keeps (answered old.machine (delivered old.machine key content)) more).1 in
    subst (λ (l : List StorageAnswer). AreFrom store (replies_of l)) (sym kept) (from_more store old.answers answer from same)
from_answered (Err e) store old new key content origin asked same ok = tt

module _ (call : Invocation) (store : Storage) where
  over_next : (n : ℕ) (p next : Progress) → moment_over call store n ≡ p → advance from_storage (p, store) ≡ (next, store) → moment_over call store (suc n) ≡ next
  over_next n p next e a =
      ap (λ (at : Progress × Storage). at.0)
      (one_more from_storage n (Going (start call), store)
      ∙ ap (advance from_storage) (keeps_storage store (Going (start call)) n ∙ ap (λ (x : Progress). (x, store)) e)
      ∙ a)

  keys_next : (n : ℕ) (p : Progress) → moment_over call store n ≡ p → keys_until call store (suc n) ≡ with_key (keys_until call store n) (key_asked_at p)
  unfolding keys_until
  keys_next n p e = ap (λ (x : Progress). with_key (keys_until call store n) (key_asked_at x)) e

  module _ (replies : List Reply) where
    -- the moment is the one over the storage, and the answers that are left are for the other keys
    record Follows (n : ℕ) (at : Progress × List Reply) : Type 0 where
      pub from : AreFrom store at.1
      pub same : moment_over call store n ≡ at.0
      pub keys : keys_in replies ≡ keys_with (keys_until call store n) at.1

    -- the call waits for an answer that is not there
    abbrev Waits : Progress × List Reply → Type 0
    Waits at = IsLast from_replies at × (is_over at.0 ≡ false)

    abbrev Comes : ℕ → Progress × List Reply → Type 0
    Comes n at = Follows n at ⊎ Waits at

    led : (n : ℕ) (s : Machine) (left : List Reply) (progress : Progress) → step s ≡ Leads progress → Follows n (Going s, left) → Follows (suc n) (progress, left)
    led n s left progress e f = record {
      from = f.from;
      same = over_next n (Going s) progress f.same (advance_leads from_storage s store progress e);
      keys = f.keys ∙ ap (λ (k : Keys). keys_with k left) (sym (keys_next n (Going s) f.same ∙ ap (λ (o : StepResult). with_key (keys_until call store n) (key_of o)) e));
    }

    told : (n : ℕ) (s : Machine) (key : List ℕ) (reply : Reply) (left : List Reply) → step s ≡ Asks key → reply.0 ≡ key → Follows n (Going s, reply ∷ left) → Follows (suc n) (answered s (delivered s key reply.1), left)
    told n s key reply left e same f =
        let there : map.get store key ≡ reply.1 = ap (map.get store) (sym same) ∙ sym f.from.0 in
        record {
          from = f.from.1;
          same = over_next n (Going s) (answered s (delivered s key reply.1)) f.same (advance_told from_storage s store key reply.1 store e (ap (λ (c : Content). Some (c, store)) there));
          keys = f.keys ∙ ap (λ (k : List ℕ). keys_with (map.insert (keys_until call store n) k tt) left) same
              ∙ ap (λ (k : Keys). keys_with k left) (sym (keys_next n (Going s) f.same ∙ ap (λ (o : StepResult). with_key (keys_until call store n) (key_of o)) e));
        }

    asked : (n : ℕ) (s : Machine) (key : List ℕ) (reply : Reply) (left : List Reply) (b : Bool) → bytes_eq reply.0 key ≡ b → step s ≡ Asks key → Follows n (Going s, reply ∷ left) → Comes (suc n) (advance from_replies (Going s, reply ∷ left))
    asked n s key reply left true same e f =
        subst (Comes (suc n)) (sym (advance_told from_replies s (reply ∷ left) key reply.1 left e (ap (λ (b : Bool). if b then Some (reply.1, left) else None) same)))
        (inl (told n s key reply left e ((bytes_eq-Decides reply.0 key).0 same) f))
    asked n s key reply left false other e f =
        let stays : advance from_replies (Going s, reply ∷ left) ≡ (Going s, reply ∷ left) = advance_waits from_replies s (reply ∷ left) key e (ap (λ (b : Bool). if b then Some (reply.1, left) else None) other) in
        subst (Comes (suc n)) (sym stays) (inr (stays, refl))

    stepped : (n : ℕ) (s : Machine) (left : List Reply) (o : StepResult) → step s ≡ o → Follows n (Going s, left) → Comes (suc n) (advance from_replies (Going s, left))
    stepped n s left (Leads progress) e f = subst (Comes (suc n)) (sym (advance_leads from_replies s left progress e)) (inl (led n s left progress e f))
    stepped n s [] (Asks key) e f =
        let stays : advance from_replies (Going s, []) ≡ (Going s, []) = advance_waits from_replies s [] key e refl in
        subst (Comes (suc n)) (sym stays) (inr (stays, refl))
    stepped n s (reply ∷ left) (Asks key) e f = asked n s key reply left (bytes_eq reply.0 key) refl e f

    next : (n : ℕ) (progress : Progress) (left : List Reply) → Comes n (progress, left) → Comes (suc n) (advance from_replies (progress, left))
    next n (Going s) left (inl f) = stepped n s left (step s) refl f
    next n (Over end out s) left (inl f) = inl (record {
      from = f.from;
      same = over_next n (Over end out s) (Over end out s) f.same refl;
      keys = f.keys ∙ ap (λ (k : Keys). keys_with k left) (sym (keys_next n (Over end out s) f.same));
    })
    next n (Going s) left (inr w) = subst (Comes (suc n)) (sym w.0) (inr w)
    next n (Over end out s) left (inr w) = cc w.1

    begins : AreFrom store replies → Follows zero (Going (start call), replies)
    unfolding keys_until moment_from
    begins from = record { from = from; same = refl; keys = refl }

    comes : AreFrom store replies → (n : ℕ) → Comes n (moment_with call replies n)
    comes from zero = subst (Comes zero) (sym (no_more from_replies (Going (start call), replies))) (inl (begins from))
    comes from (suc n) =
        let at = moment_with call replies n in
        subst (Comes (suc n)) (sym (one_more from_replies n (Going (start call), replies))) (next n at.0 at.1 (comes from n))

    used : (n : ℕ) (at : Progress × List Reply) → Comes n at → is_over at.0 ≡ true → at.1 ≡ [] → keys_in replies ≡ keys_until call store n
    used n at (inl f) over all = f.keys ∙ ap (keys_with (keys_until call store n)) all
    used n at (inr w) over all = let other = w.1 in cc

    -- an ended run used answers to the keys that the call reads
    pub keys_used : (receipt : Receipt) → AreFrom store replies → borne_out call replies ≡ Some receipt → keys_in replies ≡ keys_read call store
    keys_used receipt from e =
        let at : Progress × List Reply = moment_with call replies (enough_steps call) in
        let ended = bears_over call.gas at.0 at.1 receipt e in
        used (enough_steps call) at (comes from (enough_steps call)) ended.0 ended.1
