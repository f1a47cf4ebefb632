-- Answers that a storage gives, and one more.
use Rattle.std.proofs.Common.{◌≡◌, ℕ, Bool, true, false, List, [], ◌∷◌, ◌++◌, Option, None, Some, refl, sym, ap, subst, ◌∙◌}
use Rattle.std.specs.FinMap.{get}
use Rattle.std.proofs.lemmas.List.{map-append}
use Rattle.overlay.specs.Overlay.{Changes}
use Rattle.read_set.specs.Origin.{base_origin}
use Rattle.rv_ledger.specs.Applied.{apply_writes}
use Rattle.rv_ledger.specs.Change.{Content}
use Rattle.rv_ledger.specs.Key.{Storage, WriteMap}
use Rattle.rv_step.specs.Chain.{AreFrom}
use Rattle.rv_step.specs.Moment.{Reply}
use Rattle.rv_step.specs.Replies.{reply_of, replies_of}
use Rattle.rv_step.specs.Run.{RunView, after_answer, standing_at}
use Rattle.rv_step.specs.Step.{Progress, Going, Over}
use Rattle.rv_step.specs.declared.answer.StorageAnswer.{StorageAnswer}
use Rattle.host_block.specs.Changes.{known_after}
use Rattle.host_block.specs.Known.{IsAnsweredIfKnown, KeepsAnswers}
use Rattle.host_block.proofs.Changing.{known_at}

-- one more answer of the storage
pub one_more_from : (store : Storage) (replies : List Reply) (reply : Reply) → AreFrom store replies → reply.1 ≡ get store reply.0 → AreFrom store (replies ++ reply ∷ [])
one_more_from store [] reply from is = (is, tt)
one_more_from store (r ∷ rs) reply from is = (from.0, one_more_from store rs reply from.1 is)

answers_at : (progress : Progress) (r : RunView) → (standing_at progress r).answers ≡ r.answers
answers_at (Going t) r = refl
answers_at (Over end out t) r = refl

-- a run that got what is known keeps its answers those of the storage
pub answered_from : (bases : Changes) (changes : WriteMap) (key : List ℕ) (content : Content) (before after : RunView)
    → known_after (get changes key) (get bases key) ≡ Some content → after ≡ after_answer key content base_origin before → KeepsAnswers bases changes before after
answered_from bases changes key content before after known is store agrees from =
    let added : StorageAnswer = record { key = key; value = content; origin = base_origin } in
    let answers : after.answers ≡ before.answers ++ added ∷ [] = ap (λ (r : RunView). r.answers) is ∙ answers_at _ _ in
    subst (AreFrom (apply_writes store changes)) (sym (ap replies_of answers ∙ map-append reply_of before.answers (added ∷ [])))
    (one_more_from (apply_writes store changes) (replies_of before.answers) (key, content) from (known_at bases changes store key content agrees known))

-- the same by what was found
pub is_answered_from : (bases : Changes) (changes : WriteMap) (key : List ℕ) (o : Option Content) (is_known : Bool) (before after : RunView)
    → known_after (get changes key) (get bases key) ≡ o → IsAnsweredIfKnown o key is_known before after → KeepsAnswers bases changes before after
is_answered_from bases changes key (Some content) true before after known is = answered_from bases changes key content before after known is
is_answered_from bases changes key None false before after known is = λ store agrees from. subst (λ (r : RunView). AreFrom (apply_writes store changes) (replies_of r.answers)) (sym is) from
is_answered_from bases changes key (Some content) false before after known is = absurd is
is_answered_from bases changes key None true before after known is = absurd is

call_at : (progress : Progress) (r : RunView) → (standing_at progress r).call ≡ r.call
call_at (Going t) r = refl
call_at (Over end out t) r = refl

-- an answer leaves the call of a run
pub is_answered_call : (o : Option Content) (key : List ℕ) (is_known : Bool) (before after : RunView) → IsAnsweredIfKnown o key is_known before after → after.call ≡ before.call
is_answered_call (Some content) key true before after is = ap (λ (r : RunView). r.call) is ∙ call_at _ _
is_answered_call None key false before after is = ap (λ (r : RunView). r.call) is
is_answered_call (Some content) key false before after is = absurd is
is_answered_call None key true before after is = absurd is
