-- Private help of contracts: the run of a call over what is known of a storage.
use Rattle.std.specs.Prelude.{◌≡◌, ℕ, Bool, true, false, List, Option, Some, None}
use Rattle.std.specs.FinMap as map
use Rattle.std.specs.Option.{option_copied}
use Rattle.overlay.specs.Overlay.{Changes}
use Rattle.read_set.specs.Origin.{base_origin}
use Rattle.rv_ledger.specs.Applied.{apply_writes}
use Rattle.rv_ledger.specs.Change.{Content}
use Rattle.rv_ledger.specs.Key.{Storage, WriteMap}
use Rattle.rv_step.specs.Asked.{asked_by}
use Rattle.rv_step.specs.Chain.{AreFrom}
use Rattle.rv_step.specs.Replies.{replies_of}
use Rattle.rv_step.specs.Run.{IsEnded, RunView, after_answer}
use Rattle.rv_step.specs.declared.stage.Stage.TheVariants.{Asked}
use Rattle.host_block.specs.Changes.{Agrees, known_after}
use Rattle.host_block.specs.declared.known.Known.{Known}
use Rattle.host_block.specs.declared.known.Known.TheVariants as known

-- what is known
abbrev pub known_content : Known → Option Content
known_content (known.Content content) = Some (option_copied content)
known_content (known.Sum value) = Some (Some value)
known_content known.Nothing = None

-- a run got what is known of the key that it asks for; it stays if nothing is known
abbrev pub IsAnsweredIfKnown : Option Content → List ℕ → Bool → RunView → RunView → Type 0
IsAnsweredIfKnown (Some content) key true before after = after ≡ after_answer key content base_origin before
IsAnsweredIfKnown None key false before after = after ≡ before
IsAnsweredIfKnown _ key _ before after = ⊥

-- if the answers before are those of each storage with these changes that has what is known, so are the answers after
abbrev pub KeepsAnswers : Changes → WriteMap → RunView → RunView → Type 0
KeepsAnswers bases changes before after = (store : Storage) → Agrees bases store
    → AreFrom (apply_writes store changes) (replies_of before.answers) → AreFrom (apply_writes store changes) (replies_of after.answers)

-- a run asks for a key of which nothing is known, or its call has ended
abbrev pub IsCallPause : Option (List ℕ) → Changes → WriteMap → RunView → Type 0
IsCallPause None bases changes run = IsEnded run.stage
IsCallPause (Some key) bases changes run =
    (run.stage ≡ Asked key) × (asked_by run.call (replies_of run.answers) ≡ Some key)
    × (known_after (map.get changes key) (map.get bases key) ≡ None)
