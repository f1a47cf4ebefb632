-- What the answer to a read says.
use Rattle.std.specs.Prelude.{◌≡◌, ◌<◌, ℕ, List, Option, None, Some}
use Rattle.rv_ledger.specs.Change.{Content, add}
use Rattle.rv_ledger.specs.Lent.{lent_change, lent_content}
use Rattle.read_set.specs.declared.origin.Version.{Version}
use Rattle.mvmap.specs.Versions.{Stands}
use Rattle.mvmap.specs.Reading.{Visible, Base, Blocked, blocker, origin_in, value_seen, visible_over}
use Rattle.mvmap.specs.declared.answer.Answer.{Answer}
use Rattle.mvmap.specs.declared.answer.Answer.TheVariants as answer
use Rattle.mvmap.specs.declared.answer.LentAnswer.{LentAnswer}
use Rattle.mvmap.specs.declared.answer.LentAnswer.TheVariants as lent
use Rattle.mvmap.specs.declared.seek.Nearest.{Nearest}
use Rattle.mvmap.specs.declared.seek.Nearest.TheVariants as nearest

-- a content, with an amount added if there is one
abbrev pub with_amount : Content → Option ℕ → Content
with_amount content None = content
with_amount content (Some amount) = Some (add content amount)

-- what an answer and the versions that were passed say of what is seen: its origin, and the value of the key over whatever
-- the storage before the block has; or the call that blocks it
abbrev pub Tells : Answer → List Version → Visible → Type 0
Tells (answer.Base sum) passed seen =
    (blocker seen ≡ None) × (origin_in seen ≡ record { passed = passed; bottom = None })
    × ((base : Content) → value_seen base seen ≡ with_amount base sum)
Tells (answer.Found version content) passed seen =
    (blocker seen ≡ None) × (origin_in seen ≡ record { passed = passed; bottom = Some version })
    × ((base : Content) → value_seen base seen ≡ content)
Tells (answer.Estimate writer) passed seen = blocker seen ≡ Some writer

-- a lent answer after the passed amounts are added
abbrev pub added : LentAnswer → Answer
added (lent.Base sum) = answer.Base sum
added (lent.Found version content sum) = answer.Found version (with_amount (lent_content content) sum)
added (lent.Estimate writer) = answer.Estimate writer

-- what the nearest entry below call i says of what the calls see; only private functions use this
abbrev pub IsNearest : Nearest → (ℕ → Visible) → ℕ → Type 0
IsNearest nearest.Nothing seen i = seen i ≡ Base
IsNearest (nearest.Standing version c) seen i =
    (version.writer < i)
    × (seen i ≡ visible_over version.writer (Some (Stands version.incarnation (lent_change c))) (seen version.writer))
IsNearest (nearest.Waiting writer) seen i = seen i ≡ Blocked writer
