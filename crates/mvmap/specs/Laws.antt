-- Laws of what a call sees.
use Rattle.std.specs.Prelude.{◌≡◌, ◌<◌, ℕ, List, Option, None, Some, true}
use Rattle.std.specs.List.{AllByRecursion}
use Rattle.rv_ledger.specs.Change.{Content, ContentChange, wrapping_sum}
use Rattle.read_set.specs.Origin.{named}
use Rattle.read_set.specs.declared.origin.Version.{Version}
use Rattle.read_set.specs.declared.Read.{Read}
use Rattle.mvmap.specs.Versions.{Entry, Stands, Estimate, Versions, changed, entry_at}
use Rattle.mvmap.specs.Reading.{Visible, Base, Found, Blocked, Passed, blocker, origin_in, reading, stands, value_seen}
use Rattle.mvmap.specs.Answers.{with_amount}

-- what a call sees of a key depends only on the entries of lower writers at that key
abbrev pub DependsOnLowerWriters : Type 0
DependsOnLowerWriters = (v u : Versions) (key : List ℕ) (i : ℕ) → ((w : ℕ) → w < i → entry_at v key w ≡ entry_at u key w) → reading v key i ≡ reading u key i

-- if an estimate is changed, to any other entry or to none, each read that stands still stands, and sees the same
abbrev pub ChangesNoStandingRead : Type 0
ChangesNoStandingRead = (v : Versions) (key : List ℕ) (w : ℕ) (entry : Option Entry) (i : ℕ) (read : Read) → entry_at v key w ≡ Some Estimate → stands v i read ≡ true
    → (stands (changed v (key, w) entry) i read ≡ true) × (reading (changed v (key, w) entry) read.key i ≡ reading v read.key i)

-- a version of a key is in the map at its incarnation, and its writer is below call i
abbrev pub StandsBelow : Versions → List ℕ → ℕ → Version → Type 0
StandsBelow v key i version = (version.writer < i) × ((c : ContentChange) × (entry_at v key version.writer ≡ Some (Stands version.incarnation c)))

-- if a read stands, its origin is what is seen, and each version that it names is in the map, of a writer below the reader
abbrev pub NamesWhatStands : Type 0
NamesWhatStands = (v : Versions) (i : ℕ) (read : Read) → stands v i read ≡ true
    → (blocker (reading v read.key i) ≡ None) × (origin_in (reading v read.key i) ≡ read.origin) × AllByRecursion (StandsBelow v read.key i) (named read.origin)

-- a call is blocked only on a lower call whose entry is an estimate
abbrev pub BlocksOnLowerWriters : Type 0
BlocksOnLowerWriters = (v : Versions) (key : List ℕ) (i w : ℕ) → blocker (reading v key i) ≡ Some w → (w < i) × (entry_at v key w ≡ Some Estimate)

-- what is found below the versions that were passed, over a storage before the block
abbrev pub content_below : Content → Visible → Content
content_below base Base = base
content_below base (Found writer incarnation content) = content
content_below base (Blocked writer) = base
content_below base (Passed writer incarnation amount below) = content_below base below

-- an amount, and a sum of amounts if there is one
abbrev pub total_amount : ℕ → Option ℕ → ℕ
total_amount amount None = amount
total_amount amount (Some sum) = wrapping_sum amount sum

-- the sum of the amounts that were passed, which wraps at 2^64; None if none was passed
abbrev pub amount_passed : Visible → Option ℕ
amount_passed Base = None
amount_passed (Found writer incarnation content) = None
amount_passed (Blocked writer) = None
amount_passed (Passed writer incarnation amount below) = Some (total_amount amount (amount_passed below))

-- one addition of that sum gives what adding the amounts in turn gives
abbrev pub SumsAddUp : Type 0
SumsAddUp = (base : Content) (seen : Visible) → value_seen base seen ≡ with_amount (content_below base seen) (amount_passed seen)
