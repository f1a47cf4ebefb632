-- What a call of a block sees of a key, and when a read that it made stands (Block-STM, `read` and `validate_read_set`; that a
-- version may be a sum is this project's own).
use Rattle.std.specs.Prelude.{ℕ, suc, zero, Bool, true, false, ◌&&◌, ◌==◌, List, [], ◌∷◌, Option, None, Some}
use Rattle.rv_ledger.specs.Change.{Content, add}
use Rattle.rv_ledger.specs.declared.change.Change.TheVariants as change
use Rattle.read_set.specs.Origin.{Origin}
use Rattle.read_set.specs.declared.origin.Version.{Version}
use Rattle.read_set.specs.declared.Read.{Read}
use Rattle.mvmap.specs.Versions.{Entry, Stands, Estimate, Versions, entry_at}

-- what a call sees of a key: the storage before the block; a version, by its writer and incarnation, with what the key has
-- then; nothing yet, since it is blocked on the writer of an estimate; or a version that adds an amount, by its writer and
-- incarnation, and what is seen below it
pub data Visible : Type 0 where
  Base : Visible
  Found : ℕ → ℕ → Content → Visible
  Blocked : ℕ → Visible
  Passed : ℕ → ℕ → ℕ → Visible → Visible

-- what is seen from a writer on downwards: its value or removal; its sum, and what is seen below it; its estimate, which blocks;
-- or, if it has no entry, what is seen below it
abbrev pub visible_over : ℕ → Option Entry → Visible → Visible
visible_over writer None below = below
visible_over writer (Some (Stands incarnation (change.Value value))) below = Found writer incarnation (Some value)
visible_over writer (Some (Stands incarnation change.Gone)) below = Found writer incarnation None
visible_over writer (Some (Stands incarnation (change.Sum amount))) below = Passed writer incarnation amount below
visible_over writer (Some Estimate) below = Blocked writer

-- what call i sees among the entries of one key: the entry of the greatest writer below i
unfoldable pub visible_below : (ℕ → Option Entry) → ℕ → Visible
visible_below entries zero = Base
visible_below entries (suc i) = visible_over i (entries i) (visible_below entries i)

-- what call i sees of a key
abbrev pub reading : Versions → List ℕ → ℕ → Visible
reading versions key i = visible_below (entry_at versions key) i

-- the writer of the estimate that is met, if one is met; sums are looked through
abbrev pub blocker : Visible → Option ℕ
blocker Base = None
blocker (Found writer incarnation content) = None
blocker (Blocked writer) = Some writer
blocker (Passed writer incarnation amount below) = blocker below

-- the versions that are passed, from the nearest on
abbrev pub passed_in : Visible → List Version
passed_in Base = []
passed_in (Found writer incarnation content) = []
passed_in (Blocked writer) = []
passed_in (Passed writer incarnation amount below) = record { writer = writer; incarnation = incarnation } ∷ passed_in below

-- the version that is found below them, if one is found
abbrev pub bottom_in : Visible → Option Version
bottom_in Base = None
bottom_in (Found writer incarnation content) = Some (record { writer = writer; incarnation = incarnation })
bottom_in (Blocked writer) = None
bottom_in (Passed writer incarnation amount below) = bottom_in below

-- the origin of what is seen, if nothing blocks it
abbrev pub origin_in : Visible → Origin
origin_in seen = record { passed = passed_in seen; bottom = bottom_in seen }

-- whether a version is of this writer and incarnation
abbrev pub is_version : Version → ℕ → ℕ → Bool
is_version version writer incarnation = version.writer == writer && version.incarnation == incarnation

-- whether these versions are passed, and this one or the storage before the block is found below them; what is blocked has
-- no origin
abbrev pub is_walk : List Version → Option Version → Visible → Bool
is_walk [] None Base = true
is_walk (version ∷ passed) bottom Base = false
is_walk [] (Some version) Base = false
is_walk [] (Some version) (Found writer incarnation content) = is_version version writer incarnation
is_walk [] None (Found writer incarnation content) = false
is_walk (version ∷ passed) bottom (Found writer incarnation content) = false
is_walk passed bottom (Blocked writer) = false
is_walk (version ∷ passed) bottom (Passed writer incarnation amount below) = is_version version writer incarnation && is_walk passed bottom below
is_walk [] bottom (Passed writer incarnation amount below) = false

-- whether what is seen has this origin
abbrev pub is_origin : Origin → Visible → Bool
is_origin origin seen = is_walk origin.passed origin.bottom seen

-- whether a read of call i stands, over the entries of each key: it sees that very origin now
abbrev pub stands_among : (List ℕ → ℕ → Option Entry) → ℕ → Read → Bool
stands_among entries i read = is_origin read.origin (visible_below (entries read.key) i)

-- whether a read of call i stands
abbrev pub stands : Versions → ℕ → Read → Bool
stands versions i read = stands_among (entry_at versions) i read

-- the value of a key, from its value in the storage before the block and what is seen of it: the passed amounts are added in
-- turn, from the lowest writer on
abbrev pub value_seen : Content → Visible → Content
value_seen base Base = base
value_seen base (Found writer incarnation content) = content
value_seen base (Blocked writer) = base
value_seen base (Passed writer incarnation amount below) = Some (add (value_seen base below) amount)
