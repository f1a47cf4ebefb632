-- The laws of what a call sees.
use Rattle.std.proofs.Common.{◌≡◌, ◌⊎◌, ℕ, false, List, Option, Some, ap, subst, ◌∙◌, inl, inr}
use Rattle.std.specs.List.{AllByRecursion}
use Rattle.std.specs.FinMap.{get}
use Rattle.read_set.specs.Origin.{Origin, named}
use Rattle.mvmap.specs.Versions.{Entry, Estimate, Versions, changed, entry_at}
use Rattle.mvmap.specs.Reading.{visible_below, reading, is_origin, origin_in}
use Rattle.mvmap.specs.Laws.{DependsOnLowerWriters, ChangesNoStandingRead, NamesWhatStands, StandsBelow, BlocksOnLowerWriters}
use Rattle.mvmap.proofs.Readings.{seen_same, seen_kept, blocked_at, is_blocked, named_stand, origin_seen, origin_shown, walk_shown}
use Rattle.mvmap.proofs.Places.{get_other}

pub depends_on_lower : DependsOnLowerWriters
depends_on_lower v u key i h = seen_same (entry_at v key) (entry_at u key) i h

-- in a map in which an estimate is changed, an entry is as before, or was the estimate
pub changed_or_estimate : (v : Versions) (key : List ℕ) (w : ℕ) (entry : Option Entry) (k : List ℕ) (x : ℕ) → entry_at v key w ≡ Some Estimate → (entry_at (changed v (key, w) entry) k x ≡ entry_at v k x) ⊎ (entry_at v k x ≡ Some Estimate)
changed_or_estimate v key w entry k x est = elim (get_other v (key, w) entry (k, x)) [
  | inl p ↦ inl p
  | inr p ↦ inr (ap (get v) p ∙ est)
]

pub changes_none : ChangesNoStandingRead
changes_none v key w entry i read est h =
    let e : ℕ → Option Entry = entry_at v read.key in
    let f : ℕ → Option Entry = entry_at (changed v (key, w) entry) read.key in
    let open_now : is_blocked (visible_below e i) ≡ false = origin_shown read.origin (visible_below e i) h in
    let same : visible_below f i ≡ visible_below e i = seen_kept e f i (λ x. changed_or_estimate v key w entry read.key x est) open_now in
    (ap (is_origin read.origin) same ∙ h, same)

pub names_standing : NamesWhatStands
names_standing v i read h =
    let seen = reading v read.key i in
    let shown = walk_shown read.origin.passed read.origin.bottom seen h in
    let same : origin_in seen ≡ read.origin = origin_seen read.origin seen h in
    (shown.0, same, subst (λ (o : Origin). AllByRecursion (StandsBelow v read.key i) (named o)) same (named_stand (entry_at v read.key) i))

pub blocks_on_lower : BlocksOnLowerWriters
blocks_on_lower v key i w h = blocked_at (entry_at v key) i w h
