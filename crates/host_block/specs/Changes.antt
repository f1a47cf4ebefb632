-- The changes that calls make of a storage of which only some contents are known.
use Rattle.std.specs.Prelude.{◌≡◌, ℕ, List, map, Option, Some, None}
use Rattle.std.specs.FinMap as finite
use Rattle.std.specs.Option.{option_map}
use Rattle.overlay.specs.Overlay.{Changes}
use Rattle.rv_ledger.specs.Change.{Content, ContentChange, add}
use Rattle.rv_ledger.specs.Key.{Storage, WriteMap}
use Rattle.rv_ledger.specs.declared.change.Change.TheVariants as change
use Rattle.rv_step.specs.Step.{change_after_add}

-- a storage has what is known of it: some contents
abbrev pub Agrees : Changes → Storage → Type 0
Agrees bases store = (key : List ℕ) (content : Content) → finite.get bases key ≡ Some content → finite.get store key ≡ content

-- the change of a key after one more write: an added amount joins the earlier change, and any other write replaces it
abbrev pub change_after : Option ContentChange → ContentChange → ContentChange
change_after before (change.Value value) = change.Value value
change_after before change.Gone = change.Gone
change_after before (change.Sum amount) = change_after_add before amount

-- what is known of a key after a change, by what is known of it before: a value and a removal need nothing of it
abbrev pub known_after : Option ContentChange → Option Content → Option Content
known_after (Some (change.Value value)) base = Some (Some value)
known_after (Some change.Gone) base = Some None
known_after (Some (change.Sum amount)) base = option_map (λ content. Some (add content amount)) base
known_after None base = base

-- what a key has after a change, by what is known of it before; nothing known counts as absence
abbrev pub resolved : ContentChange → Option Content → Content
resolved (change.Value value) base = Some value
resolved change.Gone base = None
resolved (change.Sum amount) (Some content) = Some (add content amount)
resolved (change.Sum amount) None = Some (add None amount)

-- the changed keys, ascending, each with what it has then
abbrev pub listed_changes : Changes → WriteMap → List (List ℕ × Content)
listed_changes bases changes = map (λ entry. (entry.0, resolved entry.1 (finite.get bases entry.0))) (finite.entries changes)
