-- The moves and the views of a replay that the lines of `debug --more` ask for, besides those of the other lines.
use Rattle.std.specs.Prelude.{◌≡◌, ℕ, zero, suc, ◌+◌, ◌<◌, ◌≤◌, Bool, true, false, not, if◌then◌else◌, List, [], ◌∷◌, codes, Option, Some, None, Result, Ok, Err}
use Rattle.std.specs.FinMap as map
use Rattle.std.specs.Fmt.{decimal}
use Rattle.std.specs.Str.{bytes_eq}
use Rattle.receipts.specs.Text.{bytes_text, end_name, printed_line}
use Rattle.rv_ledger.specs.Call.{Invocation}
use Rattle.rv_ledger.specs.Change.{Content, ContentChange, apply_change}
use Rattle.rv_ledger.specs.Key.{Storage}
use Rattle.rv_ledger.specs.declared.end.End.{End}
use Rattle.rv_ledger.specs.declared.receipt.Receipt.{Receipt}
use Rattle.rv_mem.specs.Space.{bytes_at}
use Rattle.rv_step.specs.declared.machine.Machine.{Machine}
use Rattle.rv_step.specs.Chain.{ends}
use Rattle.rv_step.specs.Moment.{is_over, moment_over}
use Rattle.debugger.specs.declared.fault.ReplayFault.{ReplayFault}
use Rattle.debugger.specs.declared.fault.ReplayFault.TheVariants.{AtEnd, BadRange, Memory}
use Rattle.debugger.specs.Replay.{ReplayState, RunsTo, are_bytes_in_memory, standing_machine, stops}

-- a moment of a call: its first, or the next after a moment at which the call is not over
abbrev pub is_moment : Invocation → Storage → ℕ → Bool
is_moment call store zero = true
is_moment call store (suc n) = not (is_over (moment_over call store n))

-- the replay at a moment; None if the call is over before it
abbrev pub at_moment : ℕ → ReplayState → Option ReplayState
at_moment moment r = if is_moment r.call r.store moment then Some (record r { moment = moment }) else None

-- the new moment is the old one, or a later one that is not past the wanted one
pub record IsTowards (moment : ℕ) (old new : ReplayState) : Type 0 where
  pub call : new.call ≡ old.call
  pub store : new.store ≡ old.store
  pub later : old.moment ≤ new.moment
  pub within : old.moment < new.moment → new.moment ≤ moment

-- the replay goes to a moment, forward or back; if the call is over before it, this is refused and nothing changes; if memory
-- ran out, the replay is at its old moment or at a later one on the way
abbrev pub GoesTo : {X : Type 0} → ℕ → Result X ReplayFault → ReplayState → ReplayState → Type 0
GoesTo moment (Ok x) old new = at_moment moment old ≡ Some new
GoesTo moment (Err AtEnd) old new = (at_moment moment old ≡ None) × (new ≡ old)
GoesTo moment (Err Memory) old new = IsTowards moment old new
GoesTo moment (Err fault) old new = ⊥

-- a run to a change of bytes wants a machine whose bytes differ from these
abbrev pub has_changed : ℕ → ℕ → List ℕ → Machine → Bool
has_changed address len bytes s = not (bytes_eq (bytes_at s.memory address len) bytes)

-- the same, for the bytes that a replay has now. The first later moment at which the bytes differ from now is the first one at
-- which they differ from the moment before it
abbrev pub changes : ℕ → ℕ → ReplayState → Machine → Bool
changes address len r s = has_changed address len (bytes_at (standing_machine r).memory address len) s

-- such a run is refused first if some of the bytes are outside memory; then nothing changes
abbrev pub RunsToChange : {X : Type 0} → ℕ → ℕ → Result X ReplayFault → ReplayState → ReplayState → Type 0
RunsToChange address len (Err BadRange) old new = (are_bytes_in_memory address len ≡ false) × (new ≡ old)
RunsToChange address len result old new = (are_bytes_in_memory address len ≡ true) × RunsTo (changes address len old) result old new

-- the first of `left` moments from n on at which a run stops; if there is none, the moment after them
unfoldable pub first_stop : ℕ → (Machine → Bool) → Invocation → Storage → ℕ → ℕ
first_stop zero is_wanted call store n = n
first_stop (suc left) is_wanted call store n =
    if stops is_wanted (moment_over call store n) then n else first_stop left is_wanted call store (n + 1)

-- a run that stops only when the call is over wants no machine
abbrev pub never : Machine → Bool
never s = false

-- the last moment of a call; it is over after at most one step more than it has gas
abbrev pub last_moment : Invocation → Storage → ℕ
last_moment call store = first_stop (call.gas + 1) never call store 0

-- how a call ended, its output, the gas that it used, and its last moment
abbrev pub ending_line : End → List ℕ → ℕ → ℕ → List ℕ
ending_line end out gas moment = printed_line (codes "ends") (end_name end ∷ bytes_text out ∷ decimal gas ∷ decimal moment ∷ [])

abbrev pub receipt_line : Receipt → ℕ → List ℕ
receipt_line receipt moment = ending_line receipt.end receipt.out receipt.gas moment

-- the line of how the call of a replay ends, over its storage
abbrev pub end_line : ReplayState → List ℕ
end_line r = receipt_line (ends r.call r.store) (last_moment r.call r.store)

-- what a READ finds if the storage has this content: the content itself, or what the call's own change has made of it
abbrev pub content_with : Option ContentChange → Content → Content
content_with None content = content
content_with (Some change) content = apply_change change content

-- what a READ of a key would find now
abbrev pub content_now : ReplayState → List ℕ → Content
content_now r key = content_with (map.get (standing_machine r).own key) (map.get r.store key)

-- a content: the value, or that there is none
abbrev pub content_line : Content → List ℕ
content_line (Some value) = printed_line (codes "value") (bytes_text value ∷ [])
content_line None = codes "absent\n"

-- the help: each line, and what it does
abbrev pub help_text : List ℕ
help_text = codes "s: on to the next moment\nb: back to the moment before\ng ADDRESS: on to this pc, or to the last moment\nw: the moment, its pc and the word there\nr: the registers\nm ADDRESS LENGTH: bytes of memory\nq: ends the session\nt MOMENT: to a moment, forward or back\nc ADDRESS LENGTH: on to the next change of these bytes, or to the last moment\ne: how the call ends: end, output, gas, last moment\nv KEY: what a READ of this key would find now\nh: these lines\n"
