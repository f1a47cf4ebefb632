-- What `debug` prints for its lines, and what they do to the replay.
use Rattle.std.specs.Prelude.{◌≡◌, ⊤, ℕ, ◌+◌, ◌-◌, ◌^◌, ◌<◌, ◌≤◌, ◌==◌, ◌⊎◌, Bool, true, false, All, List, [], ◌∷◌, ◌++◌, codes, length, Option, Some, None, IfSome, if◌then◌else◌}
use Rattle.std.specs.Io.KnownBytes.{Appends}
use Rattle.block_file.specs.Line.{cut}
use Rattle.byte_streams.specs.declared.fault.WriteFault.{WriteFault}
use Rattle.byte_streams.specs.declared.fault.WriteFault.TheVariants as output
use Rattle.receipts.specs.Text.{bytes_text, regs_line}
use Rattle.debugger.specs.declared.command.Command.{Command}
use Rattle.debugger.specs.declared.command.Command.TheVariants.{Step, Back, RunTo, Where, Registers, Bytes, Quit, GoTo, RunToChange, End, Value, Help}
use Rattle.debugger.specs.declared.fault.DebugFault.{DebugFault}
use Rattle.debugger.specs.declared.fault.DebugFault.TheVariants.{Memory, Output, Unreadable}
use Rattle.debugger.specs.declared.fault.ReplayFault.{ReplayFault}
use Rattle.debugger.specs.declared.fault.ReplayFault.TheVariants.{AtEnd, AtStart, BadRange}
use Rattle.debugger.specs.Command.{heard_of}
use Rattle.debugger.specs.Faults.{fault_text}
use Rattle.rv_step.specs.declared.machine.Machine.{Machine}
use Rattle.debugger.specs.More.{IsTowards, at_moment, changes, content_line, content_now, end_line, first_stop, help_text}
use Rattle.debugger.specs.Replay.{IsLaterMoment, ReplayState, are_bytes_in_memory, bytes_seen, has_pc, is_at_end, next_of, previous_of, standing, standing_machine, stops, where_text}

abbrev pub replay_refusal_line : ReplayFault → List ℕ
replay_refusal_line fault = codes "refused " ++ (fault_text fault ++ 10 ∷ [])

abbrev pub where_line : ReplayState → List ℕ
where_line r = where_text r ++ 10 ∷ []

-- the replay after a run, if this is not the last moment; a call is over after at most one step more than it has gas
abbrev pub stop_of : (Machine → Bool) → ReplayState → Option ReplayState
stop_of is_wanted r =
    if is_at_end r then None else Some (record r { moment = first_stop (r.call.gas + 1) is_wanted r.call r.store (r.moment + 1) })

-- a move prints its new moment, or its refusal
abbrev pub moved_text : ReplayFault → Option ReplayState → List ℕ
moved_text edge (Some r) = where_line r
moved_text edge None = replay_refusal_line edge

abbrev pub moved : ReplayState → Option ReplayState → ReplayState
moved r (Some s) = s
moved r None = r

abbrev pub seen_text : Option (List ℕ) → List ℕ
seen_text (Some bytes) = bytes_text bytes ++ 10 ∷ []
seen_text None = replay_refusal_line BadRange

-- a run to a change of bytes goes nowhere if some of them are outside memory
abbrev pub change_of : ℕ → ℕ → ReplayState → Option ReplayState
change_of address len r = if are_bytes_in_memory address len then stop_of (changes address len r) r else None

abbrev pub changed_text : ℕ → ℕ → ReplayState → List ℕ
changed_text address len r = moved_text (if are_bytes_in_memory address len then AtEnd else BadRange) (change_of address len r)

-- what a command prints
abbrev pub answer_text : ReplayState → Command → List ℕ
answer_text r Step = moved_text AtEnd (next_of r)
answer_text r Back = moved_text AtStart (previous_of r)
answer_text r (RunTo pc) = moved_text AtEnd (stop_of (has_pc pc) r)
answer_text r Where = where_line r
answer_text r Registers = regs_line (standing_machine r).regs
answer_text r (Bytes address count) = seen_text (bytes_seen r address count)
answer_text r Quit = []
answer_text r (GoTo moment) = moved_text AtEnd (at_moment moment r)
answer_text r (RunToChange address len) = changed_text address len r
answer_text r End = end_line r
answer_text r (Value key) = content_line (content_now r key)
answer_text r Help = help_text

abbrev pub after_command : ReplayState → Command → ReplayState
after_command r Step = moved r (next_of r)
after_command r Back = moved r (previous_of r)
after_command r (RunTo pc) = moved r (stop_of (has_pc pc) r)
after_command r (GoTo moment) = moved r (at_moment moment r)
after_command r (RunToChange address len) = moved r (change_of address len r)
after_command r _ = r

-- the same for a line; a line that is not a command prints `what`
abbrev pub line_text : ReplayState → Option Command → List ℕ
line_text r (Some command) = answer_text r command
line_text r None = codes "what\n"

abbrev pub after_line : ReplayState → Option Command → ReplayState
after_line r (Some command) = after_command r command
after_line r None = r

abbrev pub is_quit : Option Command → Bool
is_quit (Some Quit) = true
is_quit _ = false

-- what a session printed, and the replay that it left
pub record Ending : Type 0 where
  pub text : List ℕ
  pub replay : ReplayState

abbrev pub after_text : List ℕ → Ending → Ending
after_text text e = record e { text = text ++ e.text }

-- a session over lines, up to the first that quits; the flag says whether the lines of `--more` are commands too
unfoldable pub session : Bool → ReplayState → List (List ℕ) → Ending
session has_more r [] = record { text = []; replay = r }
session has_more r (line ∷ lines) =
    if is_quit (heard_of has_more line) then record { text = []; replay = r } else
    after_text (line_text r (heard_of has_more line)) (session has_more (after_line r (heard_of has_more line)) lines)

-- the lines among the parts between LFs: what follows the last LF is a line unless it is empty
abbrev pub with_last : List (List ℕ) → List (List ℕ)
with_last [] = []
with_last (rest ∷ []) = if length rest == 0 then [] else rest ∷ []
with_last (line ∷ next ∷ more) = line ∷ with_last (next ∷ more)

unfoldable pub lines_of : List ℕ → List (List ℕ)
lines_of text = with_last (cut 10 text)

-- a session ended like this: its text was written, and the replay is the one that the session left
abbrev pub EndsAs : Ending → ReplayState → Option (List ℕ) → Option (List ℕ) → Type 0
EndsAs ending new before after = Appends before after ending.text × (new ≡ ending.replay)

-- an input may be cut off: a read may fail, or it has at least 2^64 - 1 bytes
abbrev pub MayBeCutOff : Type 0 → Option (List ℕ) → Type 0
MayBeCutOff may_fail input = may_fail ⊎ IfSome input (λ bytes. 2 ^ 64 - 1 ≤ length bytes)

-- a session may be refused with this fault: with Output only if a write may be refused so, and never with Output of Memory
abbrev pub IsPossibleFault : (WriteFault → Type 0) → DebugFault → Type 0
IsPossibleFault may_refuse (Output output.Memory) = ⊥
IsPossibleFault may_refuse (Output fault) = may_refuse fault
IsPossibleFault may_refuse _ = ⊤

-- the known bytes grow by a beginning of a text
abbrev pub AppendsBeginning : Option (List ℕ) → Option (List ℕ) → List ℕ → Type 0
AppendsBeginning before after text = (done : List ℕ) × (rest : List ℕ) × (text ≡ done ++ rest) × Appends before after done

-- a line that does not end the session
abbrev pub IsHeardOn : Bool → List ℕ → Type 0
IsHeardOn has_more line = is_quit (heard_of has_more line) ≡ false

-- on the way of a run: before it, at any moment before the one at which it stops, or after it
abbrev pub IsOnRun : (Machine → Bool) → ReplayState → ReplayState → ReplayState → Type 0
IsOnRun is_wanted r after new =
    (new ≡ after) ⊎ (IsLaterMoment is_wanted r new × (r.moment < new.moment → stops is_wanted (standing new) ≡ false))

-- on the way of a line's move: before it or after it; for a run, or a move to a moment, also at any moment between
abbrev pub IsOnWay : ReplayState → Option Command → ReplayState → Type 0
IsOnWay r (Some (RunTo pc)) new = IsOnRun (has_pc pc) r (after_command r (RunTo pc)) new
IsOnWay r (Some (RunToChange address len)) new = IsOnRun (changes address len r) r (after_command r (RunToChange address len)) new
IsOnWay r (Some (GoTo moment)) new = (new ≡ after_command r (GoTo moment)) ⊎ IsTowards moment r new
IsOnWay r command new = (new ≡ r) ⊎ (new ≡ after_line r command)

-- what a fault leaves of a session that is at a replay before the remaining lines: the new replay, and the written part of the
-- next answer. Unreadable comes between two lines. Output comes in the answer of a line, whose move was made. Memory comes
-- before any of an answer is written; the move of that line was then made, or not, or in part.
abbrev pub IsCutAt : Bool → DebugFault → ReplayState → List (List ℕ) → ReplayState → List ℕ → Type 0
IsCutAt has_more Unreadable r rest new part = (new ≡ r) × (part ≡ [])
IsCutAt has_more (Output fault) r [] new part = ⊥
IsCutAt has_more (Output fault) r (line ∷ more) new part =
    (new ≡ after_line r (heard_of has_more line)) × ((left : List ℕ) × (line_text r (heard_of has_more line) ≡ part ++ left))
IsCutAt has_more Memory r [] new part = (new ≡ r) × (part ≡ [])
IsCutAt has_more Memory r (line ∷ more) new part = IsOnWay r (heard_of has_more line) new × (part ≡ [])

-- a fault cut a session over these lines short: it answered the first of them, and was cut at the others
abbrev pub IsCutShort : Bool → DebugFault → ReplayState → List (List ℕ) → ReplayState → Option (List ℕ) → Option (List ℕ) → Type 0
IsCutShort has_more fault old lines new before after =
    (heard : List (List ℕ)) × (rest : List (List ℕ)) × (part : List ℕ)
    × (lines ≡ heard ++ rest) × All (IsHeardOn has_more) heard
    × IsCutAt has_more fault (session has_more old heard).replay rest new part
    × Appends before after ((session has_more old heard).text ++ part)
