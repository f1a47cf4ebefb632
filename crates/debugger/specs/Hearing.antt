-- Private help of proofs: no public clause cites it. How a session continues with parts of its input.
use Rattle.std.specs.Prelude.{◌≡◌, ℕ, ◌==◌, Bool, true, false, All, List, [], ◌∷◌, ◌++◌, Option}
use Rattle.std.specs.Io.KnownBytes.{Appends}
use Rattle.debugger.specs.declared.fault.DebugFault.{DebugFault}
use Rattle.debugger.specs.Replay.{ReplayState}
use Rattle.debugger.specs.Session.{IsCutAt, IsCutShort, IsHeardOn, lines_of, session}

-- a byte that does not end a line
abbrev pub IsInLine : ℕ → Type 0
IsInLine byte = (byte == 10) ≡ false

-- a session has answered the whole lines of an input, none of which ends it, and `line` begins the next one
pub record HasAnswered (has_more : Bool) (old : ReplayState) (input : List ℕ) (new : ReplayState) (line : List ℕ) (before after : Option (List ℕ)) : Type 0 where
  pub heard : List (List ℕ)
  pub on : All (IsHeardOn has_more) heard
  pub within : All IsInLine line
  pub lines : (rest : List ℕ) → lines_of (input ++ rest) ≡ heard ++ lines_of (line ++ rest)
  pub replay : new ≡ (session has_more old heard).replay
  pub text : Appends before after (session has_more old heard).text

-- whatever input comes next, the session has ended, and it printed what was written
abbrev pub EndsWith : Bool → ReplayState → List ℕ → ReplayState → List ℕ → Type 0
EndsWith has_more old input new text =
    (rest : List ℕ) → session has_more old (lines_of (input ++ rest)) ≡ record { text = text; replay = new }

-- a session has taken an input: it continues with the beginning of its next line, or it has ended
abbrev pub HasHeard : Bool → Bool → ReplayState → List ℕ → ReplayState → List ℕ → Option (List ℕ) → Option (List ℕ) → Type 0
HasHeard has_more true old input new line before after = HasAnswered has_more old input new line before after
HasHeard has_more false old input new line before after =
    (text : List ℕ) × Appends before after text × EndsWith has_more old input new text

-- the same for a part of the input that follows the beginning of a line
abbrev pub Hears : Bool → Bool → ReplayState → List ℕ → List ℕ → ReplayState → List ℕ → Option (List ℕ) → Option (List ℕ) → Type 0
Hears has_more goes_on old line part new next before after = HasHeard has_more goes_on old (line ++ part) new next before after

-- a session was cut short in an input, whatever comes next
abbrev pub IsCutIn : Bool → DebugFault → ReplayState → List ℕ → ReplayState → Option (List ℕ) → Option (List ℕ) → Type 0
IsCutIn has_more fault old input new before after = (rest : List ℕ) → IsCutShort has_more fault old (lines_of (input ++ rest)) new before after

-- a session was cut before or in the answer to a line
abbrev pub IsCutAnswer : Bool → DebugFault → ReplayState → List ℕ → ReplayState → Option (List ℕ) → Option (List ℕ) → Type 0
IsCutAnswer has_more fault old line new before after = (part : List ℕ) × IsCutAt has_more fault old (line ∷ []) new part × Appends before after part
