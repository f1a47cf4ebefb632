-- What an open finds after a machine stopped in a session.
use Rattle.std.specs.Prelude.{◌≡◌, ◌⊎◌, ℕ, List, [], ◌∷◌, ◌++◌, Option}
use Rattle.std.specs.Io.KnownBytes.{Appends}
use Rattle.session_requests.specs.Requests.{Ask, requests_of}
use Rattle.session_serving.specs.Serving.{AreAnswered, IsPart, end_fault_of, until_quit}
use Rattle.session_states.specs.States.{FileState}
use Rattle.session_turns.specs.declared.settings.Settings.{Settings}
use Rattle.session_durability.specs.Durable.{FileMoment, IsFileAnswer, file_turn}

-- the session that the next request leaves
abbrev pub IsNextLeft : Settings → FileState → List Ask → FileState → Type 0
IsNextLeft settings f [] next = ⊥
IsNextLeft settings f (ask ∷ asks) next = next ≡ (file_turn settings f ask).1

-- The first requests of an input were answered in whole, and of the next answer a proper part at most; and what is found is the
-- session that they left, or that the next one left too.
abbrev pub IsResumed : Settings → FileMoment → List ℕ → Option (List ℕ) → Option (List ℕ) → FileState → Type 0
IsResumed settings old bytes before now found =
    (heard : List Ask) × (rest : List Ask) × (text : List ℕ) × (mid : FileMoment) × (part : List ℕ)
    × (until_quit (requests_of bytes).asks ≡ heard ++ rest) × AreAnswered (IsFileAnswer settings) old heard text mid
    × Appends before now (text ++ part) × IsPart (IsFileAnswer settings) (end_fault_of (requests_of bytes)) mid rest part
    × ((found ≡ mid.session) ⊎ IsNextLeft settings mid.session rest found)
