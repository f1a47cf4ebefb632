-- Which state of a session a file keeps.
use Rattle.std.specs.Prelude.{◌≡◌, ◌≢◌, ⊤, ℕ, Bool, true, false, List, Option, Some, None, Ok}
use Rattle.std.specs.FinMap as fin
use Rattle.std.specs.Option.{option_map}
use Rattle.sha2.specs.Sha256.{sha256}
use Rattle.elf32.specs.Image.{image_of}
use Rattle.elf32.specs.Layout.{Layout}
use Rattle.session_tree.specs.Entries.{ByteMap}
use Rattle.rv_ledger.specs.declared.rules.Rules.{Rules}
use Rattle.session_file.specs.Kept.{Kept}
use Rattle.session_file.specs.Opening.{answer_parts}
use Rattle.session_file.specs.declared.rows.AnswerRow.{AnswerRow}
use Rattle.session_file.specs.declared.rows.SessionRow.{SessionRow}
use Rattle.session_turns.specs.Programs.{ProgramsByName}
use Rattle.session_turns.specs.Replies.{answer_bytes, answer_line, kept_reply}
use Rattle.session_turns.specs.Turn.{new_session}
use Rattle.session_turns.specs.declared.kept.KeptAnswer.{KeptAnswer}
use Rattle.session_turns.specs.declared.settings.Settings.{Settings}
use Rattle.session_turns.specs.declared.state.State.{State}
use Rattle.session_states.specs.declared.loading.LoadFault.{LoadFault}
use Rattle.session_states.specs.declared.loading.Loaded.{Loaded}
use Rattle.session_states.specs.declared.loading.LoadFault.TheVariants.{OtherSettings, Damaged}

-- a session over a file: its state without the last answer, and that answer as the file has it, its line and its bytes
pub record FileState : Type 0 where
  pub state : State
  pub last : Option (List ℕ × List ℕ)

-- an answer as the file has it
abbrev pub kept_text : KeptAnswer → List ℕ × List ℕ
kept_text kept = (answer_line (kept_reply kept), answer_bytes (kept_reply kept))

-- the last answer: that of this run, otherwise the one that was found in the file
abbrev pub last_of : Option KeptAnswer → Option (List ℕ × List ℕ) → Option (List ℕ × List ℕ)
last_of None found = found
last_of (Some kept) found = Some (kept_text kept)

-- a state in memory, and the answer that was found in the file, as a session over a file
abbrev pub file_state : State → Option AnswerRow → FileState
file_state s found = record { state = record s { last = None }; last = last_of s.last (option_map answer_parts found) }

-- a new session
abbrev pub new_state : Settings → FileState
new_state settings = record { state = new_session settings; last = None }

-- a name has neither a file nor a program, or a file whose SHA-256 it is, and the program of that file
abbrev pub IsLoadedFrom : List ℕ → Option (List ℕ) → Option Layout → Type 0
IsLoadedFrom name None None = ⊤
IsLoadedFrom name (Some file) (Some image) = (sha256 file ≡ name) × (image_of file ≡ Ok image)
IsLoadedFrom name file image = ⊥

-- this holds for each name
abbrev pub AreLoadedFrom : ByteMap → ProgramsByName → Type 0
AreLoadedFrom files programs = (name : List ℕ) → IsLoadedFrom name (fin.get files name) (fin.get programs name)

-- what loading files returns: their programs, or None if one of them is no program of its name
abbrev pub AreLoadedAs : ByteMap → Option ProgramsByName → Type 0
AreLoadedAs files (Some programs) = AreLoadedFrom files programs
AreLoadedAs files None = (programs : ProgramsByName) → ¬ AreLoadedFrom files programs

-- the row of a session of these settings, under these rules, at this height, with this digest
abbrev pub session_row_of : Settings → Rules → ℕ → List ℕ → SessionRow
session_row_of settings rules height digest = record {
  frame_limit = settings.frame_limit;
  frame_gas = settings.frame_gas;
  is_brief = settings.is_brief;
  rules = rules;
  height = height;
  digest = digest;
}

-- a file keeps a session of these settings. Its state has a digest, and its last answer is kept beside the state
pub record KeepsState (settings : Settings) (f : FileState) (k : Kept) : Type 0 where
  pub storage : k.storage ≡ f.state.store
  pub programs : AreLoadedFrom k.programs f.state.programs
  pub session : (digest : List ℕ) × (f.state.digest ≡ Some digest) × (k.session ≡ Some (session_row_of settings f.state.rules f.state.height digest))
  pub answer : k.answer ≡ f.last
  pub no_other : f.state.last ≡ None

-- a file without rows
abbrev pub nothing_kept : Kept
nothing_kept = record { storage = fin.empty; programs = fin.empty; session = None; answer = None }

-- ---- what is loaded

-- a row keeps these settings. It does not say whether a digest is kept, since a session in a file always keeps one
pub record HasSettings (settings : Settings) (row : SessionRow) : Type 0 where
  pub frame_limit : row.frame_limit ≡ settings.frame_limit
  pub frame_gas : row.frame_gas ≡ settings.frame_gas
  pub is_brief : row.is_brief ≡ settings.is_brief

-- a new session if there are no rows, otherwise the session that they keep
abbrev pub LoadsAs : Bool → Settings → Kept → FileState → Type 0
LoadsAs true settings k f = (k ≡ nothing_kept) × (f ≡ new_state settings)
LoadsAs false settings k f = KeepsState settings f k

-- what is loaded, which says whether it is new
abbrev pub Loads : Settings → Kept → Loaded → Type 0
Loads settings k loaded = LoadsAs loaded.is_new settings k (file_state loaded.state loaded.answer)

-- when a refusal comes: the row of the session keeps other settings; or a damaged file has rows, none of them of other settings,
-- which keep no session
abbrev pub IsUnloadable : Settings → Kept → LoadFault → Type 0
IsUnloadable settings k OtherSettings = (row : SessionRow) × (k.session ≡ Some row) × ¬ HasSettings settings row
IsUnloadable settings k Damaged = (k ≢ nothing_kept) × ((f : FileState) → ¬ KeepsState settings f k)
    × ((row : SessionRow) → k.session ≡ Some row → HasSettings settings row)
