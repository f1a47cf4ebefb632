-- How what a file keeps changes along with the state.
use Rattle.std.proofs.Common.{◌≡◌, ℕ, true, List, Option, Some, None, Ok, replicate, refl, ap}
use Rattle.std.specs.FinMap as fin
use Rattle.sha2.specs.Sha256.{sha256}
use Rattle.elf32.specs.Image.{image_of}
use Rattle.elf32.specs.Layout.{Layout}
use Rattle.rv_ledger.specs.declared.rules.Rules.TheVariants.{One}
use Rattle.session_file.specs.Kept.{Kept}
use Rattle.session_turns.specs.Turn.{first_digest}
use Rattle.session_turns.specs.declared.settings.Settings.{Settings}
use Rattle.session_turns.specs.declared.state.State.{State}
use Rattle.session_states.specs.States.{FileState, KeepsState, new_state, nothing_kept, session_row_of}
use Rattle.session_states.proofs.Programs.{none_loaded, one_forgotten, one_loaded}

-- a program is put in, with the file that it was loaded from
pub program_put : (settings : Settings) (f : FileState) (k : Kept) (name file : List ℕ) (image : Layout) → KeepsState settings f k → sha256 file ≡ name → image_of file ≡ Ok image
    → KeepsState settings (record f { state = record f.state { programs = fin.insert f.state.programs name image } }) (record k { programs = fin.insert k.programs name file })
program_put settings f k name file image h named loads = record {
  storage = h.storage;
  programs = one_loaded k.programs f.state.programs name file image h.programs (named, loads);
  session = h.session;
  answer = h.answer;
  no_other = h.no_other;
}

-- a program is forgotten, and its file with it
pub program_forgotten : (settings : Settings) (f : FileState) (k : Kept) (name : List ℕ) → KeepsState settings f k
    → KeepsState settings (record f { state = record f.state { programs = fin.remove f.state.programs name } }) (record k { programs = fin.remove k.programs name })
program_forgotten settings f k name h = record {
  storage = h.storage;
  programs = one_forgotten k.programs f.state.programs name h.programs;
  session = h.session;
  answer = h.answer;
  no_other = h.no_other;
}

-- a frame that counts leaves a state of the same programs and a last answer, which are staged with its row
pub frame_counted : (settings : Settings) (f : FileState) (k : Kept) (s : State) (digest : List ℕ) (last : Option (List ℕ × List ℕ)) → KeepsState settings f k
    → s.programs ≡ f.state.programs → s.digest ≡ Some digest → s.last ≡ None
    → KeepsState settings (record { state = s; last = last }) (record k { storage = s.store; session = Some (session_row_of settings s.rules s.height digest); answer = last })
frame_counted settings f k s digest last h programs is no_other = record {
  storage = refl;
  programs = rw programs h.programs;
  session = (digest, is, refl);
  answer = refl;
  no_other = no_other;
}

-- a session that begins at a text leaves a state of the same programs, and no answer
pub session_begun : (settings : Settings) (f : FileState) (k : Kept) (s : State) (digest : List ℕ) → KeepsState settings f k → s.programs ≡ f.state.programs → s.digest ≡ Some digest → s.last ≡ None
    → KeepsState settings (record { state = s; last = None }) (record k { storage = s.store; session = Some (session_row_of settings s.rules s.height digest); answer = None })
session_begun settings f k s digest = frame_counted settings f k s digest None

-- a new session: a file keeps only its row
pub session_made : (settings : Settings) → settings.keeps_digest ≡ true
    → KeepsState settings (new_state settings) (record nothing_kept { session = Some (session_row_of settings One 0 (replicate 32 0)) })
session_made settings keeps = record {
  storage = refl;
  programs = none_loaded;
  session = (replicate 32 0, ap first_digest keeps, refl);
  answer = refl;
  no_other = refl;
}
