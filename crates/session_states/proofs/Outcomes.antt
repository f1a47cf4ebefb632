-- What a load returns.
use Rattle.std.proofs.Common.{◌≡◌, ◌≢◌, Bool, true, false, not, List, [], Option, Some, None, IsTrue, is_some, refl, sym, ap, subst, ◌∙◌}
use Rattle.std.specs.FinMap.{empty, entries, same_entries_map}
use Rattle.std.specs.Map.Iter.{TakesFirst}
use Rattle.std.specs.Option.{option_map}
use Rattle.session_tree.specs.Entries.{ByteMap}
use Rattle.rv_ledger.specs.Key.{Storage}
use Rattle.session_file.specs.Kept.{Kept}
use Rattle.session_file.specs.Opening.{answer_parts}
use Rattle.session_file.specs.declared.rows.AnswerRow.{AnswerRow}
use Rattle.session_file.specs.declared.rows.SessionRow.{SessionRow}
use Rattle.session_file.proofs.Lists.{no_entries}
use Rattle.session_turns.specs.Programs.{ProgramsByName}
use Rattle.session_turns.specs.Turn.{new_session}
use Rattle.session_turns.specs.declared.settings.Settings.{Settings}
use Rattle.session_turns.specs.declared.state.State.{State}
use Rattle.session_states.specs.Loads.{HasNoRows, kept_rows}
use Rattle.session_states.specs.States.{AreLoadedAs, FileState, IsUnloadable, KeepsState, Loads, file_state, nothing_kept}
use Rattle.session_states.specs.declared.loading.LoadFault.TheVariants.{Damaged}
use Rattle.session_states.proofs.Programs.{loaded_once, no_files, none_loaded}

no_some : (row : SessionRow) → None ≡ Some row → ⊥
no_some row is = cc

-- no session is kept if there is no row of one
no_row : (settings : Settings) (f : FileState) (k : Kept) → k.session ≡ None → ¬ KeepsState settings f k
no_row settings f k none h =
    let row = h.session.2 in cc

-- no rows at all
nothing_found : (files : ByteMap) (storage : Storage) (loaded : Option ProgramsByName) (answer : Option AnswerRow) → AreLoadedAs files loaded → HasNoRows storage loaded answer → kept_rows files storage None answer ≡ nothing_kept
nothing_found files storage loaded answer all none =
    let no_programs = no_files files (subst (AreLoadedAs files) none.programs all) in
    let no_answer = is_none answer none.answer in
    λ i. record { storage = none.storage i; programs = no_programs i; session = None; answer = option_map answer_parts (no_answer i) }
  where
    is_none : (answer : Option AnswerRow) → is_some answer ≡ false → answer ≡ None
    is_none None none = refl
    is_none (Some answer) none = cc

-- a new session is loaded from no rows
pub loads_new : (settings : Settings) (files : ByteMap) (storage : Storage) (loaded : Option ProgramsByName) (answer : Option AnswerRow) (state : State) → AreLoadedAs files loaded → HasNoRows storage loaded answer
    → state ≡ new_session settings → Loads settings (kept_rows files storage None answer) (record { state = state; answer = None; is_new = true })
loads_new settings files storage loaded answer state all none is = (nothing_found files storage loaded answer all none, ap (λ (s : State). file_state s None) is)

no_value : (answer : Option AnswerRow) → option_map answer_parts answer ≡ None → is_some answer ≡ false
no_value None is = refl
no_value (Some answer) is = cc

no_programs : (loaded : Option ProgramsByName) → AreLoadedAs empty loaded → loaded ≡ Some empty
no_programs None all = absurd (all empty none_loaded)
no_programs (Some programs) all = ap Some (loaded_once empty programs empty all none_loaded)

-- if nothing is kept, there are no rows
rows_of_nothing : (files : ByteMap) (storage : Storage) (loaded : Option ProgramsByName) (answer : Option AnswerRow) → AreLoadedAs files loaded → kept_rows files storage None answer ≡ nothing_kept → HasNoRows storage loaded answer
rows_of_nothing files storage loaded answer all is = record {
  storage = ap (λ (k : Kept). k.storage) is;
  programs = no_programs loaded (subst (λ (m : ByteMap). AreLoadedAs m loaded) (ap (λ (k : Kept). k.programs) is) all);
  answer = no_value answer (ap (λ (k : Kept). k.answer) is);
}

-- other rows, without that of a session, cannot be loaded
pub unloadable_rows : (settings : Settings) (files : ByteMap) (storage : Storage) (loaded : Option ProgramsByName) (answer : Option AnswerRow) → AreLoadedAs files loaded → ¬ HasNoRows storage loaded answer
    → IsUnloadable settings (kept_rows files storage None answer) Damaged
unloadable_rows settings files storage loaded answer all some = (
  λ is. some (rows_of_nothing files storage loaded answer all is),
  λ f h. no_row settings f (kept_rows files storage None answer) refl h,
  λ row is. absurd (no_some row is),
)

-- a storage without entries is empty
pub empty_if : (s : Storage) → entries s ≡ [] → s ≡ empty
empty_if s none = same_entries_map s empty (none ∙ sym no_entries)

pub if_empty : (s : Storage) → s ≡ empty → entries s ≡ []
if_empty s is = ap entries is ∙ no_entries

none_left : {A X : Type 0} (shows : A → X) (s : List X) (r : Option A) (t : List X) → TakesFirst shows s r t → is_some r ≡ false → s ≡ []
none_left shows s None t h none = h.0
none_left shows s (Some x) t h none = cc

some_left : {A X : Type 0} (shows : A → X) (s : List X) (r : Option A) (t : List X) → TakesFirst shows s r t → is_some r ≡ true → s ≢ []
some_left shows s None t h some is = cc
some_left shows s (Some x) t h some is = cc

-- whether there is a next entry says whether the entries are empty
pub none_told : {A X : Type 0} (shows : A → X) (s : List X) (r : Option A) (t : List X) (b : Bool) → TakesFirst shows s r t → is_some r ≡ not b → IsTrue b → s ≡ []
none_told shows s r t b h is told = none_left shows s r t h (is ∙ ap not told)

pub some_told : {A X : Type 0} (shows : A → X) (s : List X) (r : Option A) (t : List X) (b : Bool) → TakesFirst shows s r t → is_some r ≡ not b → b ≡ false → s ≢ []
some_told shows s r t b h is told = some_left shows s r t h (is ∙ ap not told)
