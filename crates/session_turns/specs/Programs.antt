-- The programs of a session, by their names.
use Rattle.std.specs.Prelude.{ℕ, List, [], ◌∷◌, Option, Some, None, Result, Ok, Err, IsOk}
use Rattle.std.specs.FinMap.{FinMap, get}
use Rattle.std.specs.Option.{ok_or}
use Rattle.std.specs.Result.{result_map_both, result_ok}
use Rattle.block_file.specs.Line.{field_key}
use Rattle.elf32.specs.Layout.{Layout}
use Rattle.rv_ledger.specs.Key.{key_cmp}
use Rattle.session_turns.specs.declared.refusal.FrameRefusal.{FrameRefusal}
use Rattle.session_turns.specs.declared.refusal.FrameRefusal.TheVariants.{NoProgram}

-- programs by their names, which are 32 bytes
abbrev pub ProgramsByName : Type 0
ProgramsByName = FinMap key_cmp Layout

-- the program that a name of 64 digits names, if it is here
abbrev pub program_by : ProgramsByName → Option (List ℕ) → Option Layout
program_by programs None = None
program_by programs (Some name) = get programs name

abbrev pub program_named : ProgramsByName → List ℕ → Result Layout FrameRefusal
program_named programs path = ok_or (program_by programs (result_ok (field_key path))) NoProgram

-- a program before others, or the first refusal
abbrev pub before : Result Layout FrameRefusal → Result (List Layout) FrameRefusal → Result (List Layout) FrameRefusal
before (Err refusal) rest = Err refusal
before (Ok image) rest = result_map_both (λ images. image ∷ images) (λ refusal. refusal) rest

-- the programs of a frame, or the refusal of the first name under which no program is here
abbrev pub frame_programs : ProgramsByName → List (List ℕ) → Result (List Layout) FrameRefusal
frame_programs programs [] = Ok []
frame_programs programs (path ∷ paths) = before (program_named programs path) (frame_programs programs paths)

-- the first of some names names a program
abbrev pub IsFirstNamed : ProgramsByName → List (List ℕ) → Type 0
IsFirstNamed programs [] = ⊥
IsFirstNamed programs (path ∷ paths) = IsOk (program_named programs path)
