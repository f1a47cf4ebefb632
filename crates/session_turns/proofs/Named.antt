-- The programs that a frame names, found one after another.
use Rattle.std.proofs.Common.{◌≡◌, ◌<◌, ◌++◌, ℕ, zero, suc, List, [], ◌∷◌, Result, get_or, length, map, arith, subst}
use Rattle.std.specs.Prelude.{IsOk}
use Rattle.std.specs.Result.{result_map_both}
use Rattle.elf32.specs.Layout.{Layout}
use Rattle.session_turns.specs.Programs.{IsFirstNamed, ProgramsByName, program_named}
use Rattle.session_turns.specs.declared.refusal.FrameRefusal.{FrameRefusal}

-- programs after others, or the first refusal
abbrev pub after : List Layout → Result (List Layout) FrameRefusal → Result (List Layout) FrameRefusal
after images rest = result_map_both (λ more. images ++ more) (λ refusal. refusal) rest

-- if the name at a place names a program, and so does the first one if it is not at this place, then the first one does
pub first_named : {S : Type 0} (programs : ProgramsByName) (bytes_of : S → List ℕ) (names : List S) (i : ℕ) (name : S) → i < length names → name ≡ get_or names i name
    → (0 < i → IsFirstNamed programs (map bytes_of names)) → IsOk (program_named programs (bytes_of name)) → IsFirstNamed programs (map bytes_of names)
first_named programs bytes_of [] i name below is before named = absurd (omega arith)
first_named programs bytes_of (n ∷ names) zero name below is before named = subst (λ n. IsOk (program_named programs (bytes_of n))) is named
first_named programs bytes_of (n ∷ names) (suc i) name below is before named = before (omega arith)
