-- Loading the programs of a frame one after another.
use Rattle.std.proofs.Common.{◌≡◌, ◌<◌, ◌++◌, List, ℕ, suc, ◌∷◌, map, drop, length, get_or, sym, subst, inl, inr}
use Rattle.std.proofs.Math.Seq.{drop-cons}
use Rattle.std.specs.Prelude.{Option, Some, None, Result, Ok, Err, IfSome}
use Rattle.std.specs.Option.{option_map}
use Rattle.elf32.specs.Layout.{Layout}
use Rattle.programs.specs.declared.fault.ProgramFault.{ProgramFault}
use Rattle.programs.specs.Programs.{IsProgramFault, programs_of, with_program}

-- the first programs, before those of the rest
abbrev pub with_programs : List Layout → Result (List Layout) ProgramFault → Result (List Layout) ProgramFault
with_programs done (Ok images) = Ok (done ++ images)
with_programs done (Err fault) = Err fault

-- the programs so far and those of the paths that are left are the programs of all paths, if these are known
abbrev pub Loaded : (List ℕ → Option (Result Layout ProgramFault)) → List (List ℕ) → List (List ℕ) → List Layout → Type 0
Loaded program_at paths rest done = IfSome (programs_of program_at paths) (λ all. option_map (with_programs done) (programs_of program_at rest) ≡ Some all)

met : (all : Option (Result (List Layout) ProgramFault)) (next : Option (Result Layout ProgramFault)) (rest : Option (Result (List Layout) ProgramFault)) (done : List Layout) (e : ProgramFault) → IfSome all (λ a. option_map (with_programs done) (with_program next rest) ≡ Some a) → IsProgramFault next e → IsProgramFault all e
met all next rest done e h (inl memory) = inl memory
met None next rest done e h (inr w) = inr tt
met (Some a) None rest done e h (inr w) = cc
met (Some a) (Some (Ok image)) rest done e h (inr w) = cc
met (Some a) (Some (Err fault)) rest done e h (inr w) = inr cc

-- a refusal of the next program is the one of all programs
pub next_fault : {S : Type 0} (program_at known : List ℕ → Option (Result Layout ProgramFault)) (bytes_of : S → List ℕ) (paths : List S) (i : ℕ) (path : S) (text : List ℕ) (done : List Layout) (e : ProgramFault) → known ≡ program_at → i < length paths → path ≡ get_or paths i path → text ≡ bytes_of path → Loaded program_at (map bytes_of paths) (map bytes_of (drop i paths)) done → IsProgramFault (known text) e → IsProgramFault (programs_of program_at (map bytes_of paths)) e
next_fault program_at known bytes_of paths i path text done e same below is named loaded fault =
    let cut : drop i paths ≡ path ∷ drop (suc i) paths = subst (λ p. drop i paths ≡ p ∷ drop (suc i) paths) (sym is) (drop-cons paths i path below) in
    met (programs_of program_at (map bytes_of paths)) (program_at (bytes_of path)) (programs_of program_at (map bytes_of (drop (suc i) paths))) done e
    (subst (λ rest. Loaded program_at (map bytes_of paths) (map bytes_of rest) done) cut loaded)
    (subst (λ t. IsProgramFault (program_at t) e) named (subst (λ k. IsProgramFault (k text) e) same fault))
