-- The lines of a text.
use Rattle.std.proofs.Common.{◌≡◌, ℕ, ◌==◌, Bool, true, false, cond, All, List, [], ◌∷◌, ◌++◌, length, refl, ap, ◌∙◌, arith}
use Rattle.std.specs.List.{onto_first}
use Rattle.std.proofs.lemmas.Bool.Decides.{nat_tests}
use Rattle.std.proofs.lemmas.List.Splits.{slice_split_at, slice_split_none}
use Rattle.block_file.specs.Line.{cut}
use Rattle.debugger.specs.Hearing.{IsInLine}
use Rattle.debugger.specs.Session.{lines_of, with_last}

-- a first part, and more of them
abbrev HasFirst : List (List ℕ) → Type 0
HasFirst parts = (first : List ℕ) × (more : List (List ℕ)) × (parts ≡ first ∷ more)

first_of : (b : ℕ) (t : Bool) (parts : List (List ℕ)) → HasFirst (cond t ([] ∷ parts) (onto_first b parts))
first_of b true parts = ([], parts, refl)
first_of b false [] = (b ∷ [], [], refl)
first_of b false (part ∷ parts) = (b ∷ part, parts, refl)

-- a text has at least one part
has_first : (text : List ℕ) → HasFirst (cut 10 text)
has_first [] = ([], [], refl)
has_first (b ∷ text) = first_of b (b == 10) (cut 10 text)

last_behind : (line first : List ℕ) (more parts : List (List ℕ)) → parts ≡ first ∷ more → with_last (line ∷ parts) ≡ line ∷ with_last parts
last_behind line first more [] e = cc
last_behind line first more (part ∷ parts) e = refl

-- up to the first LF there is a line
pub line_and_more : (line rest : List ℕ) → All IsInLine line → lines_of (line ++ 10 ∷ rest) ≡ line ∷ lines_of rest
unfolding lines_of
line_and_more line rest h =
    let found = has_first rest in
    ap with_last (slice_split_at (λ b. b == 10) line 10 rest h refl) ∙ last_behind line found.0 found.1 (cut 10 rest) found.2

not_empty : (b : ℕ) (line : List ℕ) → (length (b ∷ line) == 0) ≡ false
not_empty b line = grind (arith, nat_tests)

-- a text of no LF is a line
pub last_line : (b : ℕ) (line : List ℕ) → All IsInLine (b ∷ line) → lines_of (b ∷ line) ≡ (b ∷ line) ∷ []
unfolding lines_of
last_line b line h = ap with_last (slice_split_none (λ b. b == 10) (b ∷ line) h) ∙ rw (not_empty b line) refl

-- a text of no byte has none
pub no_line : lines_of [] ≡ []
unfolding lines_of
no_line = refl
