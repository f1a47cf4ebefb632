-- What stays if a file is put at a path.
use Rattle.std.proofs.Common.{◌≡◌, ◌⊎◌, ℕ, List, inl, inr}
use Rattle.std.specs.Prelude.{Option, Some, None}
use Rattle.system_files.specs.Entries.{AreApart, Entries, IsNewPath, KeepsBut, KeepsFile}

at_file : (old : Entries) (new : Entries) (file out : List ℕ) → AreApart (Some old) file out → (IsNewPath out file ⊎ (file ≡ out)) ⊎ (new file ≡ old file) → KeepsFile (Some old) (Some new) file out
at_file old new file out apart (inl (inl beside)) = inr (inl beside)
at_file old new file out (inl other) (inl (inr same)) = absurd (other same)
at_file old new file out (inr none) (inl (inr same)) = inl none
at_file old new file out apart (inr kept) = inr (inr kept)

-- the other file stays
pub keeps_file : (old new : Option Entries) (file out : List ℕ) → AreApart old file out → KeepsBut (λ path. IsNewPath out path ⊎ (path ≡ out)) old new → KeepsFile old new file out
keeps_file None new file out apart kept = tt
keeps_file (Some old) None file out apart kept = kept
keeps_file (Some old) (Some new) file out apart kept = at_file old new file out apart (kept file)
