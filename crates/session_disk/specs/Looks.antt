-- Looks at paths.
use Rattle.std.specs.Prelude.{◌≡◌, ◌≢◌, List, [], ◌∷◌, ◌++◌, Option, Some, None, Result, Ok, Err, ⊤, ℕ}
use Rattle.session_disk.specs.Logs.{FolderView, Look}
use Rattle.session_disk.specs.declared.log_folder.FileNumber.{FileNumber}
use Rattle.session_disk.specs.declared.log_folder.Links.{Links}

abbrev pub look : List ℕ → Links → Option FileNumber → Look
look path links found = record { path = path; links = links; found = found }

-- the file that a look found
abbrev pub file_found : {E : Type 0} → Result FileNumber E → Option FileNumber
file_found (Ok file) = Some file
file_found (Err e) = None

-- if it is known what was looked at, these looks were made then, and no others
abbrev pub Sees : Option FolderView → Option FolderView → List Look → Type 0
Sees None new looks = ⊤
Sees (Some old) None looks = ⊥
Sees (Some old) (Some new) looks = new ≡ record old { looks = old.looks ++ looks }

-- the looks were made one by one, up to one that did not find what was wanted
pub record Misses (old new : Option FolderView) (wanted : List Look) : Type 0 where
  pub found : List Look
  pub missed : Look
  pub rest : List Look
  pub other : Option FileNumber
  pub wanted_is : wanted ≡ found ++ missed ∷ rest
  pub sees : Sees old new (found ++ record missed { found = other } ∷ [])
  pub differs : other ≢ missed.found
