-- The names of a session's files.
use Rattle.std.specs.Prelude.{◌≡◌, ℕ, List, [], ◌∷◌, Some}
use Rattle.std.specs.String.{string_bytes}
use Rattle.session_disk.specs.Logs.{FolderView, Look, log_name}
use Rattle.session_disk.specs.Looks.{look}
use Rattle.session_disk.specs.declared.log_folder.FileNumber.{FileNumber}
use Rattle.session_disk.specs.declared.log_folder.Links.TheVariants.{Followed, Kept}
use Rattle.session_disk.specs.declared.names.Names.{Names}

-- the path of FILE as it was given, the one that it led to and that of FILE-wal, and the two files
pub record FileNames : Type 0 where
  pub given : List ℕ
  pub real : List ℕ
  pub log : List ℕ
  pub db_file : FileNumber
  pub log_file : FileNumber

abbrev pub view_of : Names → FileNames
view_of names = record { given = string_bytes names.given; real = string_bytes names.real; log = string_bytes names.log; db_file = names.db_file; log_file = names.log_file }

-- the names of a path in a folder
pub record AreNamesOf (known : FolderView) (path : List ℕ) (names : FileNames) : Type 0 where
  pub given : names.given ≡ path
  pub real : names.real ≡ known.leads path
  pub log : names.log ≡ log_name known path

-- what looks find if both names lead to the two files: FILE with links followed, and, so that the next open finds the log beside
-- it, FILE at the path that it led to; and the log
abbrev pub all_there : FileNames → List Look
all_there names = look names.given Followed (Some names.db_file) ∷ look names.real Kept (Some names.db_file) ∷ look names.log Kept (Some names.log_file) ∷ []

-- what looks right after the open found
abbrev pub first_looks : FileNames → List Look
first_looks names = look names.real Kept (Some names.db_file) ∷ look names.log Kept (Some names.log_file) ∷ []
