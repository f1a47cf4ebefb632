-- What a crash leaves of a file that is open.
use Rattle.std.proofs.Common.{◌≡◌, IsTrue, false, sym, subst}
use Rattle.session_file.specs.Kept.{HoldsIn}
use Rattle.session_file.proofs.Staged.{sound_open}
use Rattle.session_states.specs.States.{FileState}
use Rattle.sqlite_trees.specs.Tree.{Trees}
use Rattle.sqlite_trees.specs.View.{View}
use Rattle.session_turns.specs.declared.settings.Settings.{Settings}
use Rattle.session_durability.specs.Durable.{HoldsState}
use Rattle.session_durability.specs.Keeping.{IsKeptBy}

-- what it keeps
pub leaves_kept : (settings : Settings) (v : View) (f : FileState) (recovers : Trees → Type 0) → (v.is_open ≡ false → IsTrue v.is_broken) → ((db : Trees) → IsTrue v.is_open → recovers db → db ≡ v.committed)
    → v.is_broken ≡ false → IsKeptBy settings v f → (db : Trees) → recovers db → HoldsState settings f db
leaves_kept settings v f recovers shut settled sound (k, keeps, is) db left =
    let still : IsTrue v.is_open = sound_open v shut sound in
    (k, subst (λ (d : Trees). HoldsIn d k) (sym (settled db still left)) (is still).committed, keeps)
