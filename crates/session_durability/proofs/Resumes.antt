-- What is found after a machine stopped.
use Rattle.std.proofs.Common.{◌≡◌, ℕ, List, [], ◌∷◌, Option, Some, None, inl, inr, sym, ap, subst, ◌∙◌}
use Rattle.session_requests.specs.Requests.{Ask}
use Rattle.session_file.specs.Kept.{Kept}
use Rattle.session_file.proofs.Once.{holds_once}
use Rattle.session_states.specs.States.{FileState, KeepsState, nothing_kept}
use Rattle.session_states.proofs.Once.{kept_once}
use Rattle.sqlite_trees.specs.Tree.{Trees}
use Rattle.session_turns.specs.declared.settings.Settings.{Settings}
use Rattle.session_durability.specs.Durable.{FileMoment, HoldsNext, HoldsState, IsFileSessionStopped, file_turn}
use Rattle.session_durability.specs.Opened.{IsFoundIn}
use Rattle.session_durability.specs.Resumed.{IsNextLeft, IsResumed}

-- a file that keeps a session has rows
not_nothing : (settings : Settings) (f : FileState) (k : Kept) → KeepsState settings f k → k ≡ nothing_kept → ⊥
not_nothing settings f k keeps is = none_is_not (k.session) _ keeps.session.2 (ap (λ (x : Kept). x.session) is)
  where
    none_is_not : {X : Type 0} (o : Option X) (x : X) → o ≡ Some x → o ≡ None → ⊥
    none_is_not o x some none = cc

-- what is found is what is held
found_is : (settings : Settings) (db : Trees) (f g : FileState) → IsFoundIn settings db f → HoldsState settings g db → f ≡ g
found_is settings db f g (k, holds, inl keeps) (j, other, kept) =
    let same : k ≡ j = holds_once db k j holds other in
    kept_once settings f g j (subst (λ (x : Kept). KeepsState settings f x) same keeps) kept
found_is settings db f g (k, holds, inr new) (j, other, kept) = absurd (not_nothing settings g j kept (sym (holds_once db k j holds other) ∙ new.0))

found_next : (settings : Settings) (db : Trees) (f mid : FileState) (rest : List Ask) → IsFoundIn settings db f → HoldsNext settings mid rest db → IsNextLeft settings mid rest f
found_next settings db f mid [] found holds = absurd holds
found_next settings db f mid (ask ∷ asks) found holds = found_is settings db f (file_turn settings mid ask).1 found holds

pub resumed : (settings : Settings) (old : FileMoment) (bytes : List ℕ) (before now : Option (List ℕ)) (recovers : Trees → Type 0) (db : Trees) (f : FileState) → IsFileSessionStopped settings old bytes before now recovers → recovers db
    → IsFoundIn settings db f → IsResumed settings old bytes before now f
resumed settings old bytes before now recovers db f (heard, rest, text, mid, part, asks, done, wrote, is, leaves) left found = (
  heard,
  rest,
  text,
  mid,
  part,
  asks,
  done,
  wrote,
  is,
  elim (leaves db left) [ inl here ↦ inl (found_is settings db f mid.session found here) | inr next ↦ inr (found_next settings db f mid.session rest found next) ],
)
