-- What the files of a session hold after it.
use Rattle.std.proofs.Common.{◌≡◌, ◌∙◌, ◌≤◌, ℕ, List, [], ◌∷◌, arith, subst, sym}
use Rattle.std.proofs.lemmas.Option.{IfSome_then}
use Rattle.std.specs.Prelude.{Option, None, Result, Ok, Err, IfSome, OnOk}
use Rattle.session_durability.specs.Durable.{FileMoment, HoldsState, IsFileAnswer, moment}
use Rattle.session_durability.specs.Keeping.{IsKeptBy}
use Rattle.session_durability.specs.Opened.{IsFoundIn}
use Rattle.session_file.specs.Kept.{HoldsIn}
use Rattle.session_requests.specs.Requests.{Ask}
use Rattle.session_serving.specs.Serving.{AreAnswered, IsServed}
use Rattle.session_states.specs.States.{FileState}
use Rattle.session_turns.specs.declared.settings.Settings.{Settings}
use Rattle.sqlite_trees.specs.Tree.{Trees}
use Rattle.sqlite_trees.specs.View.{View, doubt}
use Rattle.engines.specs.Program.{KeepsFrom, KeepsSessionAt}
use Rattle.engines.specs.Stores.{HoldsCommitted, KeepsOthers, TreesAt}

-- what was committed is the session that the store kept
holds_kept : (settings : Settings) (v : View) (f : FileState) (db : Trees) → IsKeptBy settings v f → HoldsCommitted v db → HoldsState settings f db
holds_kept settings v f db kept held = (kept.0, subst (λ trees. HoldsIn trees kept.0) (sym held.same) (kept.2 held.is_open).committed, kept.1)

-- a session that was served, and whose store was closed
pub served_and_closed : {T E : Type 0} (closing : Result T E) (settings : Settings) (first : FileMoment) (f : FileState) (v : View) (faults : ℕ) (now : Option Trees) (typed old new : Option (List ℕ))
    → IsKeptBy settings v f → OnOk closing (IfSome now (HoldsCommitted v)) → IfSome typed (λ bytes. IsServed (IsFileAnswer settings) None first bytes (moment f v faults) old new)
    → OnOk closing (IfSome typed (KeepsFrom settings first now old new))
served_and_closed (Ok done) settings first f v faults now typed old new kept closed served =
    IfSome_then typed served (λ bytes text. (moment f v faults, text, IfSome_then now closed (λ db held. (held.clean, holds_kept settings v f db kept held))))
served_and_closed (Err e) settings first f v faults now typed old new kept closed served = tt

-- no answer forgets that a wrong answer of the disk was taken as true
no_doubt_less : (settings : Settings) (first : FileMoment) (asks : List Ask) (text : List ℕ) (after : FileMoment) → AreAnswered (IsFileAnswer settings) first asks text after
    → doubt first.is_clean ≤ doubt after.is_clean
unfolding AreAnswered
no_doubt_less settings first [] text after h = subst (λ (m : FileMoment). doubt first.is_clean ≤ doubt m.is_clean) (sym h.1) (omega arith)
no_doubt_less settings first (ask ∷ asks) text after h =
    let one = h.4.0.clean in let more = no_doubt_less settings h.1 asks h.2 after h.5 in omega arith

-- if it was opened, its files held the session that it continued from
pub opened_and_kept : {T E : Type 0} (done : Result T E) (settings : Settings) (first : FileMoment) (trees : Trees) (before now : TreesAt) (mid : TreesAt) (file : List ℕ) (typed old new : Option (List ℕ))
    → IfSome (before file) (λ db. trees ≡ db) → KeepsOthers before mid file → KeepsOthers mid now file → (doubt first.is_clean ≡ 0 → IsFoundIn settings trees first.session)
    → OnOk done (IfSome typed (KeepsFrom settings first (now file) old new)) → OnOk done (KeepsSessionAt settings before now file typed old new)
opened_and_kept (Ok done) settings first trees before now mid file typed old new held opened closed found kept = (
  (λ other apart. closed other apart ∙ opened other apart),
  IfSome_then typed kept (λ bytes from. (
    first,
    from,
    IfSome_then (now file) from.2 (λ _ sure. IfSome_then (before file) held (λ db is.
        subst (λ t. IsFoundIn settings t first.session) is
        (found (let less = no_doubt_less settings first _ from.1.0 from.0 from.1.1 in let clean = sure.0 in omega arith)))),
  )),
)
opened_and_kept (Err e) settings first trees before now mid file typed old new held opened closed found kept = tt
