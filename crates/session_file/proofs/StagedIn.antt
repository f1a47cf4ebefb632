-- A part that was written, and what becomes of it.
use Rattle.std.proofs.Common.{◌≡◌, Result, Ok, Err, OnErr, OnOk, false, sym, subst, arith}
use Rattle.sqlite_trees.specs.View.{View, IsClean, IsRolledBack, Tells}
use Rattle.sqlite_trees.specs.declared.error.StoreError.{StoreError}
use Rattle.sqlite_trees.specs.declared.store.Store.{Ghosts}
use Rattle.session_tree.proofs.Causes.{earlier_cause, other_limit}
use Rattle.session_tree.proofs.Tries.{Quiet, quiet_on}
use Rattle.session_tree.specs.Tries.{Tries}
use Rattle.session_file.specs.Staging.{GivesUp, StagesIn}
use Rattle.session_file.proofs.Staged.{refused}

pub stages_in : {S A : Type 0} (g : Ghosts S) (stages : View → View → Type 0) (met limit : Type 0) (old mid new : S) (r : Result A StoreError) → ((g.view new).is_clean ≡ false → (g.view new).is_open ≡ false) → (met → limit)
    → OnOk r (stages (g.view old) (g.view mid)) → OnOk r (IsClean (g.view mid) → (g.view mid).is_broken ≡ (g.view old).is_broken) → Tries g met old mid r
    → OnOk r (new ≡ mid) → OnErr r (IsRolledBack (g.view mid) (g.view new)) → g.blamed new ≡ g.blamed mid → Quiet g mid new → StagesIn g stages GivesUp limit old new r
stages_in g stages met limit old mid new (Ok x) shut weaker staged still t same back blame q = record {
  ok = subst (λ s. stages (g.view old) (g.view s)) (sym same) staged;
  still = subst (λ s. IsClean (g.view s) → (g.view s).is_broken ≡ (g.view old).is_broken) (sym same) still;
  err = tt;
  cause = λ _. tt;
  told = tt;
  quiet = quiet_on g old mid new t.quiet q;
}
stages_in {A = A} g stages met limit old mid new (Err e) shut weaker staged still t same back blame q = record {
  ok = tt;
  still = tt;
  err = refused {X = A} (Err e) (g.view old) (g.view mid) (g.view new) shut q.clean t.err back;
  cause = λ clean. earlier_cause (g.view old) _ _ _ limit e q.counts (other_limit (g.view old) _ met limit e weaker (t.cause (omega (arith, q.clean, clean))));
  told = subst (λ b. Tells b e) (sym blame) t.told;
  quiet = quiet_on g old mid new t.quiet q;
}
