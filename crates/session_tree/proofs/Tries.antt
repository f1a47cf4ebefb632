-- Calls that write into a store, one after another.
use Rattle.std.proofs.Common.{Result, Ok, Err, IfErr, inl, inr, ap, subst, ◌∙◌, arith}
use Rattle.sqlite_disk.specs.Disk.{MoreFaults}
use Rattle.sqlite_trees.specs.View.{View, HasCause, IsClean, IsFailure, IsQuiet, KeepsCommitted, KeepsSchema, OnlyWrites, Tells}
use Rattle.sqlite_trees.specs.declared.error.StoreError.{StoreError}
use Rattle.sqlite_trees.specs.declared.store.Store.{Ghosts}
use Rattle.session_tree.specs.Tries.{Tries}
use Rattle.session_tree.proofs.Causes.{later_cause, other_limit}

kept_on : (old mid new : View) → OnlyWrites old mid → KeepsCommitted mid new → KeepsCommitted old new
kept_on old mid new only kept =
    let k : KeepsCommitted (record old { trees = mid.trees; cursors = mid.cursors }) new = subst (λ (v : View). KeepsCommitted v new) only kept in
    record {
      shape = k.shape;
      reals = k.reals;
      committed_shape = k.committed_shape;
      committed_reals = k.committed_reals;
      numbered = k.numbered;
      was_open = k.was_open;
      committed = k.committed;
      marks = k.marks;
    }

schema_on : (old mid new : View) → KeepsSchema old mid → KeepsSchema mid new → KeepsSchema old new
schema_on old mid new a b = record {
  shape = b.shape ∙ a.shape;
  reals = b.reals ∙ a.reals;
  committed_shape = b.committed_shape ∙ a.committed_shape;
  committed_reals = b.committed_reals ∙ a.committed_reals;
  numbered = b.numbered ∙ a.numbered;
}

module _ {S : Type 0} (g : Ghosts S) where
  abbrev pub Quiet : S → S → Type 0
  Quiet old new = IsQuiet g.view g.faults g.recovers g.is_shielded old new

  pub quiet_on : (old mid new : S) → Quiet old mid → Quiet mid new → Quiet old new
  quiet_on old mid new a b = record {
    shield = λ h. b.shield (a.shield h);
    clean = omega (arith, a.clean, b.clean);
    counts = omega (arith, a.counts, b.counts);
    closes = λ clean was. elim (a.closes (omega (arith, b.clean, clean)) was) [
      | inl still ↦ elim (b.closes clean still) [ inl now ↦ inl now | inr more ↦ inr (omega (arith, a.counts, more)) ]
      | inr more ↦ inr (omega (arith, b.counts, more))
    ];
    outcomes = λ db left. a.outcomes db (b.outcomes db left);
  }

  -- a refused call is refused whatever its other answers are, and for any limit that follows from its own
  pub failed : {A B : Type 0} {limit : Type 0} (other : Type 0) {old new : S} {e : StoreError} → (limit → other) → Tries {A = A} g limit old new (Err e) → Tries {A = B} g other old new (Err e)
  failed other {old = old} {e = e} weaker t = record {
    err = t.err;
    cause = λ clean. other_limit (g.view old) _ _ other e weaker (t.cause clean);
    told = t.told;
    schema = t.schema;
    quiet = t.quiet;
  }

  -- a call after another one that was not refused, and that only wrote
  pub after : {A B : Type 0} {first limit : Type 0} {old mid new : S} {x : A} (r : Result B StoreError) → Tries g first old mid (Ok x) → (IsClean (g.view mid) → OnlyWrites (g.view old) (g.view mid))
      → Tries g limit mid new r → Tries g limit old new r
  after {old = old} {mid = mid} {new = new} (Ok y) a only b = record { err = λ _. tt; cause = λ _. tt; told = tt; schema = schema_on _ _ _ a.schema b.schema; quiet = quiet_on old mid new a.quiet b.quiet }
  after {limit = limit} {old = old} {mid = mid} {new = new} (Err e) a only b = record {
    err = λ clean. kept_on (g.view old) (g.view mid) (g.view new) (only (omega (arith, b.quiet.clean, clean))) (b.err clean);
    cause = λ clean. later_cause (g.view old) (g.view mid) _ _ _ limit limit e a.quiet.counts (ap (λ (v : View). v.is_broken) (only (omega (arith, b.quiet.clean, clean)))) (λ l. l) (b.cause clean);
    told = b.told;
    schema = schema_on _ _ _ a.schema b.schema;
    quiet = quiet_on old mid new a.quiet b.quiet;
  }

  -- a call of the store itself
  pub called : {A : Type 0} {limit : Type 0} {old new : S} (r : Result A StoreError) → IfErr r (IsFailure (g.view old) (g.view new))
      → (IsClean (g.view new) → IfErr r (HasCause (g.view old) (MoreFaults (g.faults old) (g.faults new)) limit)) → IfErr r (Tells (g.blamed new)) → KeepsSchema (g.view old) (g.view new) → Quiet old new → Tries g limit old new r
  called (Ok x) err cause told schema quiet = record { err = λ _. tt; cause = λ _. tt; told = tt; schema = schema; quiet = quiet }
  called (Err e) err cause told schema quiet = record { err = λ _. err.kept; cause = cause; told = told; schema = schema; quiet = quiet }

  -- a call that was not refused met no limit
  pub weaker_ok : {A B : Type 0} {limit : Type 0} (other : Type 0) {old new : S} {x : A} {y : B} → Tries g limit old new (Ok x) → Tries g other old new (Ok y)
  weaker_ok other t = record { err = λ _. tt; cause = λ _. tt; told = tt; schema = t.schema; quiet = t.quiet }
