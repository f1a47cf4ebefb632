-- A store that was read, one call after another.
use Rattle.std.proofs.Common.{◌≡◌, Ok, Err, inl, refl, subst, arith}
use Rattle.sqlite_disk.specs.Disk.{MoreFaults}
use Rattle.sqlite_trees.specs.View.{View, HasCause, IsClean, Tells}
use Rattle.sqlite_trees.specs.declared.error.StoreError.{StoreError}
use Rattle.sqlite_trees.specs.declared.store.Store.{Ghosts}
use Rattle.session_tree.proofs.Causes.{later_cause}
use Rattle.session_tree.proofs.Tries.{Quiet, quiet_on}
use Rattle.session_file.specs.Kept.{HoldsIn, Kept, session_tree}
use Rattle.session_file.specs.Opening.{IsOfOtherVersion, IsOpenRefused, ReadsIn}
use Rattle.session_file.specs.Rows.{IsReadFault}
use Rattle.session_file.specs.declared.fault.OpenFault.{OpenFault}
use Rattle.session_file.specs.declared.fault.OpenFault.TheVariants.{Damaged, Store}
use Rattle.session_file.proofs.Opens.{reads_on, refused_part}

one_store : (e f : StoreError) → Store e ≡ Store f → e ≡ f
one_store e f is = cc

no_store : (e : StoreError) → Damaged ≡ Store e → ⊥
no_store e is = cc

module _ {S : Type 0} (g : Ghosts S) where
  -- nothing was done
  pub quiet_same : (s : S) → Quiet g s s
  quiet_same s = record { shield = λ h. h; clean = omega arith; counts = omega arith; closes = λ clean was. inl was; outcomes = λ db left. left }

  -- the store failed, after calls that left it as sound as it was
  pub read_failed : {A : Type 0} (none : View → Type 0) (old mid new : S) (e : StoreError) → Quiet g old mid → (IsClean (g.view mid) → (g.view mid).is_broken ≡ (g.view old).is_broken)
      → (IsClean (g.view new) → HasCause (g.view mid) (MoreFaults (g.faults mid) (g.faults new)) ⊥ e) → Tells (g.blamed new) e → Quiet g mid new → ReadsIn {A = A} g (IsReadFault none) old new (Err (Store e))
  read_failed none old mid new e before same cause told after = record {
    err = λ clean. later_cause (g.view old) (g.view mid) _ _ _ ⊥ ⊥ e before.counts (same (omega (arith, after.clean, clean))) (λ l. l) (cause clean);
    told = λ error is. subst (Tells (g.blamed new)) (one_store e error is) told;
    same = tt;
    quiet = quiet_on g old mid new before after;
  }

  -- the rows are not those of such a part
  pub read_damaged : {A : Type 0} (none : View → Type 0) (old mid new : S) → Quiet g old mid → Quiet g mid new → (IsClean (g.view new) → none (g.view old)) → ReadsIn {A = A} g (IsReadFault none) old new (Err Damaged)
  read_damaged none old mid new before after is = record {
    err = is;
    told = λ error other. absurd (no_store error other);
    same = tt;
    quiet = quiet_on g old mid new before after;
  }

  -- nothing was read
  pub read_nothing : {A : Type 0} (why : View → Type 0 → OpenFault → Type 0) (s : S) (x : A) → ReadsIn g why s s (Ok x)
  read_nothing why s x = record { err = tt; told = tt; same = λ clean. refl; quiet = quiet_same s }

  -- one part was read after another
  pub read_then : {A B C : Type 0} (why also whole : View → Type 0 → OpenFault → Type 0) (old mid new : S) {x : A} {y : B} {z : C} → ReadsIn g why old mid (Ok x) → ReadsIn g also mid new (Ok y) → ReadsIn g whole old new (Ok z)
  read_then why also whole old mid new a b = record {
    err = tt;
    told = tt;
    same = λ clean. reads_on (g.view old) (g.view mid) (g.view new) (a.same (omega (arith, b.quiet.clean, clean))) (b.same clean);
    quiet = quiet_on g old mid new a.quiet b.quiet;
  }

  -- a part was refused after others that were read
  pub refused_then : {A B C : Type 0} (why : View → Type 0 → OpenFault → Type 0) (none : View → Type 0) (old mid new : S) (fault : OpenFault) {x : A} → ReadsIn g why old mid (Ok x)
      → (IsClean (g.view mid) → none (g.view mid) → ¬ IsOfOtherVersion ((g.view mid).trees session_tree) × ((k : Kept) → ¬ HoldsIn (g.view mid).trees k))
      → ReadsIn {A = B} g (IsReadFault none) mid new (Err fault) → ReadsIn {A = C} g IsOpenRefused old new (Err fault)
  refused_then why none old mid new fault a gone b = record {
    err = λ clean. refused_part (g.view old) (g.view mid) _ _ _ none fault (a.same (omega (arith, b.quiet.clean, clean))) a.quiet.counts (gone (omega (arith, b.quiet.clean, clean))) (b.err clean);
    told = b.told;
    same = tt;
    quiet = quiet_on g old mid new a.quiet b.quiet;
  }
