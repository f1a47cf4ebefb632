-- Staging a part, committing and giving up.
use Rattle.std.proofs.Common.{◌≡◌, ◌≢◌, ◌≤◌, ℕ, eq-eqb, ne_eqb, pos, Bool, true, false, true≢false, List, [], ◌∷◌, Option, Some, None, Result, Ok, Err, OnErr, OnOk, IsTrue, refl, sym, ap, subst, ◌∙◌, arith}
use Rattle.std.specs.Cmp.{tied_itself}
use Rattle.sqlite_value.specs.declared.value.Value.TheVariants.{Int}
use Rattle.sqlite_value.specs.Order.{Row}
use Rattle.sqlite_value.proofs.OrderLemmas.{value_cmp_total}
use Rattle.sqlite_trees.proofs.Doubt.{no_doubt}
use Rattle.sqlite_trees.specs.Tree.{Trees, put_row, without_rowid}
use Rattle.sqlite_trees.specs.View.{View, Commits, IsClean, IsRolledBack, KeepsCommitted, OnlyWrites, SetsTree, doubt}
use Rattle.rv_ledger.specs.Key.{Storage}
use Rattle.session_tree.specs.Entries.{ByteMap, EditsTree, rows_of}
use Rattle.session_file.specs.Kept.{AreEntries, AreNamed, HoldsIn, IsSessionInLimits, Kept, answer_row, answer_tree, program_tree, rows_if_any, session_row, session_tree, storage_tree}
use Rattle.session_file.specs.Staging.{CommitsStaged, GivesUp, IsStaged, StagesKept, StagesWhere}
use Rattle.session_file.specs.declared.rows.SessionRow.{SessionRow}

-- a store that is open is clean
pub open_clean : (v : View) → (v.is_clean ≡ false → v.is_open ≡ false) → IsTrue v.is_open → IsClean v
open_clean v shut h = no_doubt v.is_clean (go v.is_clean refl)
  where
    go : (b : Bool) → v.is_clean ≡ b → IsTrue b
    go true e = refl
    go false e = absurd (true≢false (sym h ∙ shut e))

-- a store that is not broken is open
pub sound_open : (v : View) → (v.is_open ≡ false → IsTrue v.is_broken) → v.is_broken ≡ false → IsTrue v.is_open
sound_open v shut h = go v.is_open refl
  where
    go : (b : Bool) → v.is_open ≡ b → IsTrue b
    go true e = refl
    go false e = absurd (true≢false (sym (shut e) ∙ h))

-- what is rolled back is given up
pub given_up : (old mid new : View) → (new.is_clean ≡ false → new.is_open ≡ false) → doubt mid.is_clean ≤ doubt new.is_clean → (IsClean mid → KeepsCommitted old mid) → IsRolledBack mid new → GivesUp old new
given_up old mid new shut falls kept undone k next was h =
    let clean : IsClean new = open_clean new shut h in
    let early : KeepsCommitted old mid = kept (omega (arith, falls)) in
    let late = undone.kept clean in
    let still = late.was_open h in
    let it = was (early.was_open still) in
    let same : new.committed ≡ old.committed = late.committed h ∙ early.committed still in
    let at = undone.undone h in record {
      sound = at.1;
      committed = subst (λ db. HoldsIn db k) (sym same) it.committed;
      written = subst (λ db. HoldsIn db k) (sym (at.0 ∙ early.committed still)) it.committed;
    }

-- the same, if nothing failed before
pub rolled_back : (old new : View) → (new.is_clean ≡ false → new.is_open ≡ false) → IsRolledBack old new → GivesUp old new
rolled_back old new shut undone k next was h =
    let late = undone.kept (open_clean new shut h) in
    let it = was (late.was_open h) in
    let at = undone.undone h in record {
      sound = at.1;
      committed = subst (λ db. HoldsIn db k) (sym (late.committed h)) it.committed;
      written = subst (λ db. HoldsIn db k) (sym at.0) it.committed;
    }

-- a write that was refused, and is rolled back
pub refused : {X E : Type 0} (r : Result X E) (old mid new : View) → (new.is_clean ≡ false → new.is_open ≡ false) → doubt mid.is_clean ≤ doubt new.is_clean → (IsClean mid → OnErr r (KeepsCommitted old mid))
    → OnErr r (IsRolledBack mid new) → OnErr r (GivesUp old new)
refused (Ok x) old mid new shut falls kept undone = tt
refused (Err e) old mid new shut falls kept undone = given_up old mid new shut falls kept undone

pub on_ok_both : {X E P Q R : Type 0} (r : Result X E) → (P → Q → R) → OnOk r P → OnOk r Q → OnOk r R
on_ok_both (Ok x) f p q = f p q
on_ok_both (Err e) f p q = tt

-- what is committed is kept
pub committed : (old new : View) → (new.is_clean ≡ false → new.is_open ≡ false) → (IsClean new → Commits old new) → CommitsStaged old new
committed old new shut commits k next was h =
    let is = (commits (open_clean new shut h)).is in
    let it = was (ap (λ (v : View). v.is_open) (sym is) ∙ h) in record {
      sound = ap (λ (v : View). v.is_broken) is ∙ it.sound;
      committed = subst (λ db. HoldsIn db next) (sym (ap (λ (v : View). v.committed) is)) it.written;
      written = subst (λ db. HoldsIn db next) (sym (ap (λ (v : View). v.trees) is)) it.written;
    }

-- one tree of a transaction was edited
pub staged : (old new : View) (tree : ℕ) (edit : List Row → List Row) (k next after : Kept) → (new.is_clean ≡ false → new.is_open ≡ false) → (IsClean new → OnlyWrites old new)
    → (IsClean new → HoldsIn old.trees next → EditsTree old new tree edit) → (IsClean new → EditsTree old new tree edit → HoldsIn old.trees next → HoldsIn new.trees after) → IsStaged old k next → IsStaged new k after
staged old new tree edit k next after shut writes edits holds was h =
    let clean : IsClean new = open_clean new shut h in
    let rest = writes clean in
    let it = was (ap (λ (v : View). v.is_open) (sym rest) ∙ h) in record {
      sound = ap (λ (v : View). v.is_broken) rest ∙ it.sound;
      committed = subst (λ db. HoldsIn db k) (sym (ap (λ (v : View). v.committed) rest)) it.committed;
      written = holds clean (edits clean it.written) it.written;
    }

-- trees that differ from others in one alone
pub record Differs (old new : Trees) (tree : ℕ) (rows : List Row) : Type 0 where
  pub this : new tree ≡ rows
  pub others : (t : ℕ) → t ≢ tree → new t ≡ old t

pub with_storage : (old new : Trees) (next : Kept) (s : Storage) → Differs old new storage_tree (rows_of s) → AreEntries s → HoldsIn old next → HoldsIn new (record next { storage = s })
with_storage old new next s is all h = record {
  storage = is.this;
  programs = is.others program_tree (λ e. absurd (cc)) ∙ h.programs;
  session = is.others session_tree (λ e. absurd (cc)) ∙ h.session;
  answer = is.others answer_tree (λ e. absurd (cc)) ∙ h.answer;
  limits = record { storage = all; programs = h.limits.programs; session = h.limits.session };
}

pub with_programs : (old new : Trees) (next : Kept) (m : ByteMap) → Differs old new program_tree (rows_of m) → AreNamed m → HoldsIn old next → HoldsIn new (record next { programs = m })
with_programs old new next m is all h = record {
  storage = is.others storage_tree (λ e. absurd (cc)) ∙ h.storage;
  programs = is.this;
  session = is.others session_tree (λ e. absurd (cc)) ∙ h.session;
  answer = is.others answer_tree (λ e. absurd (cc)) ∙ h.answer;
  limits = record { storage = h.limits.storage; programs = all; session = h.limits.session };
}

pub with_session : (old new : Trees) (next : Kept) (s : SessionRow) → Differs old new session_tree (session_row s ∷ []) → IsSessionInLimits s → HoldsIn old next → HoldsIn new (record next { session = Some s })
with_session old new next s is inside h = record {
  storage = is.others storage_tree (λ e. absurd (cc)) ∙ h.storage;
  programs = is.others program_tree (λ e. absurd (cc)) ∙ h.programs;
  session = is.this;
  answer = is.others answer_tree (λ e. absurd (cc)) ∙ h.answer;
  limits = record { storage = h.limits.storage; programs = h.limits.programs; session = inside };
}

pub with_answer : (old new : Trees) (next : Kept) (a : Option (List ℕ × List ℕ)) → Differs old new answer_tree (rows_if_any answer_row a) → HoldsIn old next → HoldsIn new (record next { answer = a })
with_answer old new next a is h = record {
  storage = is.others storage_tree (λ e. absurd (cc)) ∙ h.storage;
  programs = is.others program_tree (λ e. absurd (cc)) ∙ h.programs;
  session = is.others session_tree (λ e. absurd (cc)) ∙ h.session;
  answer = is.this;
  limits = record { storage = h.limits.storage; programs = h.limits.programs; session = h.limits.session };
}

-- a row takes the place of the one that a table has
one_session : (s : SessionRow) (before : Option SessionRow) → put_row (session_row s) (rows_if_any session_row before) ≡ session_row s ∷ []
one_session s None = refl
one_session s (Some b) = rw (tied_itself value_cmp_total (Int (pos 1))) refl

one_answer : (a : List ℕ × List ℕ) (before : Option (List ℕ × List ℕ)) → put_row (answer_row a) (rows_if_any answer_row before) ≡ answer_row a ∷ []
one_answer a None = refl
one_answer a (Some b) = rw (tied_itself value_cmp_total (Int (pos 1))) refl

no_answer : (before : Option (List ℕ × List ℕ)) → without_rowid (pos 1) (rows_if_any answer_row before) ≡ []
no_answer None = refl
no_answer (Some b) = rw (tied_itself value_cmp_total (Int (pos 1))) refl

-- a table's edit is one of a tree
pub edits_tree : (old new : View) (tree : ℕ) (edit : List Row → List Row) → SetsTree old new tree edit → EditsTree old new tree edit
edits_tree old new tree edit set = record {
  this = ap (λ (v : View). v.trees tree) set.is ∙ rw (eq-eqb tree tree refl) refl;
  others = λ t other. ap (λ (v : View). v.trees t) set.is ∙ rw (ne_eqb t tree other) refl;
  rest = subst (λ (v : View). v ≡ record old { trees = v.trees; cursors = v.cursors }) (sym set.is) refl;
}

module _ (old new : View) (shut : new.is_clean ≡ false → new.is_open ≡ false) (k next : Kept) (was : IsStaged old k next) where
  -- the storage is staged
  pub storage_staged : (s : Storage) → (IsClean new → OnlyWrites old new) → (IsClean new → old.trees storage_tree ≡ rows_of next.storage → EditsTree old new storage_tree (λ _. rows_of s)) → (IsClean new → old.trees storage_tree ≡ rows_of next.storage → AreEntries next.storage → AreEntries s) → IsStaged new k (record next { storage = s })
  storage_staged s writes edits all =
      staged old new storage_tree _ k next _ shut writes (λ clean h. edits clean h.storage) (λ clean e h. with_storage old.trees new.trees next s (record { this = e.this; others = e.others }) (all clean h.storage h.limits.storage) h) was

  -- a program is staged
  pub program_staged : (m : ByteMap) → (IsClean new → OnlyWrites old new) → (IsClean new → old.trees program_tree ≡ rows_of next.programs → EditsTree old new program_tree (λ _. rows_of m)) → (AreNamed next.programs → AreNamed m) → IsStaged new k (record next { programs = m })
  program_staged m writes edits all =
      staged old new program_tree _ k next _ shut writes (λ clean h. edits clean h.programs) (λ clean e h. with_programs old.trees new.trees next m (record { this = e.this; others = e.others }) (all h.limits.programs) h) was

  -- the session is staged
  pub session_staged : (s : SessionRow) → IsSessionInLimits s → (IsClean new → SetsTree old new session_tree (put_row (session_row s))) → IsStaged new k (record next { session = Some s })
  session_staged s inside sets =
      staged old new session_tree _ k next _ shut (λ clean. (edits_tree _ _ _ _ (sets clean)).rest) (λ clean h. edits_tree old new session_tree _ (sets clean)) (λ clean e h.
      with_session old.trees new.trees next s (record { this = e.this ∙ ap (put_row (session_row s)) h.session ∙ one_session s next.session; others = e.others }) inside h) was

  -- the answer is staged
  pub answer_staged : (a : List ℕ × List ℕ) → (IsClean new → SetsTree old new answer_tree (put_row (answer_row a))) → IsStaged new k (record next { answer = Some a })
  answer_staged a sets =
      staged old new answer_tree _ k next _ shut (λ clean. (edits_tree _ _ _ _ (sets clean)).rest) (λ clean h. edits_tree old new answer_tree _ (sets clean)) (λ clean e h.
      with_answer old.trees new.trees next (Some a) (record { this = e.this ∙ ap (put_row (answer_row a)) h.answer ∙ one_answer a next.answer; others = e.others }) h) was

  -- no answer is staged
  pub no_answer_staged : (IsClean new → SetsTree old new answer_tree (without_rowid (pos 1))) → IsStaged new k (record next { answer = None })
  no_answer_staged sets =
      staged old new answer_tree _ k next _ shut (λ clean. (edits_tree _ _ _ _ (sets clean)).rest) (λ clean h. edits_tree old new answer_tree _ (sets clean)) (λ clean e h.
      with_answer old.trees new.trees next None (record { this = e.this ∙ ap (without_rowid (pos 1)) h.answer ∙ no_answer next.answer; others = e.others }) h) was

-- a write of the storage that was not refused
pub storage_ok : {X E : Type 0} (r : Result X E) (old new : View) → (new.is_clean ≡ false → new.is_open ≡ false) → (before after : Storage)
    → OnOk r (IsClean new → old.trees storage_tree ≡ rows_of before → EditsTree old new storage_tree (λ _. rows_of after)) → OnOk r (IsClean new → OnlyWrites old new)
    → OnOk r (IsClean new → old.trees storage_tree ≡ rows_of before → AreEntries before → AreEntries after) → OnOk r (StagesWhere (λ next. next.storage ≡ before) (λ next. record next { storage = after }) old new)
storage_ok (Ok x) old new shut before after edits writes limits = λ kept next known was.
    storage_staged old new shut kept next was after writes (λ clean is. edits clean (is ∙ ap rows_of known)) (λ clean is all. limits clean (is ∙ ap rows_of known) (subst AreEntries known all))
storage_ok (Err e) old new shut before after edits writes limits = tt

-- a write of a program that was not refused
pub program_ok : {X E : Type 0} (r : Result X E) (old new : View) → (new.is_clean ≡ false → new.is_open ≡ false) → (change : ByteMap → ByteMap)
    → OnOk r (IsClean new → (m : ByteMap) → old.trees program_tree ≡ rows_of m → EditsTree old new program_tree (λ _. rows_of (change m))) → OnOk r (IsClean new → OnlyWrites old new)
    → ((m : ByteMap) → AreNamed m → AreNamed (change m)) → OnOk r (StagesKept (λ next. record next { programs = change next.programs }) old new)
program_ok (Ok x) old new shut change edits writes named = λ kept next was. program_staged old new shut kept next was (change next.programs) writes (λ clean is. edits clean next.programs is) (named next.programs)
program_ok (Err e) old new shut change edits writes named = tt

-- a write that was not refused leaves the transaction as sound as it was
pub writes_still : (old new : View) → OnlyWrites old new → new.is_broken ≡ old.is_broken
writes_still old new writes = ap (λ (v : View). v.is_broken) writes

pub sets_still : (old new : View) (tree : ℕ) (edit : List Row → List Row) → SetsTree old new tree edit → new.is_broken ≡ old.is_broken
sets_still old new tree edit sets = ap (λ (v : View). v.is_broken) sets.is
