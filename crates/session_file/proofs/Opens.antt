-- What an open finds, and when it is refused.
use Rattle.std.proofs.Common.{◌≡◌, ◌≤◌, ℕ, Option, Some, None, refl, sym, ap, subst, ◌∙◌}
use Rattle.sqlite_disk.specs.Disk.{MoreFaults}
use Rattle.sqlite_exec.specs.Calls.{OnlyReads}
use Rattle.sqlite_trees.specs.Tree.{Trees}
use Rattle.sqlite_trees.specs.View.{View}
use Rattle.session_tree.proofs.Causes.{later_cause}
use Rattle.session_tree.specs.Entries.{rows_of}
use Rattle.session_file.specs.Kept.{HoldsIn, IsKeptInLimits, Kept, answer_row, answer_tree, program_tree, rows_if_any, session_row, session_tree, storage_tree}
use Rattle.session_file.specs.Opening.{IsFresh, IsOfOtherVersion, IsOpenRefused}
use Rattle.session_file.specs.Rows.{IsReadFault}
use Rattle.session_file.specs.Staging.{HoldsKept}
use Rattle.session_file.specs.declared.fault.OpenFault.{OpenFault}
use Rattle.session_file.specs.declared.fault.OpenFault.TheVariants.{Damaged, NotASession, OtherVersion, Store}
use Rattle.session_file.specs.declared.rows.SessionRow.{SessionRow}

pub reads_on : (a b c : View) → OnlyReads a b → OnlyReads b c → OnlyReads a c
reads_on a b c first second = second ∙ ap (λ (v : View). record v { cursors = c.cursors }) first

-- trees that hold a session of this version hold none of another
not_other : (o : Option SessionRow) → ¬ IsOfOtherVersion (rows_if_any session_row o)
not_other None h = h
not_other (Some s) h = h refl

-- the same of what was read on
pub this_version : (v now : View) (o : Option SessionRow) → OnlyReads v now → v.trees session_tree ≡ rows_if_any session_row o → ¬ IsOfOtherVersion (now.trees session_tree)
this_version v now o reads is h = not_other o (subst IsOfOtherVersion (ap (λ (w : View). w.trees session_tree) reads ∙ is) h)

-- a part that was not read
pub refused_part : (v now : View) (a b c : ℕ) (none : View → Type 0) (fault : OpenFault) → OnlyReads v now → a ≤ b → (none now → ¬ IsOfOtherVersion (now.trees session_tree) × ((k : Kept) → ¬ HoldsIn now.trees k))
    → IsReadFault none now (MoreFaults b c) fault → IsOpenRefused v (MoreFaults a c) fault
refused_part v now a b c none NotASession reads up gone f = absurd f
refused_part v now a b c none OtherVersion reads up gone f = subst (λ (db : Trees). IsOfOtherVersion (db session_tree)) (ap (λ (w : View). w.trees) reads) f
refused_part v now a b c none Damaged reads up gone f =
    let same = sym (ap (λ (w : View). w.trees) reads) in
    (λ other. (gone f).0 (subst (λ (db : Trees). IsOfOtherVersion (db session_tree)) same other), λ k h. (gone f).1 k (subst (λ db. HoldsIn db k) same h))
refused_part v now a b c none (Store e) reads up gone f = later_cause v now a b c ⊥ ⊥ e up (ap (λ (w : View). w.is_broken) reads) (λ long. long) f

-- all parts were read
pub loaded : (v0 v1 v2 v3 v4 : View) (k : Kept) → OnlyReads v0 v1 → OnlyReads v1 v2 → OnlyReads v2 v3 → OnlyReads v3 v4 → v0.trees session_tree ≡ rows_if_any session_row k.session
    → v1.trees answer_tree ≡ rows_if_any answer_row k.answer → v2.trees program_tree ≡ rows_of k.programs → v3.trees storage_tree ≡ rows_of k.storage → IsKeptInLimits k → HoldsIn v4.trees k
loaded v0 v1 v2 v3 v4 k r1 r2 r3 r4 session answer programs storage limits =
    let trees = λ (v : View). v.trees in
    let at3 : v4.trees ≡ v3.trees = ap trees r4 in
    let at2 : v4.trees ≡ v2.trees = at3 ∙ ap trees r3 in
    let at1 : v4.trees ≡ v1.trees = at2 ∙ ap trees r2 in
    let at0 : v4.trees ≡ v0.trees = at1 ∙ ap trees r1 in record {
      storage = ap (λ (db : Trees). db storage_tree) at3 ∙ storage;
      programs = ap (λ (db : Trees). db program_tree) at2 ∙ programs;
      session = ap (λ (db : Trees). db session_tree) at0 ∙ session;
      answer = ap (λ (db : Trees). db answer_tree) at1 ∙ answer;
      limits = limits;
    }

-- what was read of a store that was just opened is kept
pub keeps_read : (v now : View) (k : Kept) → IsFresh v → OnlyReads v now → HoldsIn now.trees k → HoldsKept now k k
keeps_read v now k fresh reads holds =
    let same : now.trees ≡ now.committed = ap (λ (w : View). w.trees) reads ∙ fresh.settled ∙ sym (ap (λ (w : View). w.committed) reads) in record {
      sound = ap (λ (w : View). w.is_broken) reads ∙ fresh.sound;
      committed = subst (λ db. HoldsIn db k) same holds;
      written = holds;
    }
