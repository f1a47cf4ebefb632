use Rattle.std.proofs.Common.{◌≡◌, ◌⊎◌, ℕ, Bool, true, false, List, Option, Some, cond, inl, inr, refl}
use Rattle.std.specs.BTreeMap.{is_at}
use Rattle.rv_ledger.specs.Key.{key_cmp}
use Rattle.mvmap.proofs.Buckets.{noted_at}
use Rattle.mvmap.proofs.KeyTables.{same_key}
use Rattle.mvmap.proofs.key_table.KeyTable.note_position.Goals as goal

-- a key's position in the tree after one key was put into it
put_in : (key q : List ℕ) (n : ℕ) (now was : Option ℕ) (b : Bool) → is_at (key_cmp key) q ≡ b → now ≡ cond b (Some n) was → (now ≡ was) ⊎ ((key ≡ q) × (now ≡ Some n))
put_in key q n now was true t e = inr (same_key key q t, e)
put_in key q n now was false t e = inl e

pub returns-in_ok-insert-clause-others : goal.returns-in_ok-insert-clause-others
returns-in_ok-insert-clause-others c = λ q. put_in c.args.key.now q c.args.position _ _ (is_at (key_cmp c.args.key.now) q) refl (c.in_ok-insert.ensures.updates.0 q)

pub returns-else-not-note-clause-found : goal.returns-else-not-note-clause-found
returns-else-not-note-clause-found c =
    let empty = c.note.ensures.noted.0 c.if-not-note.false in
    inl (rw c.note.ensures.buckets (noted_at c.args.self.now.hints.buckets.items c.args.key.now c.args.position empty.0 empty.1))
