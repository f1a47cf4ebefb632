-- What a storage has at a key after the writes of a call.
use Rattle.std.proofs.Common.{◌≡◌, ℕ, Bool, true, false, cond, List, [], ◌∷◌, Some, None, refl, sym, ap, ◌∙◌}
use Rattle.std.specs.FinMap.{entries, find, get, get-entries, insert, remove}
use Rattle.std.specs.Ordering.{eq_by_cmp}
use Rattle.rv_ledger.specs.Change.{Content, ContentChange, add, apply_change}
use Rattle.rv_ledger.specs.Key.{Storage, WriteMap, key_cmp}
use Rattle.rv_ledger.specs.declared.change.Change.TheVariants as change
use Rattle.rv_ledger.specs.Applied.{apply_each, apply_write, apply_writes}
use Rattle.mvmap.proofs.Storages.{amount_added, key_removed, value_written}

-- a change hides what was there
abbrev pub Hides : ContentChange → Type 0
Hides c = (before other : Content) → apply_change c before ≡ apply_change c other

module _ (q : List ℕ) where
  -- what a key has after one write; b says whether it is the key that is written
  abbrev after_one : Bool → ContentChange → Content → Content
  after_one b c before = cond b (apply_change c before) before

  at_key : (store : Storage) (key : List ℕ) (c : ContentChange) (b : Bool) → eq_by_cmp key_cmp q key ≡ b → get (apply_write store key c) q ≡ after_one b c (get store q)
  at_key store key (change.Value value) b e = value_written store (insert store key value) key (change.Value value) value refl refl q ∙ ap (λ b. after_one b (change.Value value) (get store q)) e
  at_key store key change.Gone b e = key_removed store (remove store key) key change.Gone refl refl q ∙ ap (λ b. after_one b change.Gone (get store q)) e
  at_key store key (change.Sum amount) b e = amount_added store (insert store key (add (get store key) amount)) key (change.Sum amount) amount refl refl q ∙ ap (λ b. after_one b (change.Sum amount) (get store q)) e

  abbrev Writes : Type 0
  Writes = List (List ℕ × ContentChange)

  -- if two storages have the same at the key, they have the same after the same writes
  same_each : (es : Writes) (one other : Storage) → get one q ≡ get other q → get (apply_each one es) q ≡ get (apply_each other es) q
  same_each [] one other h = h
  same_each (e ∷ es) one other h =
      let b : Bool = eq_by_cmp key_cmp q e.0 in
      same_each es (apply_write one e.0 e.1) (apply_write other e.0 e.1)
      (at_key one e.0 e.1 b refl ∙ ap (after_one b e.1) h ∙ sym (at_key other e.0 e.1 b refl))

  found_first : (e : List ℕ × ContentChange) (es : Writes) (b : Bool) → eq_by_cmp key_cmp q e.0 ≡ b → find key_cmp q (e ∷ es) ≡ cond b (Some e.1) (find key_cmp q es)
  found_first e es b same = ap (λ b. cond b (Some e.1) (find key_cmp q es)) same

  -- writes of other keys leave the key
  leave_each : (es : Writes) (store : Storage) → find key_cmp q es ≡ None → get (apply_each store es) q ≡ get store q
  leave_each [] store none = refl
  leave_each (e ∷ es) store none = by_first (eq_by_cmp key_cmp q e.0) refl (leave_each es (apply_write store e.0 e.1))
    where
      by_first : (b : Bool) → eq_by_cmp key_cmp q e.0 ≡ b → (find key_cmp q es ≡ None → get (apply_each store (e ∷ es)) q ≡ get (apply_write store e.0 e.1) q) → get (apply_each store (e ∷ es)) q ≡ get store q
      by_first true same later = let other : Some e.1 ≡ None = sym (found_first e es true same) ∙ none in cc
      by_first false other later = later (sym (found_first e es false other) ∙ none) ∙ at_key store e.0 e.1 false other

  -- after a write that hides what was there, two storages have the same
  hide_each : (es : Writes) (one other : Storage) (c : ContentChange) → Hides c → find key_cmp q es ≡ Some c → get (apply_each one es) q ≡ get (apply_each other es) q
  hide_each [] one other c hides is = cc
  hide_each (e ∷ es) one other c hides is = by_first (eq_by_cmp key_cmp q e.0) refl (hide_each es (apply_write one e.0 e.1) (apply_write other e.0 e.1) c hides)
    where
      hidden : (store : Storage) → e.1 ≡ c → eq_by_cmp key_cmp q e.0 ≡ true → get (apply_write store e.0 e.1) q ≡ apply_change c (get store q)
      hidden store own same = at_key store e.0 e.1 true same ∙ ap (λ d. apply_change d (get store q)) own

      by_first : (b : Bool) → eq_by_cmp key_cmp q e.0 ≡ b → (find key_cmp q es ≡ Some c → get (apply_each one (e ∷ es)) q ≡ get (apply_each other (e ∷ es)) q) → get (apply_each one (e ∷ es)) q ≡ get (apply_each other (e ∷ es)) q
      by_first true same later =
          let found : Some e.1 ≡ Some c = sym (found_first e es true same) ∙ is in
          let own : e.1 ≡ c = cc in
          same_each es (apply_write one e.0 e.1) (apply_write other e.0 e.1) (hidden one own same ∙ hides (get one q) (get other q) ∙ sym (hidden other own same))
      by_first false apart later = later (sym (found_first e es false apart) ∙ is)

  -- ---- the same of all writes of a call

  module _ (writes : WriteMap) where
    pub same_after : (one other : Storage) → get one q ≡ get other q → get (apply_writes one writes) q ≡ get (apply_writes other writes) q
    unfolding apply_writes
    same_after one other h = same_each (entries writes) one other h

    pub left_after : (store : Storage) → get writes q ≡ None → get (apply_writes store writes) q ≡ get store q
    unfolding apply_writes
    left_after store none = leave_each (entries writes) store (sym (get-entries writes q) ∙ none)

    pub hidden_after : (one other : Storage) (c : ContentChange) → Hides c → get writes q ≡ Some c → get (apply_writes one writes) q ≡ get (apply_writes other writes) q
    unfolding apply_writes
    hidden_after one other c hides is = hide_each (entries writes) one other c hides (sym (get-entries writes q) ∙ is)
