-- A storage after a change of one key.
use Rattle.std.proofs.Common.{◌≡◌, ℕ, Bool, true, false, cond, List, Option, None, Some, refl, sym, ap, ◌∙◌}
use Rattle.std.specs.Ordering.{eq_by_cmp}
use Rattle.std.specs.Cmp.Lexicographic.{nat_list_cmp_total}
use Rattle.std.specs.FinMap.{get, insert, remove, get-insert, get-remove}
use Rattle.std.proofs.lemmas.Map.Lookups.{exact_bytes}
use Rattle.std.proofs.lemmas.Map.Views.{tells_apart}
use Rattle.rv_ledger.specs.Change.{ContentChange, add, apply_change}
use Rattle.rv_ledger.specs.Key.{Storage, key_cmp}
use Rattle.rv_ledger.specs.declared.change.Change.TheVariants as change

-- a key was set
set_is : (m n : Storage) (key value : List ℕ) (o : Option (List ℕ)) → n ≡ insert m key value → o ≡ Some value → (k : List ℕ) → get n k ≡ cond (eq_by_cmp key_cmp k key) o (get m k)
set_is m n key value o h e k = ap (λ (s : Storage). get s k) h ∙ get-insert nat_list_cmp_total m key value k ∙ ap (λ (x : Option (List ℕ)). cond (eq_by_cmp key_cmp k key) x (get m k)) (sym e)

-- a key was taken out
gone_is : (m n : Storage) (key : List ℕ) (o : Option (List ℕ)) → n ≡ remove m key → o ≡ None → (k : List ℕ) → get n k ≡ cond (eq_by_cmp key_cmp k key) o (get m k)
gone_is m n key o h e k = ap (λ (s : Storage). get s k) h ∙ get-remove nat_list_cmp_total m key k ∙ ap (λ (x : Option (List ℕ)). cond (eq_by_cmp key_cmp k key) x (get m k)) (sym e)

module _ (m n : Storage) (key : List ℕ) (c : ContentChange) where
  abbrev pub IsChanged : Type 0
  IsChanged = (k : List ℕ) → get n k ≡ cond (eq_by_cmp key_cmp k key) (apply_change c (get m k)) (get m k)

  named : (d : ContentChange) → c ≡ d → ((k : List ℕ) → get n k ≡ cond (eq_by_cmp key_cmp k key) (apply_change d (get m k)) (get m k)) → IsChanged
  named d e h k = h k ∙ ap (λ x. cond (eq_by_cmp key_cmp k key) (apply_change x (get m k)) (get m k)) (sym e)

  -- a value was written
  pub value_written : (value : List ℕ) → n ≡ insert m key value → c ≡ change.Value value → IsChanged
  value_written value h e = named (change.Value value) e (λ k. set_is m n key value (Some value) h refl k)

  -- the key was removed
  pub key_removed : n ≡ remove m key → c ≡ change.Gone → IsChanged
  key_removed h e = named change.Gone e (λ k. gone_is m n key None h refl k)

  at_key : (k : List ℕ) (amount : ℕ) (b : Bool) → eq_by_cmp key_cmp k key ≡ b → cond b (Some (add (get m key) amount)) (get m k) ≡ cond b (Some (add (get m k) amount)) (get m k)
  at_key k amount true t = ap (λ q. Some (add (get m q) amount)) (sym (tells_apart exact_bytes k key t))
  at_key k amount false t = refl

  -- an amount was added
  pub amount_added : (amount : ℕ) → n ≡ insert m key (add (get m key) amount) → c ≡ change.Sum amount → IsChanged
  amount_added amount h e = named (change.Sum amount) e (λ k.
      set_is m n key (add (get m key) amount) (Some (add (get m key) amount)) h refl k ∙ at_key k amount (eq_by_cmp key_cmp k key) refl)
