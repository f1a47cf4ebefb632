-- Keys of one writer that are turned to their targets, one after another.
use Rattle.std.proofs.Common.{◌≡◌, ◌⊎◌, ◌||◌, cond, ℕ, Bool, true, false, List, [], ◌∷◌, Option, refl, sym, ap, subst, ◌∙◌, inl, inr}
use Rattle.std.specs.Ordering.{eq_by_cmp}
use Rattle.rv_ledger.specs.Key.{key_cmp}
use Rattle.mvmap.specs.Versions.{Entry, Versions, changed, entry_at}
use Rattle.stm_state.specs.Parts.{has_key}
use Rattle.stm_state.proofs.Invariant.{AreUnderWay}
use Rattle.stm_state.proofs.Writes.{changed_at, same_key}

module _ (target : List ℕ → Option Entry) (before : List ℕ → Option Entry → Type 0) (v : Versions) (i : ℕ) (key : List ℕ) (keys : List (List ℕ)) (amid : AreUnderWay target before (λ k. entry_at v k i) (key ∷ keys)) where
  -- the versions with the first key turned
  abbrev turned : Versions
  turned = changed v (key, i) (target key)

  -- a key that is turned is no longer among those that are left
  pub amid_step : AreUnderWay target before (λ k. entry_at (changed v (key, i) (target key)) k i) keys
  amid_step k = go (eq_by_cmp key_cmp k key) refl (amid k)
    where
      go : (b : Bool) → eq_by_cmp key_cmp k key ≡ b → (entry_at v k i ≡ target k) ⊎ ((has_key k (key ∷ keys) ≡ true) × before k (entry_at v k i)) → (entry_at turned k i ≡ target k) ⊎ ((has_key k keys ≡ true) × before k (entry_at turned k i))
      go true h was = inl (changed_at v key i (target key) k ∙ ap (λ b. cond b (target key) (entry_at v k i)) h ∙ ap target (sym (same_key k key h)))
      go false h was =
          let stays : entry_at turned k i ≡ entry_at v k i = changed_at v key i (target key) k ∙ ap (λ b. cond b (target key) (entry_at v k i)) h in
          elim was [
            | inl there ↦ inl (stays ∙ there)
            | inr q ↦ inr (ap (λ b. b || has_key k keys) (sym h) ∙ q.0, subst (before k) (sym stays) q.1)
          ]

  -- each entry stays as it was, or was one that may be there until its key is turned
  pub amid_cases : (k : List ℕ) → (entry_at (changed v (key, i) (target key)) k i ≡ entry_at v k i) ⊎ before k (entry_at v k i)
  amid_cases k = go (eq_by_cmp key_cmp k key) refl (amid k)
    where
      go : (b : Bool) → eq_by_cmp key_cmp k key ≡ b → (entry_at v k i ≡ target k) ⊎ ((has_key k (key ∷ keys) ≡ true) × before k (entry_at v k i)) → (entry_at turned k i ≡ entry_at v k i) ⊎ before k (entry_at v k i)
      go true h (inl there) = inl (changed_at v key i (target key) k ∙ ap (λ b. cond b (target key) (entry_at v k i)) h ∙ ap target (sym (same_key k key h)) ∙ sym there)
      go true h (inr q) = inr q.1
      go false h was = inl (changed_at v key i (target key) k ∙ ap (λ b. cond b (target key) (entry_at v k i)) h)

-- turning the first of distinct keys leaves the entries at the others
pub left_stays : (v : Versions) (i : ℕ) (key : List ℕ) (keys : List (List ℕ)) (o : Option Entry) → has_key key keys ≡ false → (k : List ℕ) → has_key k keys ≡ true → entry_at (changed v (key, i) o) k i ≡ entry_at v k i
left_stays v i key keys o gone k left = go (eq_by_cmp key_cmp k key) refl
  where
    go : (b : Bool) → eq_by_cmp key_cmp k key ≡ b → entry_at (changed v (key, i) o) k i ≡ entry_at v k i
    go true h = let not_left : has_key k keys ≡ false = ap (λ q. has_key q keys) (same_key k key h) ∙ gone in cc
    go false h = changed_at v key i o k ∙ ap (λ b. cond b o (entry_at v k i)) h

-- if no key is left, all are turned
pub amid_end : (target : List ℕ → Option Entry) (before : List ℕ → Option Entry → Type 0) (entries : List ℕ → Option Entry) → AreUnderWay target before entries [] → (key : List ℕ) → entries key ≡ target key
amid_end target before entries amid key = elim (amid key) [ inl there ↦ there | inr q ↦ let none = q.0 in cc ]
