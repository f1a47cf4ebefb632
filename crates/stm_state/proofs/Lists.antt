-- Small facts on lists.
use Rattle.std.proofs.Common.{◌≡◌, ◌<◌, ◌≢◌, ◌&&◌, ℕ, zero, suc, Bool, List, [], ◌∷◌, ◌++◌, length, replicate, get_or, set, refl, sym, ap, subst, ◌∙◌, inl, inr}
use Rattle.std.specs.List.{AllByRecursion, list_all}
use Rattle.std.proofs.lemmas.Bool.{cases_eq}
use Rattle.std.proofs.lemmas.List.{get_or-set_same, get_or-set_other}

-- a list of equal elements at an index, also past the end
pub replicated : {X : Type 0} (n i : ℕ) (d : X) → get_or (replicate n d) i d ≡ d
replicated zero i d = refl
replicated (suc n) zero d = refl
replicated (suc n) (suc i) d = replicated n i d

-- tests that agree on each element agree on each list
pub all_same : {X : Type 0} (p q : X → Bool) → ((x : X) → p x ≡ q x) → (xs : List X) → list_all p xs ≡ list_all q xs
all_same p q h [] = refl
all_same p q h (x ∷ xs) = ap (λ b. b && list_all p xs) (h x) ∙ ap (λ b. q x && b) (all_same p q h xs)

-- what holds of the elements of two lists holds of those of the joined list
pub all_append : {X : Type 0} (P : X → Type 0) (xs ys : List X) → AllByRecursion P xs → AllByRecursion P ys → AllByRecursion P (xs ++ ys)
all_append P [] ys h k = k
all_append P (x ∷ xs) ys h k = (h.0, all_append P xs ys h.1 k)

-- what holds of the elements of two joined lists holds of those of the first
pub all_before : {X : Type 0} (P : X → Type 0) (xs ys : List X) → AllByRecursion P (xs ++ ys) → AllByRecursion P xs
all_before P [] ys h = tt
all_before P (x ∷ xs) ys h = (h.0, all_before P xs ys h.1)

-- a function of indices changes at one index alone
pub record ChangesAt {X : Type 0} (before after : ℕ → X) (i : ℕ) (x : X) : Type 0 where
  pub there : after i ≡ x
  pub other : (j : ℕ) → j ≢ i → after j ≡ before j

-- a function that stays, and a list with one element set
pub stays_at : {X : Type 0} (before : ℕ → X) (i : ℕ) → ChangesAt before before i (before i)
stays_at before i = record { there = refl; other = λ j ne. refl }

pub set_at : {X : Type 0} (xs : List X) (i : ℕ) (x d : X) → i < length xs → ChangesAt (λ j. get_or xs j d) (λ j. get_or (set xs i x) j d) i x
set_at xs i x d within = record { there = get_or-set_same xs i x d within; other = λ j ne. get_or-set_other xs i j x d ne }

-- what holds of x and of each other element as it was holds of each element now
pub each_at : {X : Type 0} (before after : ℕ → X) (i : ℕ) (x : X) → ChangesAt before after i x → (j : ℕ) (P : X → Type 0) → (j ≡ i → P x) → (j ≢ i → P (before j)) → P (after j)
each_at before after i x m j P h k = elim (cases_eq j i) [
  | inl e ↦ subst P (sym (ap after e ∙ m.there)) (h e)
  | inr ne ↦ subst P (sym (m.other j ne)) (k ne)
]
