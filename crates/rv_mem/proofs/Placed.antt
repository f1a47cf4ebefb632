-- The places of the pages of memory among those of the program and, after them, the call's own.
use Rattle.std.proofs.Common.{◌≡◌, ◌≢◌, ℕ, ◌+◌, ◌<◌, ◌≤◌, List, [], ◌∷◌, length, get_or, set, All, inl, inr, refl, ap, ◌∙◌, arith}
use Rattle.std.specs.List.{sum_by}
use Rattle.std.proofs.lemmas.Bool.Decides.{nat_tests}
use Rattle.std.proofs.lemmas.Bool.{cases_eq}
use Rattle.std.proofs.lemmas.List.{get_or-set_same, get_or-set_other, length-set}
use Rattle.std.proofs.lemmas.List.Elements.{All-head, All-tail, All-set}
use Rattle.std.proofs.lemmas.List.Sums.{sum_by-cons, sum_by-set}
use Rattle.rv_mem.specs.Paged.{ArePlaced, is_shared}

shared_is : (n k : ℕ) → k < n → is_shared n k ≡ 1
shared_is n k h = grind (arith, nat_tests)

own_is : (n k : ℕ) → n ≤ k → is_shared n k ≡ 0
own_is n k h = grind (arith, nat_tests)

sum_shared : (n : ℕ) (index : List ℕ) → All (λ k. k < n) index → sum_by (is_shared n) index ≡ length index
sum_shared n [] h = refl
sum_shared n (k ∷ index) h =
    let one = shared_is n k (All-head (λ k. k < n) k index h) in
    let rest = sum_shared n index (All-tail (λ k. k < n) k index h) in
    let split = sum_by-cons (is_shared n) k index in
    omega arith

-- no page is the call's own
pub placed_none : (base count : ℕ) (index : List ℕ) → base ≤ 257 → base ≤ count → length index ≡ 256 → All (λ k. k < base) index → ArePlaced base count 0 index
placed_none base count index few low len h =
    let each = sum_shared count index (λ k d b. omega (arith, h k d b)) in
    record {
      few = few;
      len = len;
      places = λ k d b. omega (arith, h k d b);
      inside = λ k d b _. h k d b;
      each = omega arith;
      alone = λ i j bi bj own same. absurd (omega (arith, h i 0 (omega arith)));
    }

-- one more page is the call's own
module _ (base count own page : ℕ) (index : List ℕ) (h : ArePlaced base count own index) (below : page < 256) (shared : get_or index page 0 < count) where
  there : (i : ℕ) → i ≡ page → get_or (set index page (count + own)) i 0 ≡ count + own
  there i e =
      let len = h.len in
      ap (λ (j : ℕ). get_or (set index page (count + own)) j 0) e ∙ get_or-set_same index page (count + own) 0 (omega arith)

  elsewhere : (i : ℕ) → i ≢ page → get_or (set index page (count + own)) i 0 ≡ get_or index i 0
  elsewhere i e = get_or-set_other index page i (count + own) 0 e

  alone_more : (i j : ℕ) → i < 256 → j < 256 → count ≤ get_or (set index page (count + own)) i 0 → get_or (set index page (count + own)) i 0 ≡ get_or (set index page (count + own)) j 0 → i ≡ j
  alone_more i j bi bj owned same =
      let len = h.len in
      elim (cases_eq i page) [
        | inl here ↦ elim (cases_eq j page) [
          | inl both ↦ omega arith
          | inr other ↦
              let a = there i here in
              let b = elsewhere j other in
              let low = h.places j 0 (omega arith) in
              absurd (omega arith)
        ]
        | inr other ↦ elim (cases_eq j page) [
          | inl here ↦
              let a = there j here in
              let b = elsewhere i other in
              let low = h.places i 0 (omega arith) in
              absurd (omega arith)
          | inr neither ↦
              let a = elsewhere i other in
              let b = elsewhere j neither in
              h.alone i j bi bj (omega arith) (omega arith)
        ]
      ]

  pub placed_more : ArePlaced base count (own + 1) (set index page (count + own))
  placed_more =
      let few = h.few in
      let len = h.len in
      let each = h.each in
      let was = shared_is count (get_or index page 0) shared in
      let is = own_is count (count + own) (omega arith) in
      let sum = sum_by-set (is_shared count) index page (count + own) 0 (omega arith) in
      record {
        few = few;
        len = length-set index page (count + own) ∙ len;
        places =
            All-set (λ k. k < count + (own + 1)) index page (count + own) (omega arith) (λ k d b. omega (arith, h.places k d b));
        inside =
            All-set (λ k. k < count → k < base) index page (count + own) (λ low. absurd (omega arith)) h.inside;
        each = omega arith;
        alone = alone_more;
      }
