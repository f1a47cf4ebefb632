-- The pages of a program while they are made: those of the first pages of memory are already there.
use Rattle.std.proofs.Common.{◌≡◌, ℕ, ◌+◌, ◌<◌, ◌≤◌, List, [], ◌∷◌, ◌++◌, length, get_or, set, replicate, All, refl, sym, ap, ◌∙◌, arith}
use Rattle.std.specs.Prelude.{flat_map}
use native.Mathlib.Decide.{dec_lt}
use Rattle.std.proofs.lemmas.List.{get_or_append_left, get_or_push, get_or-set_same, get_or-set_other, get_or-replicate, length-set, length-replicate, length_push}
use Rattle.std.proofs.lemmas.List.Elements.{All-push, All-set}
use Rattle.elf32.specs.Pages.{ArePages, bytes_of_page, page_at, zeros}
use Rattle.elf32.proofs.Paged.{by_pages, length_zeros}

-- the first n pages of memory have their bytes, and each later one is still the page of zeros
pub record Filled (pages : List (List ℕ)) (index : List ℕ) (n : ℕ) (memory : List ℕ) : Type 0 where
  pub first : page_at pages 0 ≡ zeros 4096
  pub some : 1 ≤ length pages
  pub count : length pages ≤ n + 1
  pub sizes : ArePages (λ p. p) pages
  pub len : length index ≡ 256
  pub places : All (λ k. k < length pages) index
  pub done : (i d : ℕ) → i < n → page_at pages (get_or index i d) ≡ bytes_of_page i memory
  pub left : (i d : ℕ) → n ≤ i → i < 256 → get_or index i d ≡ 0

pub filled_none : (pages : List (List ℕ)) (index memory : List ℕ) → pages ≡ zeros 4096 ∷ [] → index ≡ replicate 256 0 → Filled pages index 0 memory
filled_none pages index memory one all =
    let size : length (zeros 4096) ≡ 4096 = length_zeros 4096 in
    let count : length pages ≡ 1 = ap length one in
    let len : length index ≡ 256 = ap length all ∙ length-replicate {A = ℕ} 256 0 in
    let zero_at : (i d : ℕ) → i < 256 → get_or index i d ≡ 0 = λ i d high. ap (λ (l : List ℕ). get_or l i d) all ∙ get_or-replicate 256 i 0 d high in
    record {
      first = ap (λ (l : List (List ℕ)). page_at l 0) one;
      some = omega arith;
      count = omega arith;
      sizes = rw one (All-push (λ p. length p ≡ 4096) [] (zeros 4096) (λ k d b. absurd (omega arith)) size);
      len = len;
      places = λ k d b. omega (arith, zero_at k d (omega arith));
      done = λ i d h. absurd (omega arith);
      left = λ i d low high. zero_at i d high;
    }

module _ (pages : List (List ℕ)) (index : List ℕ) (k : ℕ) (memory : List ℕ) (below : k < 256) (h : Filled pages index k memory) where
  -- one more page
  pub filled_page : (p : List ℕ) → p ≡ bytes_of_page k memory → length p ≡ 4096 → Filled (pages ++ p ∷ []) (set index k (length pages)) (k + 1) memory
  filled_page p is size =
      let more = length_push pages p in
      let count = h.count in
      let len = h.len in
      record {
        first = get_or_append_left pages (p ∷ []) [] 0 h.some ∙ h.first;
        some = omega arith;
        count = omega arith;
        sizes = All-push (λ p. length p ≡ 4096) pages p h.sizes size;
        len = length-set index k (length pages) ∙ h.len;
        places =
            All-set (λ j. j < length (pages ++ p ∷ [])) index k (length pages) (omega arith) (λ i d b. omega (arith, h.places i d b));
        done =
            λ i d low. elim (dec_lt i k) [
              | yes before ↦
                  ap (page_at (pages ++ p ∷ [])) (get_or-set_other index k i (length pages) d (omega arith))
                  ∙ get_or_append_left pages (p ∷ []) [] (get_or index i d) (h.places i d (omega arith))
                  ∙ h.done i d before
              | no later ↦
                  let e : i ≡ k = omega arith in
                  ap (λ (j : ℕ). page_at (pages ++ p ∷ []) (get_or (set index k (length pages)) j d)) e
                  ∙ ap (page_at (pages ++ p ∷ [])) (get_or-set_same index k (length pages) d (omega arith))
                  ∙ get_or_push pages p [] (length pages) refl
                  ∙ is
                  ∙ ap (λ (j : ℕ). bytes_of_page j memory) (sym e)
            ];
        left =
            λ i d low high. get_or-set_other index k i (length pages) d (omega arith) ∙ h.left i d (omega arith) high;
      }

  -- one more page of zeros
  pub filled_zeros : bytes_of_page k memory ≡ zeros 4096 → Filled pages index (k + 1) memory
  filled_zeros is =
      let count = h.count in
      record {
        first = h.first;
        some = h.some;
        count = omega arith;
        sizes = h.sizes;
        len = h.len;
        places = h.places;
        done =
            λ i d low. elim (dec_lt i k) [
              | yes before ↦ h.done i d before
              | no later ↦
                  let e : i ≡ k = omega arith in
                  ap (page_at pages) (h.left i d (omega arith) (omega arith))
                  ∙ h.first
                  ∙ sym (ap (λ (j : ℕ). bytes_of_page j memory) e ∙ is)
            ];
        left = λ i d low high. h.left i d (omega arith) high;
      }

pub filled_all : (pages : List (List ℕ)) (index memory : List ℕ) → length memory ≡ 1048576 → Filled pages index 256 memory → flat_map (page_at pages) index ≡ memory
filled_all pages index memory size h =
    let len = h.len in
    by_pages (page_at pages) index memory (omega arith) (λ i d below. h.done i d (omega arith))
