-- When each byte of a range may be used, by its bytes and by its pages.
use Rattle.std.proofs.Common.{◌≡◌, ℕ, zero, suc, ◌+◌, ◌-◌, ◌*◌, ◌/◌, ◌%◌, ◌^◌, ◌<◌, ◌≤◌, ◌⊎◌, Bool, true, false, ◌||◌, ltb, leb, eqb, List, refl, sym, ◌∙◌, arith, IsTrue, max, get_or, inl, inr}
use native.Mathlib.Decide.{dec_lt}
use Rattle.std.proofs.lemmas.Bool.{and_left, and_right, and_from}
use Rattle.std.proofs.lemmas.Bool.Decides.{nat_tests}
use Rattle.elf32.specs.declared.segment.Rights.{Rights}
use Rattle.rv_mem.specs.Space.{is_address, allows, no_rights, allows_at, allows_range}
use Rattle.rv_mem.specs.Paged.{is_open}
use Rattle.rv_mem.specs.declared.access.Access.{Access}

-- a range of which each byte may be used
pub each_true : (access : Access) (rights : List Rights) (a n : ℕ) → ((i : ℕ) → i < n → allows_at access rights (a + i) ≡ true) → allows_range access rights a n ≡ true
unfolding allows_range
each_true access rights a zero h = refl
each_true access rights a (suc n) h =
    let here : allows_at access rights a ≡ true = let e : a + 0 ≡ a = omega arith in (rw e at (h 0 (omega arith))) in
    let rest = each_true access rights (a + 1) n (λ i l. let e : (a + 1) + i ≡ a + (i + 1) = omega arith in rw e (h (i + 1) (omega arith))) in
    and_from _ _ here rest

-- a range with a byte that may not be used
pub each_false : (access : Access) (rights : List Rights) (a n i : ℕ) → i < n → allows_at access rights (a + i) ≡ false → allows_range access rights a n ≡ false
unfolding allows_range
each_false access rights a zero i l h = absurd (omega arith)
each_false access rights a (suc n) zero l h =
    let e : a + 0 ≡ a = omega arith in and_left _ _ (rw e at h)
each_false access rights a (suc n) (suc i) l h =
    let e : a + suc i ≡ (a + 1) + i = omega arith in
    and_right _ _ (each_false access rights (a + 1) n i (omega arith) (rw e at h))

-- each byte of a range that may be used
pub each_of : (access : Access) (rights : List Rights) (a n : ℕ) → allows_range access rights a n ≡ true → (i : ℕ) → i < n → allows_at access rights (a + i) ≡ true
each_of access rights a n may i l = by_byte (allows_at access rights (a + i)) refl
  where
    by_byte : (b : Bool) → allows_at access rights (a + i) ≡ b → allows_at access rights (a + i) ≡ true
    by_byte true e = e
    by_byte false e = absurd (cc (each_false access rights a n i l e, may))

-- two bytes of one page
pub may_same : (access : Access) (rights : List Rights) (a b : ℕ) → a / 4096 ≡ b / 4096 → allows_at access rights a ≡ allows_at access rights b
may_same access rights a b h =
    let e : (a - 65536) / 4096 ≡ (b - 65536) / 4096 = omega arith in
    let low : leb 65536 a ≡ leb 65536 b = grind (arith, nat_tests) in
    let high : ltb a 1114112 ≡ ltb b 1114112 = grind (arith, nat_tests) in
    rw (e, low, high) refl

-- the number of bytes of a load or a store
abbrev pub is_size : ℕ → Bool
is_size n = eqb n 1 || eqb n 2 || eqb n 4

-- an aligned range of one, two or four bytes lies in one page
aligned_in_page : (n a i : ℕ) → IsTrue (is_size n) → a % n ≡ 0 → i < n → a / 4096 ≡ (a + i) / 4096
aligned_in_page n a i s h l = grind (arith, nat_tests)

-- so its first byte decides for all
by_first : (access : Access) (rights : List Rights) (a n : ℕ) (b : Bool) → IsTrue (is_size n) → a % n ≡ 0 → allows_at access rights a ≡ b → allows_range access rights a n ≡ b
by_first access rights a n true s h e =
    each_true access rights a n (λ i l. sym (may_same access rights a (a + i) (aligned_in_page n a i s h l)) ∙ e)
by_first access rights a n false s h e =
    let z : a + 0 ≡ a = omega arith in
    let p : 0 < n = grind (arith, nat_tests) in
    each_false access rights a n 0 p (rw z e)

pub each_aligned : (access : Access) (rights : List Rights) (a n : ℕ) → IsTrue (is_size n) → a % n ≡ 0 → allows_range access rights a n ≡ allows_at access rights a
each_aligned access rights a n s h = by_first access rights a n (allows_at access rights a) s h refl

-- a byte outside memory
outside : (access : Access) (rights : List Rights) (a : ℕ) → (a < 65536) ⊎ (1114112 ≤ a) → allows_at access rights a ≡ false
outside access rights a (inl h) =
    let e : leb 65536 a ≡ false = grind (arith, nat_tests) in and_left _ _ (and_left _ _ e)
outside access rights a (inr h) =
    let e : ltb a 1114112 ≡ false = grind (arith, nat_tests) in and_left _ _ (and_right _ _ e)

-- a byte of memory whose page has the right
pub inside : (access : Access) (rights : List Rights) (a : ℕ) → 65536 ≤ a → a < 1114112 → allows access (get_or rights ((a - 65536) / 4096) no_rights) ≡ true → allows_at access rights a ≡ true
inside access rights a low high h =
    let e : leb 65536 a ≡ true = grind (arith, nat_tests) in
    let f : ltb a 1114112 ≡ true = grind (arith, nat_tests) in
    and_from _ _ (and_from _ _ e f) h

-- a range with its first byte below memory
pub each_below : (access : Access) (rights : List Rights) (a n : ℕ) → 0 < n → a < 65536 → allows_range access rights a n ≡ false
each_below access rights a n l h =
    let z : a + 0 ≡ a = omega arith in
    each_false access rights a n 0 l (rw z (outside access rights a (inl h)))

-- a range with its last byte past memory
pub each_past : (access : Access) (rights : List Rights) (a n : ℕ) → 0 < n → 1114112 < a + n → allows_range access rights a n ≡ false
each_past access rights a n l h =
    each_false access rights a n (n - 1) (omega arith) (outside access rights (a + (n - 1)) (inr (omega arith)))

-- a range of which each page may be used
pub each_pages : (access : Access) (rights : List Rights) (a n : ℕ) → 65536 ≤ a → a + n ≤ 1114112 → ((k : ℕ) → (a - 65536) / 4096 ≤ k → k ≤ (a - 65536 + (n - 1)) / 4096 → allows access (get_or rights k no_rights) ≡ true) → allows_range access rights a n ≡ true
each_pages access rights a n low high h =
    each_true access rights a n (λ i l. inside access rights (a + i) (omega arith) (omega arith) (h ((a + i - 65536) / 4096) (omega arith) (omega arith)))

-- a range with a page that may not be used
pub each_page_without : (access : Access) (rights : List Rights) (a n k : ℕ) → 0 < n → 65536 ≤ a → (a - 65536) / 4096 ≤ k → k ≤ (a - 65536 + (n - 1)) / 4096 → allows access (get_or rights k no_rights) ≡ false → allows_range access rights a n ≡ false
each_page_without access rights a n k l low first last h =
    let i = max a (65536 + 4096 * k) - a in
    let e : (a + i - 65536) / 4096 ≡ k = omega arith in
    each_false access rights a n i (omega arith) (and_right (is_address (a + i)) _ (rw e h))

-- an aligned number, by its place in memory
pub by_place : (access : Access) (rights : List Rights) (a n at : ℕ) → IsTrue (is_size n) → a < 2 ^ 32 → at ≡ (a + 4294901760) % 2 ^ 32 → a % n ≡ 0 → allows_range access rights a n ≡ is_open access rights at n
by_place access rights a n at size small is even = elim (dec_lt at 1048576) [
  | yes inside ↦
      let same : at ≡ a - 65536 = omega arith in
      let low : leb 65536 a ≡ true = grind (arith, nat_tests) in
      let high : ltb a 1114112 ≡ true = grind (arith, nat_tests) in
      let fits : ltb at 1048576 ≡ true = grind (arith, nat_tests) in
      let whole : at % n ≡ 0 = grind (arith, nat_tests) in
      each_aligned access rights a n size even ∙ rw (low, high, fits, whole, same) refl
  | no out ↦
      let past : ltb at 1048576 ≡ false = grind (arith, nat_tests) in
      each_aligned access rights a n size even ∙ elim (dec_lt a 65536) [
        | yes below ↦ outside access rights a (inl below) ∙ rw past refl
        | no above ↦ outside access rights a (inr (omega arith)) ∙ rw past refl
      ]
]

-- a place that is a multiple of the size has such an address
pub place_even : (a n at : ℕ) → IsTrue (is_size n) → a < 2 ^ 32 → at ≡ (a + 4294901760) % 2 ^ 32 → at % n ≡ 0 → a % n ≡ 0
place_even a n at size small is even = grind (arith, nat_tests)
