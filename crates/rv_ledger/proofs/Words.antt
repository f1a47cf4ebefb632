-- Lists of bytes are ordered as the numbers of their first bytes are, and if these are equal as the rest is.
use Rattle.std.proofs.Common.{◌≡◌, ℕ, zero, suc, ◌+◌, ◌*◌, ◌^◌, ◌<◌, ◌≤◌, List, [], ◌∷◌, length, drop, get_or, refl, sym, ap, ◌∙◌, arith, length-drop, Ordering, Less, Equal, Greater}
use Rattle.std.specs.Prelude.{slice_index}
use Rattle.std.specs.Cmp.{nat_cmp_is, ranks}
use Rattle.std.specs.Cmp.Lexicographic.{slice_cmp}
use Rattle.std.specs.Ordering.{MatchOrdering, nat_cmp, ordering_then}
use Rattle.std.proofs.Math.Nat.{add-mul, mul-le-mul_right, pow-succ'}
use Rattle.std.proofs.lemmas.List.{get_or-drop, drop-drop}
use Rattle.byteorder.specs.Endian.{big_from}

-- ---- numbers of digits

moved : (c a b : ℕ) (r : Ordering) → MatchOrdering r (a < b) (a ≡ b) (b < a) → MatchOrdering r (c + a < c + b) (c + a ≡ c + b) (c + b < c + a)
moved c a b Less h = omega arith
moved c a b Equal h = ap (λ n. c + n) h
moved c a b Greater h = omega arith

-- the same digit in front changes no comparison
same_front : (c a b : ℕ) → nat_cmp (c + a) (c + b) ≡ nat_cmp a b
same_front c a b = sym (nat_cmp_is (c + a) (c + b) (nat_cmp a b) (moved c a b (nat_cmp a b) (ranks a b)))

-- a lower digit in front makes a lower number
lower : (x y p a b : ℕ) → a < p → x < y → x * p + a < y * p + b
lower x y p a b small less =
    let one : (1 + x) * p ≤ y * p = mul-le-mul_right p (omega arith) in
    let split : (1 + x) * p ≡ 1 * p + x * p = add-mul 1 x p in
    omega arith

digits : (x y p a b : ℕ) → a < p → b < p → (r : Ordering) → MatchOrdering r (x < y) (x ≡ y) (y < x) → nat_cmp (x * p + a) (y * p + b) ≡ ordering_then r (nat_cmp a b)
digits x y p a b la lb Less h = sym (nat_cmp_is (x * p + a) (y * p + b) Less (lower x y p a b la h))
digits x y p a b la lb Equal h = ap (λ n. nat_cmp (x * p + a) (n * p + b)) (sym h) ∙ same_front (x * p) a b
digits x y p a b la lb Greater h = sym (nat_cmp_is (x * p + a) (y * p + b) Greater (lower y x p b a lb h))

-- ---- numbers of bytes

abbrev pub AreBytes : List ℕ → Type 0
AreBytes xs = (i : ℕ) → get_or xs i 0 < 256

-- the number of the bytes after the first
behind : (n i x : ℕ) (xs : List ℕ) → big_from (suc i) n (x ∷ xs) ≡ big_from i n xs
behind zero i x xs = refl
behind (suc n) i x xs = ap (λ rest. slice_index xs i * 256 ^ n + rest) (behind n (suc i) x xs)

below : (n : ℕ) (xs : List ℕ) → AreBytes xs → n ≤ length xs → big_from 0 n xs < 256 ^ n
below zero xs h l = omega arith
below (suc n) [] h l = absurd (omega arith)
below (suc n) (x ∷ xs) h l =
    let rest : big_from 1 n (x ∷ xs) < 256 ^ n = rw (behind n 0 x xs) (below n xs (λ i. h (suc i)) (omega arith)) in
    let first : x < 256 = h 0 in
    let most : x * 256 ^ n ≤ 255 * 256 ^ n = mul-le-mul_right (256 ^ n) (omega arith) in
    let power : 256 ^ suc n ≡ 256 * 256 ^ n = pow-succ' 256 n in
    omega arith

then_then : (a b c : Ordering) → ordering_then (ordering_then a b) c ≡ ordering_then a (ordering_then b c)
then_then Less b c = refl
then_then Equal b c = refl
then_then Greater b c = refl

-- the numbers of the first n bytes decide, and if they are equal the bytes after them
pub by_number : (n : ℕ) (xs ys : List ℕ) → AreBytes xs → AreBytes ys → n ≤ length xs → n ≤ length ys → slice_cmp nat_cmp xs ys ≡ ordering_then (nat_cmp (big_from 0 n xs) (big_from 0 n ys)) (slice_cmp nat_cmp (drop n xs) (drop n ys))
by_number zero xs ys hx hy lx ly = refl
by_number (suc n) [] ys hx hy lx ly = absurd (omega arith)
by_number (suc n) (x ∷ xs) [] hx hy lx ly = absurd (omega arith)
by_number (suc n) (x ∷ xs) (y ∷ ys) hx hy lx ly =
    let tx : AreBytes xs = λ i. hx (suc i) in
    let ty : AreBytes ys = λ i. hy (suc i) in
    let kx : n ≤ length xs = omega arith in
    let ky : n ≤ length ys = omega arith in
    let rest = slice_cmp nat_cmp (drop n xs) (drop n ys) in
    let order = digits x y (256 ^ n) (big_from 0 n xs) (big_from 0 n ys) (below n xs tx kx) (below n ys ty ky) (nat_cmp x y) (ranks x y) in
    ap (ordering_then (nat_cmp x y)) (by_number n xs ys tx ty kx ky)
    ∙ sym (then_then (nat_cmp x y) (nat_cmp (big_from 0 n xs) (big_from 0 n ys)) rest)
    ∙ ap (λ o. ordering_then o rest) (sym order ∙ ap (λ a. nat_cmp (x * 256 ^ n + a) (y * 256 ^ n + big_from 0 n ys)) (sym (behind n 0 x xs)) ∙ ap (λ b. nat_cmp (x * 256 ^ n + big_from 1 n (x ∷ xs)) (y * 256 ^ n + b)) (sym (behind n 0 y ys)))

-- the bytes from a position on
bytes_behind : (n : ℕ) (xs : List ℕ) → AreBytes xs → AreBytes (drop n xs)
bytes_behind n xs h i = rw (get_or-drop n xs i 0) (h (n + i))

-- eight bytes decide, and if their numbers are equal the bytes after them
pub by_word : (k : ℕ) (xs ys : List ℕ) → AreBytes xs → AreBytes ys → length xs ≡ 32 → length ys ≡ 32 → k < 4 → slice_cmp nat_cmp (drop (k * 8) xs) (drop (k * 8) ys) ≡ ordering_then (nat_cmp (big_from 0 8 (drop (k * 8) xs)) (big_from 0 8 (drop (k * 8) ys))) (slice_cmp nat_cmp (drop ((k + 1) * 8) xs) (drop ((k + 1) * 8) ys))
by_word k xs ys hx hy lx ly l =
    let kx : 8 ≤ length (drop (k * 8) xs) = omega (arith, length-drop (k * 8) xs) in
    let ky : 8 ≤ length (drop (k * 8) ys) = omega (arith, length-drop (k * 8) ys) in
    let next : k * 8 + 8 ≡ (k + 1) * 8 = omega arith in
    let after_x : drop 8 (drop (k * 8) xs) ≡ drop ((k + 1) * 8) xs = drop-drop 8 (k * 8) xs ∙ ap (λ n. drop n xs) next in
    let after_y : drop 8 (drop (k * 8) ys) ≡ drop ((k + 1) * 8) ys = drop-drop 8 (k * 8) ys ∙ ap (λ n. drop n ys) next in
    by_number 8 (drop (k * 8) xs) (drop (k * 8) ys) (bytes_behind (k * 8) xs hx) (bytes_behind (k * 8) ys hy) kx ky
    ∙ ap (ordering_then (nat_cmp (big_from 0 8 (drop (k * 8) xs)) (big_from 0 8 (drop (k * 8) ys))))
    (ap (λ rest. slice_cmp nat_cmp rest (drop 8 (drop (k * 8) ys))) after_x ∙ ap (slice_cmp nat_cmp (drop ((k + 1) * 8) xs)) after_y)

-- numbers that differ decide
pub then_unequal : (a b : ℕ) (rest : Ordering) → (a ≡ b → ⊥) → ordering_then (nat_cmp a b) rest ≡ nat_cmp a b
then_unequal a b rest h = decided (nat_cmp a b) (ranks a b)
  where
    decided : (r : Ordering) → MatchOrdering r (a < b) (a ≡ b) (b < a) → ordering_then r rest ≡ r
    decided Less l = refl
    decided Equal e = absurd (h e)
    decided Greater l = refl

-- numbers that are equal leave it to the rest
pub then_equal : (a b : ℕ) (rest : Ordering) → a ≡ b → ordering_then (nat_cmp a b) rest ≡ rest
then_equal a b rest h = ap (λ r. ordering_then r rest) (sym (nat_cmp_is a b Equal h))
