-- Where texts are cut: at the first byte that passes a test, and at the blanks at their ends.
use Rattle.std.proofs.Common.{◌≡◌, ℕ, zero, suc, ◌+◌, ◌-◌, ◌<◌, Bool, true, false, ◌||◌, List, [], ◌∷◌, ◌++◌, length, take, drop, get_or, arith, refl, ap, ◌∙◌, length-append, add-one}
use Rattle.std.proofs.Math.Seq.{take-length, take-append_seam, drop-append-add, get_or-append_right}
use Rattle.std.proofs.lemmas.List.Folds.{list_any-append}
use Rattle.std.proofs.lemmas.List.Sums.{suffix_len_is}
use Rattle.std.specs.List.{list_any, suffix_len, position_or_len, before_first, after_first}
use Rattle.rv_names.specs.Operands.{is_blank, trimmed, without_blanks_before}

pub neither : (a b : Bool) → a || b ≡ false → (a ≡ false) × (b ≡ false)
neither true b h = cc
neither false b h = (refl, h)

-- if no byte passes a test, none passes a stronger one
pub none_of_stronger : (p q : ℕ → Bool) → ((b : ℕ) → p b ≡ false → q b ≡ false) → (text : List ℕ) → list_any p text ≡ false → list_any q text ≡ false
none_of_stronger p q weaker [] h = refl
none_of_stronger p q weaker (b ∷ text) h =
    let f = neither (p b) _ h in
    rw (weaker b f.0) (none_of_stronger p q weaker text f.1)

-- no byte of two texts passes
pub none_of_both : (p : ℕ → Bool) (xs ys : List ℕ) → list_any p xs ≡ false → list_any p ys ≡ false → list_any p (xs ++ ys) ≡ false
none_of_both p xs ys a b = rw (list_any-append p xs ys, a) b

-- one byte passes
pub some_passes : (p : ℕ → Bool) (xs : List ℕ) (y : ℕ) (ys : List ℕ) → p y ≡ true → list_any p (xs ++ y ∷ ys) ≡ true
some_passes p [] y ys h = rw h refl
some_passes p (x ∷ xs) y ys h = go (p x) (some_passes p xs y ys h)
  where
    go : (b : Bool) {c : Bool} → c ≡ true → b || c ≡ true
    go true e = refl
    go false e = e

place_whole : (p : ℕ → Bool) (xs : List ℕ) → list_any p xs ≡ false → position_or_len p xs ≡ length xs
place_whole p [] h = refl
place_whole p (x ∷ xs) h = let f = neither (p x) _ h in rw f.0 (omega (arith, place_whole p xs f.1))

place_at : (p : ℕ → Bool) (xs : List ℕ) (y : ℕ) (ys : List ℕ) → list_any p xs ≡ false → p y ≡ true → position_or_len p (xs ++ y ∷ ys) ≡ length xs
place_at p [] y ys h e = rw e refl
place_at p (x ∷ xs) y ys h e = let f = neither (p x) _ h in rw f.0 (omega (arith, place_at p xs y ys f.1 e))

-- no byte passes: the whole text is before the cut
pub before_whole : (p : ℕ → Bool) (xs : List ℕ) → list_any p xs ≡ false → before_first p xs ≡ xs
before_whole p xs h = ap (λ n. take n xs) (place_whole p xs h) ∙ take-length xs

-- the first byte that passes ends the part before the cut
pub before_at : (p : ℕ → Bool) (xs : List ℕ) (y : ℕ) (ys : List ℕ) → list_any p xs ≡ false → p y ≡ true → before_first p (xs ++ y ∷ ys) ≡ xs
before_at p xs y ys h e = ap (λ n. take n (xs ++ y ∷ ys)) (place_at p xs y ys h e) ∙ take-append_seam xs (y ∷ ys)

pub after_at : (p : ℕ → Bool) (xs : List ℕ) (y : ℕ) (ys : List ℕ) → list_any p xs ≡ false → p y ≡ true → after_first p (xs ++ y ∷ ys) ≡ ys
after_at p xs y ys h e = ap (λ n. drop (n + 1) (xs ++ y ∷ ys)) (place_at p xs y ys h e) ∙ drop-append-add xs (y ∷ ys) 1

-- no byte passes: nothing is after the cut
pub after_none : (p : ℕ → Bool) (xs : List ℕ) → list_any p xs ≡ false → after_first p xs ≡ []
after_none p xs h = ap (λ n. drop (n + 1) xs) (place_whole p xs h) ∙ rw add-one (past xs)
  where
    past : (xs : List ℕ) → drop (suc (length xs)) xs ≡ []
    past [] = refl
    past (x ∷ xs) = past xs

fails_at : (p : ℕ → Bool) (xs : List ℕ) (i : ℕ) → i < length xs → list_any p xs ≡ false → p (get_or xs i 0) ≡ false
fails_at p [] i l h = absurd (omega arith)
fails_at p (x ∷ xs) zero l h = (neither (p x) _ h).0
fails_at p (x ∷ xs) (suc i) l h = fails_at p xs i (omega arith) ((neither (p x) _ h).1)

-- no blank at the end
no_suffix : (xs ys : List ℕ) → 0 < length ys → list_any is_blank ys ≡ false → suffix_len is_blank (xs ++ ys) ≡ 0
no_suffix xs ys some h =
    let whole = length-append xs ys in
    let n = length (xs ++ ys) in
    let last : is_blank (get_or (xs ++ ys) (n - 1) 0) ≡ false =
    rw (get_or-append_right xs ys (n - 1) 0 (omega arith)) (fails_at is_blank ys (n - 1 - length xs) (omega arith) h)
    in
    omega (arith, suffix_len_is is_blank (xs ++ ys) n 0 (omega arith) (λ k a b. absurd (omega arith)) (λ _. last))

whole : (text : List ℕ) (n : ℕ) → n ≡ 0 → take (length text - n) text ≡ text
whole text n e = let l : length text - n ≡ length text = omega arith in rw l (take-length text)

-- a text that begins and ends with other bytes
pub trimmed_whole : (x : ℕ) (xs ys : List ℕ) → is_blank x ≡ false → 0 < length ys → list_any is_blank ys ≡ false → trimmed (x ∷ xs ++ ys) ≡ x ∷ xs ++ ys
unfolding trimmed
trimmed_whole x xs ys first some h =
    let front : without_blanks_before (x ∷ xs ++ ys) ≡ x ∷ xs ++ ys = rw first refl in
    rw front (whole (x ∷ xs ++ ys) _ (no_suffix (x ∷ xs) ys some h))

-- a text without blanks
pub trimmed_atom : (text : List ℕ) → list_any is_blank text ≡ false → trimmed text ≡ text
unfolding trimmed
trimmed_atom [] h = refl
trimmed_atom (x ∷ xs) h =
    let front : without_blanks_before (x ∷ xs) ≡ x ∷ xs = rw ((neither (is_blank x) _ h).0) refl in
    rw front (whole (x ∷ xs) _ (no_suffix [] (x ∷ xs) (omega arith) h))
