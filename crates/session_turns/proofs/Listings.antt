-- What `list` gives, entry by entry.
use Rattle.std.proofs.Common.{◌≡◌, ◌+◌, ◌∷◌, ◌++◌, ℕ, suc, List, take, sym, ap, arith, ◌∙◌}
use Rattle.std.specs.List.{flat_map}
use Rattle.receipts.specs.Text.{store_line}

-- the line of the next entry, before the lines of the rest
pub next_listed : (e : List ℕ × List ℕ) (rest all : List (List ℕ × List ℕ)) (left n : ℕ) → n + 1 ≡ left → all ≡ e ∷ rest
    → store_line e ++ flat_map store_line (take n rest) ≡ flat_map store_line (take left all)
next_listed e rest all left n count step =
    let one_more : suc n ≡ left = omega arith in
    ap (λ (m : ℕ). flat_map store_line (take m (e ∷ rest))) one_more ∙ ap (λ (es : List (List ℕ × List ℕ)). flat_map store_line (take left es)) (sym step)
