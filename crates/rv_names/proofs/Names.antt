-- Tables of names.
use Rattle.std.proofs.Common.{◌≡◌, ℕ, zero, suc, ◌<◌, List, [], ◌∷◌, length, get_or, map, arith, refl, Bor}

-- what a borrowed name says is in the table of what they say
pub now_at : (names : List (Bor (List ℕ))) (i : ℕ) (d : Bor (List ℕ)) → i < length names → (get_or names i d).now ≡ get_or (map (λ n. n.now) names) i []
now_at [] i d h = absurd (omega arith)
now_at (name ∷ names) zero d h = refl
now_at (name ∷ names) (suc i) d h = now_at names i d (omega arith)
