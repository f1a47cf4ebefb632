-- What is left of a mapped list after some of its items.
use Rattle.std.proofs.Common.{◌≡◌, ◌<◌, ◌+◌, ℕ, List, ◌∷◌, drop, map, get_or, suc, add-one, ap, ◌∙◌, sym, length}
use Rattle.std.proofs.lemmas.List.{drop-map}
use Rattle.std.proofs.Math.Seq.{drop-cons}

-- the item at an index, and those after it
pub drop-mapped : {A B : Type 0} (f : A → B) (xs : List A) (i : ℕ) (d : A) → i < length xs → drop i (map f xs) ≡ f (get_or xs i d) ∷ drop (i + 1) (map f xs)
drop-mapped f xs i d h =
    drop-map f i xs ∙ ap (map f) (drop-cons xs i d h)
    ∙ ap (λ rest. f (get_or xs i d) ∷ rest) (sym (drop-map f (suc i) xs) ∙ ap (λ k. drop k (map f xs)) (sym (add-one i)))
