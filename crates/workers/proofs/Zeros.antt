-- The shares of workers that did nothing yet.
use Rattle.std.proofs.Common.{◌≡◌, ◌+◌, ℕ, zero, List, [], ◌∷◌, ◌++◌, map, add-one, ap, refl, sym, ◌∙◌}
use Rattle.std.proofs.lemmas.List.{map-append}
use Rattle.workers.specs.declared.book.share.Share.{Share}
use Rattle.workers.specs.Book.{ShareCounts, counts_of_share, zero_counts, zero_counts_of_all}

pub no_shares : zero_counts_of_all zero ≡ []
unfolding zero_counts_of_all
no_shares = refl

pub one_zero_more : (n : ℕ) → zero_counts_of_all (n + 1) ≡ zero_counts_of_all n ++ zero_counts n ∷ []
unfolding zero_counts_of_all
one_zero_more n = ap zero_counts_of_all (add-one n)

-- a share more, of the next worker
pub one_share_more : (n : ℕ) (shares : List Share) (share : Share) → map counts_of_share shares ≡ zero_counts_of_all n → counts_of_share share ≡ zero_counts n
    → map counts_of_share (shares ++ share ∷ []) ≡ zero_counts_of_all (n + 1)
one_share_more n shares share before new =
    map-append counts_of_share shares (share ∷ []) ∙ ap (λ (told : List ShareCounts). told ++ counts_of_share share ∷ []) before
    ∙ ap (λ (told : ShareCounts). zero_counts_of_all n ++ told ∷ []) new ∙ sym (one_zero_more n)
