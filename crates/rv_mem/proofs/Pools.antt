-- Bytes that an index takes from pages, and what one more page or a write makes of them.
use Rattle.std.proofs.Common.{◌≡◌, ◌≢◌, ℕ, suc, ◌+◌, ◌/◌, ◌%◌, ◌<◌, ◌≤◌, List, [], ◌∷◌, ◌++◌, length, get_or, set, map, All, inl, inr, refl, sym, ap, ◌∙◌, arith}
use Rattle.std.specs.Prelude.{flat_map}
use Rattle.std.proofs.lemmas.Bool.{cases_eq}
use Rattle.std.proofs.lemmas.List.{get_or_append_left, get_or_push, get_or-set_same, get_or-set_other, get_or-map, get_or_default, length-set, length-map}
use Rattle.std.proofs.lemmas.List.Elements.{All-map}
use Rattle.std.proofs.lemmas.List.Folds.{flat_map-map}
use Rattle.elf32.specs.Pages.{overwritten_at, page_at, ArePages}
use Rattle.rv_mem.proofs.Flat.{write_one}

-- two lists of the same bytes, one by one
pub same_flat : {X Y : Type 0} (f : X → List ℕ) (g : Y → List ℕ) (xs : List X) (ys : List Y) → length xs ≡ length ys → ((i : ℕ) (d : X) (e : Y) → i < length xs → f (get_or xs i d) ≡ g (get_or ys i e)) → flat_map f xs ≡ flat_map g ys
same_flat f g [] [] h each = refl
same_flat f g [] (y ∷ ys) h each = absurd (omega arith)
same_flat f g (x ∷ xs) [] h each = absurd (omega arith)
same_flat f g (x ∷ xs) (y ∷ ys) h each =
    ap (λ (l : List ℕ). l ++ flat_map f xs) (each 0 x y (omega arith))
    ∙ ap (λ (l : List ℕ). g y ++ l) (same_flat f g xs ys (omega arith) (λ i d e b. each (suc i) d e (omega arith)))

-- the pages that an index gives
pub sized : (all : List (List ℕ)) (index : List ℕ) → ArePages (λ q. q) all → All (λ k. k < length all) index → ArePages (page_at all) index
sized all index sizes places = λ k d b. sizes (get_or index k d) [] (places k d b)

-- a page that is copied to the end
module _ (all : List (List ℕ)) (index : List ℕ) (page : ℕ) (places : All (λ k. k < length all) index) (below : page < length index) where
  pub copied_bytes : flat_map (page_at (all ++ page_at all (get_or index page 0) ∷ [])) (set index page (length all)) ≡ flat_map (page_at all) index
  copied_bytes =
      let p = page_at all (get_or index page 0) in
      same_flat (page_at (all ++ p ∷ [])) (page_at all) (set index page (length all)) index (length-set index page (length all)) (λ i d e b.
      elim (cases_eq i page) [
        | inl here ↦
            ap (λ (j : ℕ). page_at (all ++ p ∷ []) (get_or (set index page (length all)) j d)) here
            ∙ ap (page_at (all ++ p ∷ [])) (get_or-set_same index page (length all) d below)
            ∙ get_or_push all p [] (length all) refl
            ∙ ap (page_at all) (get_or_default index page 0 e below ∙ ap (λ (j : ℕ). get_or index j e) (sym here))
        | inr other ↦
            let inside : i < length index = omega (arith, length-set index page (length all)) in
            ap (page_at (all ++ p ∷ [])) (get_or-set_other index page i (length all) d other ∙ get_or_default index i d e inside)
            ∙ get_or_append_left all (p ∷ []) [] (get_or index i e) (places i e inside)
      ])

-- a write to a page that the index gives once
module _ (all : List (List ℕ)) (index new p : List ℕ) (at place : ℕ) where
  pub put_bytes : ArePages (λ q. q) all → length index ≡ 256 → All (λ k. k < length all) index → at < 1048576 → get_or index (at / 4096) 0 ≡ place → ((j : ℕ) → j < 256 → get_or index j 0 ≡ place → j ≡ at / 4096) → at % 4096 + length new ≤ 4096 → p ≡ overwritten_at (page_at all place) (at % 4096) new → flat_map (page_at (set all place p)) index ≡ overwritten_at (flat_map (page_at all) index) at new
  put_bytes sizes len places first here alone room is =
      let number = at / 4096 in
      let pages = map (page_at all) index in
      let count : length pages ≡ length index = length-map index (page_at all) in
      let low : place < length all = omega (arith, places number 0 (omega arith)) in
      let read : (i : ℕ) (d : List ℕ) → i < 256 → get_or pages i d ≡ page_at all (get_or index i 0) = λ i d b. get_or-map (page_at all) index i 0 d (omega arith) in
      same_flat (page_at (set all place p)) (λ (q : List ℕ). q) index (set pages number p) (sym (length-set pages number p ∙ count)) (λ i d e b.
      let inside : i < 256 = omega arith in
      let at_zero = get_or_default index i d 0 b in
      elim (cases_eq i number) [
        | inl same ↦
            ap (page_at (set all place p)) (at_zero ∙ ap (λ (j : ℕ). get_or index j 0) same ∙ here)
            ∙ get_or-set_same all place p [] low
            ∙ sym (ap (λ (j : ℕ). get_or (set pages number p) j e) same ∙ get_or-set_same pages number p e (omega arith))
        | inr other ↦
            let apart : get_or index i 0 ≢ place = λ same. other (alone i inside same) in
            ap (page_at (set all place p)) at_zero
            ∙ get_or-set_other all place (get_or index i 0) p [] apart
            ∙ sym (get_or-set_other pages number i p e other ∙ read i e inside)
      ])
      ∙ write_one (λ (q : List ℕ). q) pages new at number p [] (All-map (λ q. length q ≡ 4096) (page_at all) index (sized all index sizes places)) refl (omega arith) room (is ∙ sym (ap (λ (l : List ℕ). overwritten_at l (at % 4096) new) (read number [] (omega arith) ∙ ap (page_at all) here)))
      ∙ ap (λ (l : List ℕ). overwritten_at l at new) (flat_map-map (λ (q : List ℕ). q) (page_at all) index)
