-- The steps of a loop over the lines of a source; `wanted` is what all of them lay down.
use Rattle.std.proofs.Common.{◌≡◌, refl, ◌<◌, ◌+◌, ◌⊎◌, inl, inr, ℕ, List, ◌∷◌, drop, map, length, get_or, Bor, Result, Ok, Err, ◌≤◌, [], drop_of_length-le, arith, ap, ◌∙◌, sym}
use Rattle.std.proofs.lemmas.List.{length-map}
use Rattle.rv_text.specs.declared.fault.AsmCause.{AsmCause}
use Rattle.rv_text.specs.declared.fault.AsmCause.TheVariants.{Memory}
use Rattle.rv_text.specs.declared.fault.AsmError.{AsmError}
use Rattle.rv_text.specs.Assembly.{SourceLayout, on_line, with_source_line, layout_from}
use Rattle.rv_text.proofs.Mapped.{drop-mapped}

-- the texts that references point to
abbrev pub texts : List (Bor (List ℕ)) → List (List ℕ)
texts lines = map (λ line. line.now) lines

one_more : (n : ℕ) (text : List ℕ) (rest : List (List ℕ)) (l : SourceLayout) → layout_from n (text ∷ rest) l ≡ on_line n (with_source_line n text l) (λ m. layout_from (n + 1) rest m)
unfolding layout_from
one_more n text rest l = refl

at_index : (n : ℕ) (l : SourceLayout) (r : Result SourceLayout AsmCause) (lines : List (Bor (List ℕ))) (i : ℕ) (d : Bor (List ℕ)) → i < length lines → with_source_line n (get_or lines i d).now l ≡ r
    → layout_from n (drop i (texts lines)) l ≡ on_line n r (λ m. layout_from (n + 1) (drop (i + 1) (texts lines)) m)
at_index n l r lines i d lt e =
    ap (λ rest. layout_from n rest l) (drop-mapped (λ line. line.now) lines i d lt)
    ∙ one_more n (get_or lines i d).now (drop (i + 1) (texts lines)) l
    ∙ ap (λ s. on_line n s (λ m. layout_from (n + 1) (drop (i + 1) (texts lines)) m)) e

-- a line that was laid down
pub taken : (n : ℕ) (l m : SourceLayout) (lines : List (Bor (List ℕ))) (i : ℕ) (d : Bor (List ℕ)) (wanted : Result SourceLayout AsmError) → i < length lines → with_source_line n (get_or lines i d).now l ≡ Ok m
    → layout_from n (drop i (texts lines)) l ≡ wanted → layout_from (n + 1) (drop (i + 1) (texts lines)) m ≡ wanted
taken n l m lines i d wanted lt e h = sym (at_index n l (Ok m) lines i d lt e) ∙ h

-- a line that was refused
pub refused : (n : ℕ) (l : SourceLayout) (cause : AsmCause) (lines : List (Bor (List ℕ))) (i : ℕ) (d : Bor (List ℕ)) (wanted : Result SourceLayout AsmError) → i < length lines
    → (cause ≡ Memory) ⊎ (with_source_line n (get_or lines i d).now l ≡ Err cause)
    → layout_from n (drop i (texts lines)) l ≡ wanted → (cause ≡ Memory) ⊎ (wanted ≡ Err (record { line = n; cause = cause }))
refused n l cause lines i d wanted lt (inl memory) h = inl memory
refused n l cause lines i d wanted lt (inr e) h = inr (sym h ∙ at_index n l (Err cause) lines i d lt e)

no_more : (n : ℕ) (l : SourceLayout) → layout_from n [] l ≡ Ok l
unfolding layout_from
no_more n l = refl

-- no line is left
pub ended : (n : ℕ) (l : SourceLayout) (lines : List (Bor (List ℕ))) (i : ℕ) (wanted : Result SourceLayout AsmError) → length lines ≤ i → layout_from n (drop i (texts lines)) l ≡ wanted → wanted ≡ Ok l
ended n l lines i wanted none h = sym h ∙ ap (λ rest. layout_from n rest l) (drop_of_length-le (texts lines) (omega (arith, length-map lines (λ line. line.now)))) ∙ no_more n l
