-- The words of the statements of text.
use Rattle.std.proofs.Common.{◌≡◌, refl, ◌<◌, ◌≤◌, ◌+◌, ◌⊎◌, inl, inr, ℕ, List, [], ◌∷◌, ◌++◌, append_assoc, length, drop, map, get_or, Result, Ok, Err, drop_of_length-le, append-nil, ap, ◌∙◌, sym, arith}
use Rattle.std.specs.Result.{result_map_both}
use Rattle.std.proofs.lemmas.List.{length-map}
use Rattle.rv_text.specs.declared.fault.AsmCause.{AsmCause}
use Rattle.rv_text.specs.declared.fault.AsmCause.TheVariants.{Memory}
use Rattle.rv_text.specs.declared.fault.AsmError.{AsmError}
use Rattle.rv_text.specs.declared.item.Item as code
use Rattle.rv_text.specs.Assembly.{Item, Labels, on_line, words_of_item, item_words}
use Rattle.rv_text.specs.Shown.{shown_item}
use Rattle.rv_text.proofs.Mapped.{drop-mapped}

-- the words that are given, with some words put before them
abbrev pub behind : {E : Type 0} → List ℕ → Result (List ℕ) E → Result (List ℕ) E
behind front r = result_map_both (λ words. front ++ words) (λ fault. fault) r

no_more : (labels : Labels) → item_words labels [] ≡ Ok []
unfolding item_words
no_more labels = refl

one_more : (labels : Labels) (item : Item) (items : List Item) → item_words labels (item ∷ items) ≡ on_line item.line (words_of_item labels item) (λ words. behind words (item_words labels items))
unfolding item_words
one_more labels item items = refl

both_behind : {E : Type 0} (a b : List ℕ) (r : Result (List ℕ) E) → behind a (behind b r) ≡ behind (a ++ b) r
both_behind a b (Ok words) = ap Ok (sym (append_assoc a b words))
both_behind a b (Err fault) = refl

-- a statement after some words, and the statements after it
next_words : (n : ℕ) (front : List ℕ) (r : Result (List ℕ) AsmCause) (rest : Result (List ℕ) AsmError) → behind front (on_line n r (λ words. behind words rest)) ≡ on_line n (behind front r) (λ words. behind words rest)
next_words n front (Ok words) rest = both_behind front words rest
next_words n front (Err cause) rest = refl

at_index : (labels : Labels) (front : List ℕ) (r : Result (List ℕ) AsmCause) (items : List code.Item) (i : ℕ) (item : code.Item) → i < length items → item ≡ get_or items i item → behind front (words_of_item labels (shown_item item)) ≡ r
    → behind front (item_words labels (drop i (map shown_item items))) ≡ on_line item.line r (λ words. behind words (item_words labels (drop (i + 1) (map shown_item items))))
at_index labels front r items i item lt is e =
    let rest = item_words labels (drop (i + 1) (map shown_item items)) in
    ap (λ left. behind front (item_words labels left)) (drop-mapped shown_item items i item lt ∙ ap (λ x. shown_item x ∷ drop (i + 1) (map shown_item items)) (sym is))
    ∙ ap (behind front) (one_more labels (shown_item item) (drop (i + 1) (map shown_item items)))
    ∙ next_words item.line front (words_of_item labels (shown_item item)) rest
    ∙ ap (λ s. on_line item.line s (λ words. behind words rest)) e

-- the steps of a loop over the statements; `wanted` is what all of them give

pub taken : (labels : Labels) (front words : List ℕ) (items : List code.Item) (i : ℕ) (item : code.Item) (wanted : Result (List ℕ) AsmError) → i < length items → item ≡ get_or items i item
    → behind front (words_of_item labels (shown_item item)) ≡ Ok words
    → behind front (item_words labels (drop i (map shown_item items))) ≡ wanted → behind words (item_words labels (drop (i + 1) (map shown_item items))) ≡ wanted
taken labels front words items i item wanted lt is e h = sym (at_index labels front (Ok words) items i item lt is e) ∙ h

pub refused : (labels : Labels) (front : List ℕ) (cause : AsmCause) (items : List code.Item) (i : ℕ) (item : code.Item) (wanted : Result (List ℕ) AsmError) → i < length items → item ≡ get_or items i item
    → (cause ≡ Memory) ⊎ (behind front (words_of_item labels (shown_item item)) ≡ Err cause)
    → behind front (item_words labels (drop i (map shown_item items))) ≡ wanted → (cause ≡ Memory) ⊎ (wanted ≡ Err (record { line = item.line; cause = cause }))
refused labels front cause items i item wanted lt is (inl memory) h = inl memory
refused labels front cause items i item wanted lt is (inr e) h = inr (sym h ∙ at_index labels front (Err cause) items i item lt is e)

pub ended : (labels : Labels) (front : List ℕ) (items : List code.Item) (i : ℕ) (wanted : Result (List ℕ) AsmError) → length items ≤ i → behind front (item_words labels (drop i (map shown_item items))) ≡ wanted → wanted ≡ Ok front
ended labels front items i wanted none h =
    sym h
    ∙ ap (λ left. behind front (item_words labels left)) (drop_of_length-le (map shown_item items) (omega (arith, length-map items shown_item)))
    ∙ ap (behind front) (no_more labels) ∙ ap Ok (append-nil front)
