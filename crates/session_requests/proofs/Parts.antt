-- A scan for a byte, place by place.
use Rattle.std.proofs.Common.{◌≡◌, ◌<◌, ◌≤◌, ◌+◌, ◌-◌, ◌==◌, ℕ, zero, suc, true, false, List, [], ◌∷◌, ◌++◌, length, take, drop, get_or, Option, Some, None, refl, sym, ap, ◌∙◌, arith, append_assoc, append-nil, add-one, drop-cons, drop_of_length-le, length-drop, take_all}
use Rattle.std.specs.Option.{option_map}
use Rattle.std.proofs.lemmas.List.{take_more}
use Rattle.session_requests.specs.Requests.{first_part, onto}

-- bytes before the first of two texts
abbrev pub before : List ℕ → List ℕ × List ℕ → List ℕ × List ℕ
before done found = (done ++ found.0, found.1)

pub no_front : (o : Option (List ℕ × List ℕ)) → o ≡ option_map (before []) o
no_front None = refl
no_front (Some found) = refl

front_more : (done : List ℕ) (b : ℕ) (o : Option (List ℕ × List ℕ)) → option_map (before done) (option_map (onto b) o) ≡ option_map (before (done ++ b ∷ [])) o
front_more done b None = refl
front_more done b (Some found) = ap (λ (t : List ℕ). Some (t, found.1)) (sym (append_assoc done (b ∷ []) found.0))

pub scan_on : (byte room : ℕ) (done : List ℕ) (b : ℕ) (rest : List ℕ) → (b == byte) ≡ false
    → option_map (before done) (first_part byte (suc room) (b ∷ rest)) ≡ option_map (before (done ++ b ∷ [])) (first_part byte room rest)
scan_on byte room done b rest e = rw e (front_more done b (first_part byte room rest))

pub scan_hit : (byte room : ℕ) (done : List ℕ) (b : ℕ) (rest : List ℕ) → (b == byte) ≡ true
    → option_map (before done) (first_part byte (suc room) (b ∷ rest)) ≡ Some (done, rest)
scan_hit byte room done b rest e = rw e (ap (λ (t : List ℕ). Some (t, rest)) (append-nil done))

pub scan_end : (byte room : ℕ) (done : List ℕ) → option_map (before done) (first_part byte room []) ≡ None
scan_end byte zero done = refl
scan_end byte (suc room) done = refl

-- the same over a text, if i bytes were seen of at most `limit`
abbrev pub SeenTo : ℕ → ℕ → List ℕ → ℕ → Type 0
SeenTo byte limit text i = first_part byte limit text ≡ option_map (before (take i text)) (first_part byte (limit - i) (drop i text))

one_less : (limit i : ℕ) → i < limit → limit - i ≡ suc (limit - (i + 1))
one_less limit i h = omega (arith, h)

nothing_less : (n : ℕ) → n - 0 ≡ n
nothing_less n = omega arith

pub seen_none : (byte limit : ℕ) (text : List ℕ) → SeenTo byte limit text 0
seen_none byte limit text = no_front (first_part byte limit text) ∙ ap (λ (n : ℕ). option_map (before []) (first_part byte n text)) (sym (nothing_less limit))

at_place : (text : List ℕ) (i : ℕ) → i < length text → drop i text ≡ get_or text i 0 ∷ drop (i + 1) text
at_place text i k = drop-cons text i 0 k ∙ ap (λ (n : ℕ). get_or text i 0 ∷ drop n text) (sym (add-one i))

unfolded : (byte limit : ℕ) (text : List ℕ) (i : ℕ) → i < limit → i < length text → first_part byte (limit - i) (drop i text) ≡ first_part byte (suc (limit - (i + 1))) (get_or text i 0 ∷ drop (i + 1) text)
unfolded byte limit text i h k = ap (λ (n : ℕ). first_part byte n (drop i text)) (one_less limit i h) ∙ ap (λ (t : List ℕ). first_part byte (suc (limit - (i + 1))) t) (at_place text i k)

pub seen_more : (byte limit : ℕ) (text : List ℕ) (i : ℕ) → i < limit → i < length text → SeenTo byte limit text i → (get_or text i 0 == byte) ≡ false → SeenTo byte limit text (i + 1)
seen_more byte limit text i h k seen e =
    seen ∙ ap (option_map (before (take i text))) (unfolded byte limit text i h k)
    ∙ scan_on byte (limit - (i + 1)) (take i text) (get_or text i 0) (drop (i + 1) text) e
    ∙ ap (λ (t : List ℕ). option_map (before t) (first_part byte (limit - (i + 1)) (drop (i + 1) text))) (sym (take_more text i 0 k))

pub seen_hit : (byte limit : ℕ) (text : List ℕ) (i : ℕ) → i < limit → i < length text → SeenTo byte limit text i → (get_or text i 0 == byte) ≡ true
    → first_part byte limit text ≡ Some (take i text, drop (i + 1) text)
seen_hit byte limit text i h k seen e =
    seen ∙ ap (option_map (before (take i text))) (unfolded byte limit text i h k)
    ∙ scan_hit byte (limit - (i + 1)) (take i text) (get_or text i 0) (drop (i + 1) text) e

pub seen_all : (byte limit : ℕ) (text : List ℕ) (i : ℕ) → length text ≤ i → SeenTo byte limit text i → first_part byte limit text ≡ None
seen_all byte limit text i h seen =
    seen ∙ ap (λ (t : List ℕ). option_map (before (take i text)) (first_part byte (limit - i) t)) (drop_of_length-le text {i = i} h) ∙ scan_end byte (limit - i) (take i text)

pub none_left : (byte n : ℕ) (done text : List ℕ) → n ≡ 0 → option_map (before done) (first_part byte n text) ≡ None
none_left byte zero done text h = refl
none_left byte (suc n) done text h = absurd (omega (arith, h))

pub seen_enough : (byte limit : ℕ) (text : List ℕ) (i : ℕ) → limit ≤ i → SeenTo byte limit text i → first_part byte limit text ≡ None
seen_enough byte limit text i h seen = seen ∙ none_left byte (limit - i) (take i text) (drop i text) (omega (arith, h))

pub rest_whole : (text : List ℕ) (n : ℕ) → take (length text - n) (drop n text) ≡ drop n text
rest_whole text n = take_all (length text - n) (drop n text) (omega (arith, length-drop n text))
