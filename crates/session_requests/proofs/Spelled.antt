-- A field that is read has the text that is written for it.
use Rattle.std.proofs.Common.{◌≡◌, ◌<◌, ◌≤◌, ◌+◌, ◌-◌, ◌*◌, ◌/◌, ◌%◌, ◌^◌, ◌==◌, ◌&&◌, ◌||◌, ℕ, zero, suc, Bool, true, false, cond, List, [], ◌∷◌, ◌++◌, length, slice_index, Option, Some, None, Ok, nat_lt, refl, sym, ap, subst, ◌∙◌, arith}
use Rattle.std.specs.Prelude.{⊤, nat_le, All}
use Rattle.std.specs.Char.{is_ascii_digit}
use Rattle.std.specs.Fmt.{decimal}
use Rattle.std.specs.List.{list_all}
use Rattle.std.specs.Option.{option_map}
use Rattle.std.specs.Result.{result_ok}
use Rattle.std.proofs.lemmas.Bool.{and_parts, eqb-true}
use Rattle.std.proofs.lemmas.Bool.Decides.{nat_tests}
use Rattle.std.proofs.lemmas.Fmt.{decimal-digits_value}
use Rattle.std.proofs.lemmas.Str.Parse.{digits_value_short}
use Rattle.block_file.specs.Line.{decimal_of, is_lower_digit, sum_of_digits}
use Rattle.block_file.proofs.FieldLemmas.{own}
use Rattle.std.proofs.lemmas.List.{get_or_default}
use Rattle.hex.specs.Hex.{IsBytes, decode_of, decode_pairs, encode_lower, encode_with, hex_digit_value, lower_digits, pair_value}
use Rattle.hex.proofs.HexLemmas.{decode_of-even, decode_of-ok}
use Rattle.hex.proofs.Pairs.{cons_byte, decode_pairs-ok_pair}
use Rattle.session_requests.specs.Requests.{first_part, hex_name_of, onto}
use Rattle.session_requests.specs.Written.{IsName, IsShort}
use Rattle.session_requests.proofs.FieldTexts.{name_by_tests, name_is}

-- ---- parts

abbrev pub Splits : ℕ → List ℕ → Option (List ℕ × List ℕ) → Type 0
Splits c bs None = ⊤
Splits c bs (Some found) = bs ≡ found.0 ++ c ∷ found.1

one_more : (c b : ℕ) (bs : List ℕ) (o : Option (List ℕ × List ℕ)) → Splits c bs o → Splits c (b ∷ bs) (option_map (onto b) o)
one_more c b bs None h = tt
one_more c b bs (Some found) h = ap (λ (l : List ℕ). b ∷ l) h

pub splits : (c room : ℕ) (bs : List ℕ) → Splits c bs (first_part c room bs)
splits c zero bs = tt
splits c (suc room) [] = tt
splits c (suc room) (b ∷ bs) =
    elim (b == c) as (λ t. (b == c) ≡ t → Splits c (b ∷ bs) (cond t (Some ([], bs)) (option_map (onto b) (first_part c room bs)))) [
      | true ↦ λ e. ap (λ (x : ℕ). x ∷ bs) (eqb-true b c e)
      | false ↦ λ e. one_more c b bs (first_part c room bs) (splits c room bs)
    ] refl

-- ---- decimals

abbrev pub Spells : ℕ → List ℕ → Type 0
Spells n ds = IsShort n × (decimal n ≡ ds)

abbrev pub IfSpelled : List ℕ → Option ℕ → Type 0
IfSpelled ds None = ⊤
IfSpelled ds (Some n) = Spells n ds

pub either : {A : Type 0} (P : Option A → Type 0) (b : Bool) (x y : Option A) → (b ≡ true → P x) → (b ≡ false → P y) → P (cond b x y)
either P true x y f g = f refl
either P false x y f g = g refl

within : (n : ℕ) → (n == 0 || nat_lt 10 n) ≡ false → (0 < n) × (n ≤ 10)
within n h = (grind (arith, nat_tests), grind (arith, nat_tests))

alone : (n d : ℕ) → 0 < n → (nat_lt 1 n && d == 48) ≡ false → d ≡ 48 → n ≡ 1
alone n d some first same = grind (arith, nat_tests)

spelled : (ds : List ℕ) → (length ds == 0 || nat_lt 10 (length ds)) ≡ false → (nat_lt 1 (length ds) && slice_index ds 0 == 48) ≡ false → list_all is_ascii_digit ds ≡ true → Spells (sum_of_digits ds) ds
spelled ds sized first digits =
    let size = within (length ds) sized in
    let small : sum_of_digits ds < 10 ^ 10 = digits_value_short own ds 10 digits size.1 in (
      record { below = small },
      decimal-digits_value own ds digits size.0 (λ same. alone (length ds) (slice_index ds 0) size.0 first same) (omega (arith, small)),
    )

pub decimals : (ds : List ℕ) → IfSpelled ds (decimal_of ds)
decimals ds =
    either (IfSpelled ds) (length ds == 0 || nat_lt 10 (length ds)) None _ (λ e. tt) (λ sized.
    either (IfSpelled ds) (nat_lt 1 (length ds) && slice_index ds 0 == 48) None _ (λ e. tt) (λ first.
    either (IfSpelled ds) (list_all is_ascii_digit ds) (Some (sum_of_digits ds)) None (λ digits. spelled ds sized first digits) (λ e. tt)))

-- ---- names

abbrev glyph : ℕ → ℕ
glyph d = cond (nat_lt d 10) (48 + d) (87 + d)

table : (d : ℕ) → d < 16 → slice_index lower_digits d ≡ glyph d
table zero h = refl
table (suc zero) h = refl
table (suc (suc zero)) h = refl
table (suc (suc (suc zero))) h = refl
table (suc (suc (suc (suc zero)))) h = refl
table (suc (suc (suc (suc (suc zero))))) h = refl
table (suc (suc (suc (suc (suc (suc zero)))))) h = refl
table (suc (suc (suc (suc (suc (suc (suc zero))))))) h = refl
table (suc (suc (suc (suc (suc (suc (suc (suc zero)))))))) h = refl
table (suc (suc (suc (suc (suc (suc (suc (suc (suc zero))))))))) h = refl
table (suc (suc (suc (suc (suc (suc (suc (suc (suc (suc zero)))))))))) h = refl
table (suc (suc (suc (suc (suc (suc (suc (suc (suc (suc (suc zero))))))))))) h = refl
table (suc (suc (suc (suc (suc (suc (suc (suc (suc (suc (suc (suc zero)))))))))))) h = refl
table (suc (suc (suc (suc (suc (suc (suc (suc (suc (suc (suc (suc (suc zero))))))))))))) h = refl
table (suc (suc (suc (suc (suc (suc (suc (suc (suc (suc (suc (suc (suc (suc zero)))))))))))))) h = refl
table (suc (suc (suc (suc (suc (suc (suc (suc (suc (suc (suc (suc (suc (suc (suc zero))))))))))))))) h = refl
table (suc (suc (suc (suc (suc (suc (suc (suc (suc (suc (suc (suc (suc (suc (suc (suc d)))))))))))))))) h = absurd (omega (arith, h))

record IsDigit (c d : ℕ) : Type 0 where
  read : hex_digit_value c ≡ Some d
  small : d < 16
  back : slice_index lower_digits d ≡ c

digit_is : (c d : ℕ) → hex_digit_value c ≡ Some d → d < 16 → glyph d ≡ c → IsDigit c d
digit_is c d read small back = record { read = read; small = small; back = table d small ∙ back }

figure : (c : ℕ) → is_ascii_digit c ≡ true → IsDigit c (c - 48)
figure c h =
    let low : 48 ≤ c = grind (arith, nat_tests) in
    let high : c ≤ 57 = grind (arith, nat_tests) in
    digit_is c (c - 48) (grind (arith, nat_tests)) (omega (arith, low, high)) (grind (arith, nat_tests))

letter : (c : ℕ) → (nat_le 97 c && nat_le c 102) ≡ true → IsDigit c (c - 87)
letter c h =
    let low : 97 ≤ c = grind (arith, nat_tests) in
    let high : c ≤ 102 = grind (arith, nat_tests) in
    digit_is c (c - 87) (grind (arith, nat_tests)) (omega (arith, low, high)) (grind (arith, nat_tests))

digit_of : (c : ℕ) → is_lower_digit c ≡ true → (d : ℕ) × IsDigit c d
digit_of c h =
    elim (is_ascii_digit c) as (λ t. is_ascii_digit c ≡ t → (t || (nat_le 97 c && nat_le c 102)) ≡ true → (d : ℕ) × IsDigit c d) [
      | true ↦ λ e k. (c - 48, figure c e)
      | false ↦ λ e k. (c - 87, letter c k)
    ] refl h

made : (i : ℕ) (s : List ℕ) → list_all is_lower_digit s ≡ true → length s % 2 ≡ 0 → (bytes : List ℕ) × (decode_pairs i s ≡ Ok bytes) × (encode_with lower_digits bytes ≡ s)
unfolding decode_pairs encode_with
made i [] h even = ([], refl, refl)
made i (a ∷ []) h even = absurd (omega (arith, even))
made i (a ∷ b ∷ rest) h even =
    let first = and_parts (is_lower_digit a) (list_all is_lower_digit (b ∷ rest)) h in
    let second = and_parts (is_lower_digit b) (list_all is_lower_digit rest) first.1 in
    let x = digit_of a first.0 in
    let y = digit_of b second.0 in
    let more = made (i + 2) rest second.1 (omega (arith, even)) in
    let pair : pair_value a b i ≡ Ok (x.0 * 16 + y.0) = rw (x.1.read, y.1.read) refl in
    let top : (x.0 * 16 + y.0) / 16 ≡ x.0 = omega (arith, x.1.small, y.1.small) in
    let low : (x.0 * 16 + y.0) % 16 ≡ y.0 = omega (arith, x.1.small, y.1.small) in (
      (x.0 * 16 + y.0) ∷ more.0,
      decode_pairs-ok_pair i a b (x.0 * 16 + y.0) rest pair ∙ ap (cons_byte (x.0 * 16 + y.0)) more.1,
      rw (top, low, x.1.back, y.1.back, more.2) refl,
    )

abbrev pub IfName : List ℕ → Option (List ℕ) → Type 0
IfName text None = ⊤
IfName text (Some name) = IsName name × (encode_lower name ≡ text)

each_byte : (xs : List ℕ) → IsBytes xs → All (λ b. b < 256) xs
each_byte xs h = λ k d lt. rw (get_or_default xs k d 0 lt) (h k)

named : (text : List ℕ) → length text ≡ 64 → list_all is_lower_digit text ≡ true → IfName text (result_ok (decode_of text))
named text long lower =
    let even : length text % 2 ≡ 0 = omega (arith, long) in
    let m = made 0 text lower even in
    let decoded : decode_of text ≡ Ok m.0 = decode_of-even text even ∙ m.1 in
    let ok = decode_of-ok text m.0 decoded in
    rw decoded (record { long = omega (arith, ok.2, long); bytes = each_byte m.0 ok.3 }, m.2)

names_by_tests : (text : List ℕ) → IfName text (name_by_tests text)
names_by_tests text =
    either (IfName text) (length text == 64) _ None (λ long.
    either (IfName text) (list_all is_lower_digit text) (result_ok (decode_of text)) None (λ lower. named text (eqb-true (length text) 64 long) lower) (λ e. tt)) (λ e. tt)

pub names : (text : List ℕ) → IfName text (hex_name_of text)
names text = subst (IfName text) (sym (name_is text)) (names_by_tests text)
