-- Registers and numbers are read back from their texts, and have no byte that separates operands.
use Rattle.std.proofs.Common.{◌≡◌, ℕ, zero, suc, ◌+◌, ◌*◌, ◌/◌, ◌%◌, ◌^◌, ◌<◌, ◌≤◌, ◌==◌, nat_eq, nat_le, Bool, true, false, not, ◌&&◌, ◌||◌, cond, List, [], ◌∷◌, ◌++◌, length, get_or, Option, Some, None, ℤ, pos, negsuc, neg_ℤ, arith, refl, ap, ◌∙◌, lit<, lit≤, codes}
use Rattle.std.proofs.lemmas.Bool.{and_parts}
use Rattle.std.proofs.lemmas.Bool.Decides.{nat_tests}
use Rattle.std.proofs.lemmas.Int.{ints}
use Rattle.std.proofs.Math.Nat.{pow-suc}
use Rattle.std.specs.Prelude.{◌≤ℤ◌, slice_index}
use Rattle.std.specs.Int.{to_be_bytes, byte_at, w32}
use Rattle.hex.specs.Hex.{lower_digits, encode_with, encode_lower}
use Rattle.std.proofs.lemmas.Fmt.{decimal_is_IsNumeral, digits_is_IsNumeral, length-decimal-le}
use Rattle.std.specs.Char.{is_digit, digit_value}
use Rattle.std.specs.Fmt.{decimal, signed_decimal, digits, digits_onto, digit_glyph}
use Rattle.std.specs.List.{list_any, list_all}
use Rattle.std.specs.Option.{option_map}
use Rattle.std.specs.Str.Parse.{AllDigits, IsNumeral, digits_value}
use Rattle.rv_isa.specs.declared.register.Reg.{Reg}
use Rattle.rv_isa.specs.Decoding.{register_at}
use Rattle.rv_names.specs.Registers.{x_names, x_name, register_number, register_of}
use Rattle.rv_names.specs.Numbers.{numeral_of, number_of}
use Rattle.rv_names.specs.Operands.{is_comma}
use Rattle.rv_isa.proofs.Same.{same_register}
use Rattle.rv_text.proofs.Cuts.{neither, none_of_stronger}
use Rattle.rv_text.proofs.Lines.{is_mark}

-- a byte that separates lines, the parts of a line, its operands or the parts of an operand
abbrev pub is_parting : ℕ → Bool
is_parting b = is_mark b || (b == 44 || (b == 40 || b == 41))

pub record IsAtom (text : List ℕ) : Type 0 where
  pub some : 0 < length text
  pub marks : list_any is_mark text ≡ false
  pub commas : list_any is_comma text ≡ false
  pub opens : list_any (λ b. b == 40) text ≡ false

atom_from : (text : List ℕ) → 0 < length text → list_any is_parting text ≡ false → IsAtom text
atom_from text some h = record {
  some = some;
  marks = none_of_stronger is_parting is_mark (λ b e. (neither (is_mark b) _ e).0) text h;
  commas = none_of_stronger is_parting is_comma (λ b e. (neither (b == 44) _ ((neither (is_mark b) _ e).1)).0) text h;
  opens = none_of_stronger is_parting (λ b. b == 40) (λ b e. (neither (b == 40) _ ((neither (b == 44) _ ((neither (is_mark b) _ e).1)).1)).0) text h;
}

-- ---- registers

-- a test that holds of each number below another
below : (ℕ → Bool) → ℕ → Bool
below p zero = true
below p (suc k) = p k && below p k

last_or_less : (p : ℕ → Bool) (k n : ℕ) → p k ≡ true → (n < k → p n ≡ true) → n < suc k → (b : Bool) → nat_eq n k ≡ b → p n ≡ true
last_or_less p k n last less l true e = let same : n ≡ k = grind (arith, nat_tests) in rw same last
last_or_less p k n last less l false e = less (grind (arith, nat_tests))

at_below : (p : ℕ → Bool) (k : ℕ) → below p k ≡ true → (n : ℕ) → n < k → p n ≡ true
unfolding below
at_below p zero h n l = absurd (omega arith)
at_below p (suc k) h n l =
    let parts = and_parts (p k) (below p k) h in
    last_or_less p k n parts.0 (λ less. at_below p k parts.1 n less) l (nat_eq n k) refl

is_number : Option ℕ → ℕ → Bool
is_number None n = false
is_number (Some m) n = m == n

number_from : (o : Option ℕ) (n : ℕ) → is_number o n ≡ true → o ≡ Some n
unfolding is_number
number_from None n h = cc
number_from (Some m) n h = let e : m ≡ n = grind (arith, nat_tests) in ap Some e

-- what holds of the name of each register
named_well : ℕ → Bool
named_well n = is_number (register_number (get_or x_names n [])) n && (nat_le 1 (length (get_or x_names n [])) && not (list_any is_parting (get_or x_names n [])))

all_named_well : below named_well 32 ≡ true
unfolding below named_well is_number
all_named_well = refl

not_true : (b : Bool) → not b ≡ true → b ≡ false
not_true true h = cc
not_true false h = refl

name_facts : (r : Reg) → (is_number (register_number (x_name r)) r.number ≡ true) × (0 < length (x_name r)) × (list_any is_parting (x_name r) ≡ false)
unfolding x_name named_well
name_facts r =
    let h : named_well r.number ≡ true = at_below named_well 32 all_named_well r.number r.in_range in
    let a = and_parts (is_number (register_number (get_or x_names r.number [])) r.number) _ h in
    let b = and_parts (nat_le 1 (length (get_or x_names r.number []))) _ a.1 in
    (a.0, grind (arith, nat_tests, b.0), not_true _ b.1)

pub register_read : (r : Reg) → register_of (x_name r) ≡ Some r
unfolding register_of
register_read r =
    let e = number_from (register_number (x_name r)) r.number ((name_facts r).0) in
    rw e (ap Some (same_register (register_at r.number) r (omega (arith, r.in_range))))

pub register_atom : (r : Reg) → IsAtom (x_name r)
register_atom r = let f = name_facts r in atom_from (x_name r) f.1 f.2

-- ---- numbers

-- the fact and the test on digits
digits_pass : (radix : ℕ) (ds : List ℕ) → AllDigits radix ds → list_all (λ c. is_digit c radix) ds ≡ true
digits_pass radix [] h = refl
digits_pass radix (c ∷ cs) h = let e : is_digit c radix ≡ true = grind (arith, nat_tests, h.0) in rw e (digits_pass radix cs h.1)

-- a digit separates nothing
digit_parts_nothing : (radix c : ℕ) → radix ≤ 16 → digit_value c < radix → is_parting c ≡ false
digit_parts_nothing radix c high h = grind (arith, nat_tests)

pub digits_part_nothing : (radix : ℕ) (ds : List ℕ) → radix ≤ 16 → AllDigits radix ds → list_any is_parting ds ≡ false
digits_part_nothing radix [] high h = refl
digits_part_nothing radix (c ∷ cs) high h = rw (digit_parts_nothing radix c high h.0) (digits_part_nothing radix cs high h.1)

-- the number of digits
pub numeral_read : (radix most : ℕ) (ds : List ℕ) (n : ℕ) → IsNumeral radix ds → length ds ≤ most → digits_value radix ds ≡ n → numeral_of radix most ds ≡ Some n
unfolding numeral_of
numeral_read radix most ds n numeral short e =
    let some : nat_le 1 (length ds) ≡ true = grind (arith, nat_tests, numeral.0) in
    let few : nat_le (length ds) most ≡ true = grind (arith, nat_tests) in
    rw (some, few, digits_pass radix ds numeral.1, e) refl

and_no : (a : Bool) → a && false ≡ false
and_no true = refl
and_no false = refl

-- a text that begins with a digit does not begin with `-`; if its second byte is a digit too, it does not begin with
-- `0x`
plain_number : (ds : List ℕ) → IsNumeral 10 ds → number_of ds ≡ option_map pos (numeral_of 10 10 ds)
unfolding number_of
plain_number [] h = absurd (omega (arith, h.0))
plain_number (c ∷ []) h =
    let minus : (45 == c) ≡ false = grind (arith, nat_tests, h.1.0) in
    rw (minus, and_no (nat_eq 48 c)) refl
plain_number (c ∷ d ∷ cs) h =
    let minus : (45 == c) ≡ false = grind (arith, nat_tests, h.1.0) in
    let x : (120 == d) ≡ false = grind (arith, nat_tests, h.1.1.0) in
    rw (minus, x, and_no (nat_eq 48 c)) refl

decimal_read : (n : ℕ) → n < 10 ^ 10 → numeral_of 10 10 (decimal n) ≡ Some n
decimal_read n small =
    let d = decimal_is_IsNumeral n (omega arith) in
    numeral_read 10 10 (decimal n) n d.0 (length-decimal-le 10 n (lit< tt) small (omega arith)) d.1

minus_number : (ds : List ℕ) → number_of (45 ∷ ds) ≡ option_map (λ n. neg_ℤ (pos n)) (numeral_of 10 10 ds)
unfolding number_of
minus_number ds = refl

-- a signed number of at most ten digits
pub signed_read : (z : ℤ) → (negsuc 2097151 ≤ℤ z) × (z ≤ℤ pos 2097151) → number_of (signed_decimal z) ≡ Some z
signed_read (pos n) h =
    let small : n < 10 ^ 10 = omega (arith, ints, h.0, h.1) in
    plain_number (decimal n) ((decimal_is_IsNumeral n (omega arith)).0) ∙ ap (option_map pos) (decimal_read n small)
signed_read (negsuc n) h =
    let small : suc n < 10 ^ 10 = omega (arith, ints, h.0, h.1) in
    minus_number (decimal (suc n)) ∙ ap (option_map (λ n. neg_ℤ (pos n))) (decimal_read (suc n) small)

pub signed_atom : (z : ℤ) → (negsuc 2097151 ≤ℤ z) × (z ≤ℤ pos 2097151) → IsAtom (signed_decimal z)
signed_atom (pos n) h =
    let d : IsNumeral 10 (decimal n) = (decimal_is_IsNumeral n (omega (arith, ints, h.0, h.1))).0 in
    atom_from (decimal n) d.0 (digits_part_nothing 10 (decimal n) (lit≤ tt) d.1)
signed_atom (negsuc n) h =
    let d : IsNumeral 10 (decimal (suc n)) = (decimal_is_IsNumeral (suc n) (omega (arith, ints, h.0, h.1))).0 in
    atom_from (45 ∷ decimal (suc n)) (omega arith) (digits_part_nothing 10 (decimal (suc n)) (lit≤ tt) d.1)

-- ---- hex

pub hex_number : (ds : List ℕ) → number_of (codes "0x" ++ ds) ≡ option_map pos (numeral_of 16 8 ds)
unfolding number_of
hex_number ds = refl

either_short : (b : Bool) (x y : List ℕ) (most : ℕ) → length x ≤ most → length y ≤ most → length (cond b x y) ≤ most
either_short true x y most h k = h
either_short false x y most h k = k

onto_short : (k j n : ℕ) (acc : List ℕ) → n < 16 ^ suc j → length (digits_onto k 16 false n acc) ≤ suc j + length acc
onto_short zero j n acc h = omega arith
onto_short (suc k) zero n acc h =
    let done : (n / 16 == 0) ≡ true = grind (arith, nat_tests) in
    rw done (omega arith)
onto_short (suc k) (suc j) n acc h =
    let wide = pow-suc 16 (suc j) in
    let less : n / 16 < 16 ^ suc j = omega arith in
    either_short (n / 16 == 0) _ _ _ (omega arith) (omega (arith, onto_short k j (n / 16) (digit_glyph false (n % 16) ∷ acc) less))

-- a number below 2^20 in hex
pub upper_read : (n : ℕ) → n < 2 ^ 20 → number_of (codes "0x" ++ digits 16 false n) ≡ Some (pos n)
unfolding digits
upper_read n small =
    let d = digits_is_IsNumeral 16 false (lit≤ tt) (lit≤ tt) n (omega arith) in
    let short : length (digits 16 false n) ≤ 8 = omega (arith, onto_short 64 7 n [] (omega arith)) in
    hex_number (digits 16 false n) ∙ ap (option_map pos) (numeral_read 16 8 (digits 16 false n) n d.0 short d.1)

pub upper_atom : (n : ℕ) → n < 2 ^ 20 → IsAtom (codes "0x" ++ digits 16 false n)
upper_atom n small =
    let d : IsNumeral 16 (digits 16 false n) = (digits_is_IsNumeral 16 false (lit≤ tt) (lit≤ tt) n (omega arith)).0 in
    atom_from (48 ∷ 120 ∷ digits 16 false n) (omega arith) (digits_part_nothing 16 (digits 16 false n) (lit≤ tt) d.1)

-- the digits of a byte
glyph : ℕ → ℕ
glyph d = slice_index lower_digits d

all_glyphs : below (λ d. digit_value (glyph d) == d) 16 ≡ true
unfolding below glyph
all_glyphs = refl

glyph_value : (d : ℕ) → d < 16 → digit_value (glyph d) ≡ d
glyph_value d l = let e = at_below (λ d. digit_value (glyph d) == d) 16 all_glyphs d l in grind (arith, nat_tests, e)

eight : (a b c d e f g h : ℕ) → List ℕ
eight a b c d e f g h = glyph a ∷ glyph b ∷ glyph c ∷ glyph d ∷ glyph e ∷ glyph f ∷ glyph g ∷ glyph h ∷ []

word_digits : (word : ℕ) → encode_lower (to_be_bytes w32 word) ≡ eight (byte_at 3 word / 16) (byte_at 3 word % 16) (byte_at 2 word / 16) (byte_at 2 word % 16) (byte_at 1 word / 16) (byte_at 1 word % 16) (byte_at 0 word / 16) (byte_at 0 word % 16)
unfolding encode_with eight glyph
word_digits word = refl

eight_numeral : (a b c d e f g h : ℕ) → a < 16 → b < 16 → c < 16 → d < 16 → e < 16 → f < 16 → g < 16 → h < 16 → IsNumeral 16 (eight a b c d e f g h)
unfolding eight
eight_numeral a b c d e f g h la lb lc ld le lf lg lh =
    let below16 : (x : ℕ) → x < 16 → digit_value (glyph x) < 16 = λ x l. rw (glyph_value x l) l in
    (lit< tt, (below16 a la, (below16 b lb, (below16 c lc, (below16 d ld, (below16 e le, (below16 f lf, (below16 g lg, (below16 h lh, tt)))))))))

eight_value : (a b c d e f g h : ℕ) → a < 16 → b < 16 → c < 16 → d < 16 → e < 16 → f < 16 → g < 16 → h < 16 → digits_value 16 (eight a b c d e f g h) ≡ ((((((a * 16 + b) * 16 + c) * 16 + d) * 16 + e) * 16 + f) * 16 + g) * 16 + h
unfolding eight
eight_value a b c d e f g h la lb lc ld le lf lg lh =
    rw (glyph_value a la, glyph_value b lb, glyph_value c lc, glyph_value d ld, glyph_value e le, glyph_value f lf, glyph_value g lg, glyph_value h lh) (omega arith)

-- a word in eight digits
pub word_numeral : (word : ℕ) → IsNumeral 16 (encode_lower (to_be_bytes w32 word)) × (length (encode_lower (to_be_bytes w32 word)) ≤ 8) × (word < 2 ^ 32 → digits_value 16 (encode_lower (to_be_bytes w32 word)) ≡ word)
unfolding eight
word_numeral word =
    let a = byte_at 3 word in
    let b = byte_at 2 word in
    let c = byte_at 1 word in
    let d = byte_at 0 word in
    let la : a / 16 < 16 = omega arith in
    let ma : a % 16 < 16 = omega arith in
    let lb : b / 16 < 16 = omega arith in
    let mb : b % 16 < 16 = omega arith in
    let lc : c / 16 < 16 = omega arith in
    let mc : c % 16 < 16 = omega arith in
    let ld : d / 16 < 16 = omega arith in
    let md : d % 16 < 16 = omega arith in
    let whole : word < 2 ^ 32 → ((((((a / 16 * 16 + a % 16) * 16 + b / 16) * 16 + b % 16) * 16 + c / 16) * 16 + c % 16) * 16 + d / 16) * 16 + d % 16 ≡ word = λ small. omega arith in
    rw (word_digits word) (
      eight_numeral (a / 16) (a % 16) (b / 16) (b % 16) (c / 16) (c % 16) (d / 16) (d % 16) la ma lb mb lc mc ld md,
      lit≤ tt,
      λ small. eight_value (a / 16) (a % 16) (b / 16) (b % 16) (c / 16) (c % 16) (d / 16) (d % 16) la ma lb mb lc mc ld md ∙ whole small,
    )

pub word_read : (word : ℕ) → word < 2 ^ 32 → number_of (codes "0x" ++ encode_lower (to_be_bytes w32 word)) ≡ Some (pos word)
word_read word small =
    let d = word_numeral word in
    hex_number _ ∙ ap (option_map pos) (numeral_read 16 8 _ word d.0 d.1 (d.2 small))

pub word_atom : (word : ℕ) → IsAtom (codes "0x" ++ encode_lower (to_be_bytes w32 word))
word_atom word =
    let d : IsNumeral 16 (encode_lower (to_be_bytes w32 word)) = (word_numeral word).0 in
    atom_from _ (omega arith) (digits_part_nothing 16 _ (lit≤ tt) d.1)
