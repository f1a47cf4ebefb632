-- What `get_one` reads of a whole number, and which words say one.
use Rattle.std.proofs.Common.{◌≡◌, ◌==◌, ◌∙◌, ◌<◌, ◌^◌, ℕ, Bool, true, false, [], ◌∷◌, Option, Some, None, Ok, Err, Result, refl, sym, ap, subst, arith, if◌then◌else◌, option_and_then}
use Rattle.std.proofs.lemmas.Bool.{eqb-true}
use Rattle.std.specs.Char.{digit_value}
use Rattle.std.specs.Str.Parse.{IsNumeral, ParsesUnsigned, without_leading_plus}
use Rattle.clap.specs.Words.{ReadsOne, Text, one_text, rows_of}
use Rattle.clap.specs.ValueTests.{is_unsigned_in}
use Rattle.clap.specs.declared.parser.matches.Found.{Found}
use Rattle.clap.specs.declared.builder.value_parser.ValueParser.TheVariants as parser
use Rattle.clap.proofs.ValueTestLemmas.{Accepts-accepts, accepts-Accepts}
use Rattle.clap.proofs.WalkLemmas.{one_text-rows}
use Rattle.cmdline.specs.Line.{is_operand, number_at, number_of, word_number}

-- a word that says a number in some bounds says one of 64 bits
in_range : (word : Text) → IsNumeral 10 (without_leading_plus word) → word_number word < 2 ^ 64 → number_of word ≡ Some (word_number word)
unfolding number_of
in_range word digits small =
    ap (λ (b : Bool). if b then Some (word_number word) else None)
    (Accepts-accepts false (parser.Unsigned 0 0xffff_ffff_ffff_ffff) word (digits, small, omega arith, omega arith))

module _ (low high : ℕ) where
  pub number_is_read : (word : Text) → is_unsigned_in low high word ≡ true → number_of word ≡ Some (word_number word)
  number_is_read word h =
      let read = accepts-Accepts false (parser.Unsigned low high) word h in
      in_range word read.0 read.1

  -- its first byte is no hyphen
  never_hyphen : (y : ℕ) (word : Text) (b : Bool) → (y == 45) ≡ b → is_unsigned_in low high (y ∷ word) ≡ true → b ≡ false
  never_hyphen y word false e h = refl
  never_hyphen y word true e h =
      let same : y ≡ 45 = eqb-true y 45 e in
      let read = accepts-Accepts false (parser.Unsigned low high) (45 ∷ word) (subst (λ (x : ℕ). is_unsigned_in low high (x ∷ word) ≡ true) same h) in
      let small : digit_value 45 < 10 = read.0.1.0 in
      absurd (omega arith)

  pub is_no_flag : (word : Text) → is_unsigned_in low high word ≡ true → is_operand word ≡ true
  is_no_flag [] h = refl
  is_no_flag (y ∷ word) h = rw (never_hyphen y word (y == 45) refl h) refl

-- a word that says none
no_number : (word : Text) (b : Bool) → is_unsigned_in 0 0xffff_ffff_ffff_ffff word ≡ b → (IsNumeral 10 (without_leading_plus word) × (word_number word < 2 ^ 64) → ⊥) → number_of word ≡ None
unfolding number_of
no_number word true e never =
    let read = accepts-Accepts false (parser.Unsigned 0 0xffff_ffff_ffff_ffff) word e in
    absurd (never (read.0, read.1))
no_number word false e never = rw e refl

-- the number that is read from a word
module _ (E : Type 0) (G : Text → Result ℕ E → Type 0) (only : (word : Text) (x : Result ℕ E) → G word x → ParsesUnsigned 64 10 word x) where
  read_from : (word : Text) (r : Option ℕ) → ReadsOne G word r → r ≡ number_of word
  read_from word (Some v) h =
      let parsed = only word (Ok v) h in
      ap Some parsed.1 ∙ sym (in_range word parsed.0.0 parsed.0.1)
  read_from word None h = sym (no_number word _ refl (only word (Err h.0) h.1))

  read_if_there : (text : Option Text) (r : Option ℕ) → (text ≡ None → r ≡ None) → ((word : Text) → text ≡ Some word → ReadsOne G word r) → r ≡ option_and_then number_of text
  read_if_there None r none some = none refl
  read_if_there (Some word) r none some = read_from word r (some word refl)

  -- the number that `get_one` reads of an option
  pub number_is_found : (f : Found) (id : Text) (r : Option ℕ) → (one_text f id ≡ None → r ≡ None) → ((word : Text) → one_text f id ≡ Some word → ReadsOne G word r) → r ≡ number_at id (rows_of f)
  number_is_found f id r none some = read_if_there (one_text f id) r none some ∙ ap (option_and_then number_of) (one_text-rows f id)
