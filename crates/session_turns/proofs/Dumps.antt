-- How long the lines of a storage are.
use Rattle.std.proofs.Common.{◌≡◌, ◌+◌, ◌*◌, ◌<◌, ℕ, List, [], ◌∷◌, ◌++◌, length, arith, ap, sym, length-append}
use Rattle.std.specs.Prelude.{codes}
use Rattle.std.proofs.lemmas.Fmt.{decimal_digit}
use Rattle.hex.specs.Hex.{encode_lower}
use Rattle.hex.proofs.HexLemmas.{length-encode_with}
use Rattle.receipts.specs.Text.{bytes_text, store_line}
use Rattle.rv_ledger.specs.declared.rules.Rules.{Rules}
use Rattle.rv_ledger.specs.declared.rules.Rules.TheVariants.{One, Two, Three}
use Rattle.session_turns.specs.Telling.{dump_head}

-- the lines before the first entry have 16 bytes
pub head_is : (rules : Rules) → 16 ≡ length (dump_head rules)
head_is One = ap (λ (digits : List ℕ). length (codes "rvblock 2\ngas " ++ digits ++ codes "\n")) (sym (decimal_digit 1 (omega arith)))
head_is Two = ap (λ (digits : List ℕ). length (codes "rvblock 2\ngas " ++ digits ++ codes "\n")) (sym (decimal_digit 2 (omega arith)))
head_is Three = ap (λ (digits : List ℕ). length (codes "rvblock 2\ngas " ++ digits ++ codes "\n")) (sym (decimal_digit 3 (omega arith)))

-- bytes, if there are any, have two digits each
pub digits_are : (bytes : List ℕ) → 0 < length bytes → 2 * length bytes ≡ length (bytes_text bytes)
digits_are [] some = absurd (omega arith)
digits_are (b ∷ bytes) some = sym (length-encode_with _ (b ∷ bytes))

-- the length of an entry's line
pub line_is : (key value : List ℕ) → 8 + 2 * length key + length (bytes_text value) ≡ length (store_line (key, value))
line_is key value = omega (arith, length-append (encode_lower key) (32 ∷ (bytes_text value ++ codes "\n")), length-append (bytes_text value) (codes "\n"), length-encode_with (codes "0123456789abcdef") key)
