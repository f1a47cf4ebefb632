-- The text of a storage is read back.
use Rattle.std.proofs.Common.{◌≡◌, ℕ, List, [], ◌∷◌, ◌++◌, All, Ok, ap, ◌∙◌, arith}
use Rattle.std.specs.Prelude.{codes}
use Rattle.std.specs.FinMap.{entries}
use Rattle.std.proofs.lemmas.Fmt.{decimal_digit}
use Rattle.std.proofs.lemmas.List.Elements.{All-head, All-tail}
use Rattle.rv_ledger.specs.Key.{Storage}
use Rattle.rv_ledger.specs.declared.rules.Rules.{Rules}
use Rattle.rv_ledger.specs.declared.rules.Rules.TheVariants.{One, Two, Three}
use Rattle.block_file.specs.Block.{parsed_block}
use Rattle.session_turns.specs.Telling.{dump_head, dump_text}
use Rattle.session_laws.specs.Chained.{IsEntry, block_with, store_lines}
use Rattle.session_laws.proofs.Chains.{read_back}

-- the second format's beginning
abbrev beginning : Rules → List ℕ
beginning One = codes "rvblock 2\ngas 1\n"
beginning Two = codes "rvblock 2\ngas 2\n"
beginning Three = codes "rvblock 2\ngas 3\n"

head_is : (rules : Rules) → dump_head rules ≡ beginning rules
head_is One = ap (λ (digits : List ℕ). codes "rvblock 2\ngas " ++ digits ++ codes "\n") (decimal_digit 1 (omega arith))
head_is Two = ap (λ (digits : List ℕ). codes "rvblock 2\ngas " ++ digits ++ codes "\n") (decimal_digit 2 (omega arith))
head_is Three = ap (λ (digits : List ℕ). codes "rvblock 2\ngas " ++ digits ++ codes "\n") (decimal_digit 3 (omega arith))

abbrev IsRead : Rules → Storage → List ℕ → Type 0
IsRead rules store head = parsed_block (head ++ store_lines store) ≡ Ok (block_with rules store)

beginning_read : (rules : Rules) (store : Storage) → All (IsEntry rules) (entries store) → IsRead rules store (beginning rules)
beginning_read One store h =
    All-head (IsRead One store) (beginning One) [] (All-tail (IsRead One store) (codes "rvblock 1\n") (beginning One ∷ []) (read_back One store h))
beginning_read Two store h = All-head (IsRead Two store) (beginning Two) [] (read_back Two store h)
beginning_read Three store h = All-head (IsRead Three store) (beginning Three) [] (read_back Three store h)

pub dump_read : (rules : Rules) (store : Storage) → All (IsEntry rules) (entries store) → parsed_block (dump_text rules store) ≡ Ok (block_with rules store)
dump_read rules store h = ap (λ (head : List ℕ). parsed_block (head ++ store_lines store)) (head_is rules) ∙ beginning_read rules store h
