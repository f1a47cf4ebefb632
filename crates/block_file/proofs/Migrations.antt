-- A file that is migrated is read as before.
use Rattle.std.proofs.Common.{◌≡◌, ◌<◌, ◌≤◌, ◌==◌, ◌+◌, ℕ, Bool, true, false, List, ◌∷◌, length, drop, take, Option, Some, None, Result, Ok, Err, nat_lt, refl, sym, ap, ◌∙◌, arith, if◌then◌else◌}
use Rattle.std.specs.Prelude.{codes}
use Rattle.std.specs.List.{before_first, position_or_len}
use Rattle.std.specs.Result.{result_map_both}
use Rattle.std.specs.Str.{bytes_eq}
use Rattle.std.proofs.lemmas.Bool.Decides.{nat_tests}
use Rattle.std.proofs.lemmas.List.{length-take-le, take_all}
use Rattle.std.proofs.lemmas.List.Splits.{slice_split_first}
use Rattle.std.proofs.lemmas.Slice.Eq.{bytes_eq-Decides}
use Rattle.rv_ledger.specs.declared.rules.Rules.{Rules}
use Rattle.rv_ledger.specs.declared.rules.Rules.TheVariants.{One}
use Rattle.block_file.specs.declared.fault.Cause.TheVariants.{BadHeader, BadLine}
use Rattle.block_file.specs.declared.fault.BlockFault.{BlockFault}
use Rattle.block_file.specs.Line.{cut}
use Rattle.block_file.specs.Block.{BlockValue, Parsed, nothing_parsed, with_line, lines_from, parts_after, block_of_parts, parsed_block}
use Rattle.block_file.specs.Migrate.{is_first_format, in_second_format, migrated}
use Rattle.block_file.proofs.Lines.{read_from}

-- ---- the first line

-- the place of the first LF
abbrev end_of : List ℕ → ℕ
end_of bytes = position_or_len (λ b. b == 10) bytes

abbrev found : List ℕ → Option ℕ
found bytes = if nat_lt (end_of bytes) (length bytes) then Some (end_of bytes) else None

past : (n m : ℕ) → nat_lt n m ≡ false → m ≤ n
past n m h = grind (arith, nat_tests)

within : (n m : ℕ) → nat_lt n m ≡ true → n < m
within n m h = grind (arith, nat_tests)

no_end : (bytes : List ℕ) → nat_lt (end_of bytes) (length bytes) ≡ false → before_first (λ b. b == 10) bytes ≡ bytes
no_end bytes h = take_all (end_of bytes) bytes (past (end_of bytes) (length bytes) h)

pub ends_at : (bytes : List ℕ) (place : ℕ) → Some place ≡ found bytes → bytes_eq (take place bytes) (codes "rvblock 1") ≡ is_first_format bytes
ends_at bytes place h = by (nat_lt (end_of bytes) (length bytes)) h
  where
    by : (b : Bool) → Some place ≡ (if b then Some (end_of bytes) else None) → bytes_eq (take place bytes) (codes "rvblock 1") ≡ is_first_format bytes
    by true h = let same : place ≡ end_of bytes = cc in ap (λ n. bytes_eq (take n bytes) (codes "rvblock 1")) same
    by false h = cc

pub ends_nowhere : (bytes : List ℕ) → None ≡ found bytes → bytes_eq bytes (codes "rvblock 1") ≡ is_first_format bytes
ends_nowhere bytes h = by (nat_lt (end_of bytes) (length bytes)) refl h
  where
    by : (b : Bool) → nat_lt (end_of bytes) (length bytes) ≡ b → None ≡ (if b then Some (end_of bytes) else None) → bytes_eq bytes (codes "rvblock 1") ≡ is_first_format bytes
    by true e h = cc
    by false e h = ap (λ line. bytes_eq line (codes "rvblock 1")) (sym (no_end bytes e))

-- a file of format 1 that is read has the first line of format 1, its LF, and the body
opened : (bytes : List ℕ) (value : BlockValue) → is_first_format bytes ≡ true → parsed_block bytes ≡ Ok value → cut 10 bytes ≡ codes "rvblock 1" ∷ cut 10 (drop 10 bytes)
opened bytes value first read = by (nat_lt (end_of bytes) (length bytes)) refl
  where
    header : before_first (λ b. b == 10) bytes ≡ codes "rvblock 1"
    header = (bytes_eq-Decides (before_first (λ b. b == 10) bytes) (codes "rvblock 1")).0 first

    alone : parsed_block (codes "rvblock 1") ≡ Ok value → ⊥
    alone h = cc

    by : (b : Bool) → nat_lt (end_of bytes) (length bytes) ≡ b → cut 10 bytes ≡ codes "rvblock 1" ∷ cut 10 (drop 10 bytes)
    by true e =
        let lt = within (end_of bytes) (length bytes) e in
        let nine : end_of bytes ≡ 9 = sym (length-take-le (end_of bytes) bytes (omega (arith, lt))) ∙ ap length header in
        slice_split_first (λ b. b == 10) bytes 0 lt ∙ ap (λ line. line ∷ cut 10 (drop (end_of bytes + 1) bytes)) header
        ∙ ap (λ n. codes "rvblock 1" ∷ cut 10 (drop (n + 1) bytes)) nine
    by false e = absurd (alone (ap parsed_block (sym (sym (no_end bytes e) ∙ header)) ∙ read))

-- ---- the body

-- what is read after line n is read the same way after line m
behind_other : (n m : ℕ) (rules : Rules) (parts : List (List ℕ)) (value : BlockValue) → parts_after n rules parts ≡ Ok value → parts_after m rules parts ≡ Ok value
behind_other n m rules parts value h = by (length parts == 0) (lines_from (n + 1) rules parts) (λ s e. read_from with_line BadLine (n + 1) (m + 1) (nothing_parsed rules) s parts e) h
  where
    by : (none : Bool) (body : Result Parsed BlockFault) → ((s : Parsed) → body ≡ Ok s → lines_from (m + 1) rules parts ≡ Ok s)
        → (if none then Err (record { line = n; cause = BadLine }) else result_map_both (λ s. s.block) (λ fault. fault) body) ≡ Ok value
        → (if none then Err (record { line = m; cause = BadLine }) else result_map_both (λ s. s.block) (λ fault. fault) (lines_from (m + 1) rules parts)) ≡ Ok value
    by true body other h = cc
    by false (Ok s) other h = ap (result_map_both (λ s. s.block) (λ fault. fault)) (other s refl) ∙ h
    by false (Err fault) other h = cc

read_as_before : (bytes : List ℕ) (value : BlockValue) → is_first_format bytes ≡ true → parsed_block bytes ≡ Ok value → parsed_block (in_second_format bytes) ≡ Ok value
read_as_before bytes value first read =
    behind_other 1 2 One (cut 10 (drop 10 bytes)) value (sym (ap block_of_parts (opened bytes value first read)) ∙ read)

pub says_the_same : (bytes text : List ℕ) → migrated bytes ≡ Ok text → parsed_block text ≡ parsed_block bytes
says_the_same bytes text h = by (is_first_format bytes) (parsed_block bytes) refl refl h
  where
    by : (first : Bool) (said : Result BlockValue BlockFault) → is_first_format bytes ≡ first → parsed_block bytes ≡ said
        → (if first then result_map_both (λ _. in_second_format bytes) (λ fault. fault) said else Err (record { line = 1; cause = BadHeader })) ≡ Ok text
        → parsed_block text ≡ parsed_block bytes
    by true (Ok value) first read h =
        let same : in_second_format bytes ≡ text = cc in
        ap parsed_block (sym same) ∙ read_as_before bytes value first read ∙ sym read
    by true (Err fault) first read h = cc
    by false said first read h = cc
