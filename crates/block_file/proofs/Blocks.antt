-- No fault of a block file is before line 1.
use Rattle.std.proofs.Common.{◌≡◌, ap, ◌≤◌, ◌==◌, ◌+◌, Bool, true, false, ℕ, List, [], ◌∷◌, length, Option, Some, None, Result, Ok, Err, IfErr, lit≤, arith, if◌then◌else◌}
use Rattle.std.specs.Prelude.{codes}
use Rattle.std.specs.Option.{ok_or}
use Rattle.std.specs.Result.{result_map_both}
use Rattle.std.specs.Str.{bytes_eq}
use Rattle.std.proofs.lemmas.Bool.{ne_eqb}
use Rattle.std.proofs.lemmas.List.Splits.{length-slice_split}
use Rattle.rv_ledger.specs.declared.rules.Rules.{Rules}
use Rattle.block_file.specs.declared.fault.Cause.TheVariants.{BadHeader, BadLine}
use Rattle.block_file.specs.declared.fault.BlockFault.{BlockFault}
use Rattle.block_file.specs.Line.{cut, on_line}
use Rattle.block_file.specs.Block.{Parsed, BlockValue, nothing_parsed, with_line, lines_from, parts_after, rules_of, first_format, second_format, block_of_parts}
use Rattle.block_file.proofs.Lines.{later}

abbrev FromFirst : Result BlockValue BlockFault → Type 0
FromFirst said = IfErr said (λ first. 1 ≤ first.line)

from_body : (n : ℕ) (none : Bool) (body : Result Parsed BlockFault) → 1 ≤ n → IfErr body (λ first. n + 1 ≤ first.line)
    → FromFirst (if none then Err (record { line = n; cause = BadLine }) else result_map_both (λ s. s.block) (λ fault. fault) body)
from_body n true body low h = low
from_body n false (Ok s) low h = tt
from_body n false (Err fault) low h = omega arith

from_behind : (n : ℕ) (rules : Rules) (parts : List (List ℕ)) → 1 ≤ n → FromFirst (parts_after n rules parts)
from_behind n rules parts low = from_body n (length parts == 0) (lines_from (n + 1) rules parts) low (later with_line BadLine (n + 1) (nothing_parsed rules) parts)

from_second : (parts : List (List ℕ)) → FromFirst (second_format parts)
from_second [] = lit≤ tt
from_second (line ∷ rest) = by (rules_of line)
  where
    by : (o : Option Rules) → FromFirst (on_line 2 (ok_or o BadLine) (λ rules. parts_after 2 rules rest))
    by (Some rules) = from_behind 2 rules rest (lit≤ tt)
    by None = lit≤ tt

from_format : (one two : Bool) (first second : Result BlockValue BlockFault) → FromFirst first → FromFirst second
    → FromFirst (if one then first else if two then second else Err (record { line = 1; cause = BadHeader }))
from_format true two first second h i = h
from_format false true first second h i = i
from_format false false first second h i = lit≤ tt

pub from_first : (parts : List (List ℕ)) → FromFirst (block_of_parts parts)
from_first [] = lit≤ tt
from_first (header ∷ rest) =
    from_format (bytes_eq header (codes "rvblock 1")) (bytes_eq header (codes "rvblock 2")) (first_format rest) (second_format rest)
    (from_behind 1 _ rest (lit≤ tt)) (from_second rest)

-- a text has a line
pub behind_some : (n : ℕ) (rules : Rules) (text : List ℕ) → parts_after n rules (cut 10 text) ≡ result_map_both (λ s. s.block) (λ fault. fault) (lines_from (n + 1) rules (cut 10 text))
behind_some n rules text =
    let some : (length (cut 10 text) == 0) ≡ false = ne_eqb _ _ (λ (none : length (cut 10 text) ≡ 0). omega (arith, length-slice_split (λ b. b == 10) text)) in
    ap (λ none. if none then Err (record { line = n; cause = BadLine }) else result_map_both (λ s. s.block) (λ fault. fault) (lines_from (n + 1) rules (cut 10 text))) some
