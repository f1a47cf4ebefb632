use Rattle.std.proofs.Common.{◌≡◌, true, take}
use Rattle.std.specs.Char.{is_ascii_digit}
use Rattle.std.specs.List.{list_all}
use Rattle.block_file.specs.Line.{sum_of_digits}
use Rattle.block_file.proofs.fields.number.Given as goal

-- the bytes so far are digits, and what they write is counted
abbrev pub invariant-loop-byte : goal.invariant-loop-byte
invariant-loop-byte l = record {
  digits : list_all is_ascii_digit (take l.byte-index l.text) ≡ true;
  sum : l.number ≡ sum_of_digits (take l.byte-index l.text);
}
