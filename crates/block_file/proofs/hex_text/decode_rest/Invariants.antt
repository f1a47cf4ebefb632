use Rattle.std.proofs.Common.{◌≡◌, ℕ, ◌<◌, ◌*◌, true, slice_index, take, drop}
use Rattle.hex.specs.Hex.{decode_pairs}
use Rattle.hex.proofs.Pairs.{prepend}
use Rattle.block_file.specs.Line.{is_lower_digit}
use Rattle.block_file.proofs.hex_text.decode_rest.Given as goal

-- the digits so far are in lower case, and their bytes are written
abbrev pub invariant-loop-i : goal.invariant-loop-i
invariant-loop-i l = record {
  lower : (k : ℕ) → k < 2 * l.i → is_lower_digit (slice_index l.text k) ≡ true;
  decoded : decode_pairs 0 l.text ≡ prepend (take l.i l.out) (decode_pairs (2 * l.i) (drop (2 * l.i) l.text));
}
