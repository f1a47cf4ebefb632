use Rattle.std.proofs.Common.{◌≡◌, ◌*◌, ◌-◌, ◌≤◌, length, take, Ok}
use Rattle.block_file.specs.Line.{hex_of}
use Rattle.block_file.proofs.hex_text.decode.Given as goal

-- the digits so far are read, and their bytes are written
abbrev pub invariant-loop-out : goal.invariant-loop-out
invariant-loop-out l = record {
  within : l.at ≤ length l.out;
  read : hex_of (take (2 * l.at) l.text) ≡ Ok (take l.at l.out);
}

abbrev pub decreases-loop-out : goal.decreases-loop-out
decreases-loop-out l = length l.out - l.at
