use Rattle.std.proofs.Common.{◌≡◌, ℕ, ◌<◌, ◌≤◌, ◌-◌, ◌==◌, false, length, get_or}
use Rattle.block_file.proofs.scan.place_of.Given as goal

-- the byte is at no place so far
abbrev pub invariant-loop-from : goal.invariant-loop-from
invariant-loop-from l = record {
  within : l.from ≤ length l.text;
  before : (k : ℕ) → k < l.from → (get_or l.text k 0 == l.byte) ≡ false;
}

abbrev pub decreases-loop-from : goal.decreases-loop-from
decreases-loop-from l = length l.text - l.from
