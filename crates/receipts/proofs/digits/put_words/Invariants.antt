use Rattle.std.proofs.Common.{◌≡◌, ◌+◌, ◌*◌, ◌++◌, take}
use Rattle.receipts.proofs.Words.{fields}
use Rattle.receipts.proofs.digits.put_words.Given as goal

-- the words so far are in the line
abbrev pub invariant-loop-i : goal.invariant-loop-i
invariant-loop-i l = take (4 + 36 * l.i) l.line ≡ take 4 l.initial.line ++ fields (take (4 * l.i) l.words)
