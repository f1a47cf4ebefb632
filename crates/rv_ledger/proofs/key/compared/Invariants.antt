use Rattle.std.proofs.Common.{◌≡◌, ◌*◌, drop}
use Rattle.std.specs.Cmp.Lexicographic.{slice_cmp}
use Rattle.std.specs.Ordering.{nat_cmp}
use Rattle.rv_ledger.proofs.key.compared.Given as goal

abbrev pub invariant-loop-word : goal.invariant-loop-word
invariant-loop-word l = slice_cmp nat_cmp l.left l.right ≡ slice_cmp nat_cmp (drop (l.word * 8) l.left) (drop (l.word * 8) l.right)
