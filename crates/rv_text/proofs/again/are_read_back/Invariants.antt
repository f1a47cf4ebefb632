use Rattle.std.proofs.Common.{ℕ, ◌<◌}
use Rattle.std.specs.Prelude.{slice_index}
use Rattle.rv_text.specs.Back.{IsReadBack}
use Rattle.rv_text.proofs.again.are_read_back.Given as goal

-- the texts of the words so far are read back
abbrev pub invariant-loop-word : goal.invariant-loop-word
invariant-loop-word l = (k : ℕ) → k < l.word-index → IsReadBack (slice_index l.words k)
