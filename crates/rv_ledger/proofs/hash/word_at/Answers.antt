use Rattle.std.proofs.Common.{◌∙◌, add-zero}
use Rattle.std.proofs.lemmas.List.{get_or-drop}
use Rattle.rv_ledger.specs.KeyHash.{key_word}
use Rattle.rv_ledger.proofs.hash.word_at.Goals as goal

pub returns : goal.returns
unfolding key_word
returns c = c.from_le_bytes.ensures ∙ simp (get_or-drop, add-zero)
