-- The program's sections are sized, and text is not empty.
use Rattle.std.proofs.Common.{◌≡◌, ◌≢◌, ℕ, false, List, [], ◌∷◌, length}
use Rattle.std.specs.Prelude.{◌==◌}
use Rattle.elf32.proofs.Loads.{file_loads}
use Rattle.elf32.proofs.writing.write.Goals as goal

some_words : (words text : List ℕ) → words ≡ text → false ≡ (length words == 0) → text ≢ []
some_words [] text same test = cc
some_words (w ∷ words) text same test = λ none. cc

pub returns-in-Ok-clause-loads : goal.returns-in-Ok-clause-loads
returns-in-Ok-clause-loads c =
    let some = some_words c.text.result.now c.args.program.now.text c.text.ensures.value c.if-is_empty.ensures in
    rw c.in-Ok.ensures (file_loads c.args.program.now c.text.ensures.sized some)
