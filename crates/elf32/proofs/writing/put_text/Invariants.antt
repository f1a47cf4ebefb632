use Rattle.std.proofs.Common.{◌≡◌, ◌++◌, take}
use Rattle.elf32.specs.Written.{text_bytes}
use Rattle.elf32.proofs.writing.put_text.Given as goal

abbrev pub invariant-loop-word : goal.invariant-loop-word
invariant-loop-word l = l.file.items ≡ l.initial.file.items ++ text_bytes (take l.word-index l.text)
