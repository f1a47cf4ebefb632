use Rattle.std.proofs.Common.{◌≡◌, ◌++◌, drop, map}
use Rattle.std.specs.String.{string_bytes}
use Rattle.receipts.specs.Text.{more_fields, word_text}
use Rattle.receipts.proofs.lines.push_words.Given as goal

-- the line so far, and the words that are left, make the line
abbrev pub invariant-loop-word : goal.invariant-loop-word
invariant-loop-word l =
    string_bytes l.line ++ more_fields (map word_text (drop l.word-index l.words))
    ≡ string_bytes l.fn.line ++ more_fields (map word_text l.words)
