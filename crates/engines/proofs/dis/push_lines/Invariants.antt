use Rattle.std.proofs.Common.{◌≡◌, ◌++◌, drop}
use Rattle.std.specs.String.{string_bytes}
use Rattle.std.specs.List.{flat_map}
use Rattle.engines.specs.Dis.{listing_line}
use Rattle.engines.proofs.dis.push_lines.Given as goal

-- the text so far, and the lines of the words that are left, make the text
abbrev pub invariant-loop-word : goal.invariant-loop-word
invariant-loop-word l =
    string_bytes l.text ++ flat_map listing_line (drop l.word-index l.words)
    ≡ string_bytes l.fn.text ++ flat_map listing_line l.words
