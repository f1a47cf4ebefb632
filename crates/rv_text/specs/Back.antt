-- Assembling the texts of words: the words come back.
use Rattle.std.specs.Prelude.{◌≡◌, ◌++◌, ℕ, List, [], None, Result, Ok, IsOkAnd, codes, flat_map}
use Rattle.rv_isa.specs.Word.{word_of}
use Rattle.rv_names.specs.Line.{line_of}
use Rattle.rv_names.specs.Statements.{TextLine}
use Rattle.rv_names.specs.Text.{disassembly}
use Rattle.rv_names.specs.declared.lines.LineCause.{LineCause}
use Rattle.rv_names.specs.declared.lines.Section.TheVariants.{Text}
use Rattle.rv_names.specs.declared.lines.Statement.{Statement}
use Rattle.rv_names.specs.declared.lines.Statement.TheVariants.{Plain, WordValue}
use Rattle.rv_text.specs.Assembly.{assembled}

-- a statement that stands for one word alone
abbrev pub IsWord : Statement → ℕ → Type 0
IsWord (Plain instr) word = word_of instr ≡ word
IsWord (WordValue n) word = n ≡ word
IsWord _ word = ⊥

-- a line without a label whose statement stands for one word alone
abbrev pub IsLineOf : ℕ → Result TextLine LineCause → Type 0
IsLineOf word r = IsOkAnd r (λ line. (line.label ≡ None) × IsWord line.statement word)

-- the text of a word is a line of source that stands for it
abbrev pub IsReadBack : ℕ → Type 0
IsReadBack word = IsLineOf word (line_of Text (disassembly word))

-- the texts of some words, each on a line of its own
abbrev pub listing : List ℕ → List ℕ
listing words = flat_map (λ word. disassembly word ++ codes "\n") words

-- the listing of words, as a source, gives the program with just these words and no data
abbrev pub IsAssembledBack : List ℕ → Type 0
IsAssembledBack words = assembled (listing words) ≡ Ok (record { text = words; data_bytes = [] })
