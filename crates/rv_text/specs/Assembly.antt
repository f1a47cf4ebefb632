-- What a source stands for: the words and bytes of a program, or its first fault.
use Rattle.std.specs.Prelude.{◌≡◌, ◌⊎◌, ℕ, ◌+◌, ◌==◌, nat_lt, List, [], ◌∷◌, ◌++◌, length, replicate, ℤ, pos, ◌-ℤ◌, Option, Some, None, is_some, Result, Ok, Err, if◌then◌else◌}
use Rattle.std.specs.List.{slice_split, find}
use Rattle.std.specs.Option.{ok_or, option_map}
use Rattle.std.specs.Result.{result_map_both}
use Rattle.std.specs.Str.{bytes_eq}
use Rattle.std.specs.Int.{to_le_bytes, w32}
use Rattle.rv_isa.specs.Word.{word_of}
use Rattle.rv_isa.specs.declared.register.Reg.{Reg}
use Rattle.rv_isa.specs.declared.instruction.Condition.{Condition}
use Rattle.rv_isa.specs.declared.instruction.Instr.TheVariants.{Jal, Branch}
use Rattle.rv_names.specs.Line.{line_of}
use Rattle.rv_names.specs.Operands.{branch_offset_of, jump_offset_of}
use Rattle.rv_names.specs.Statements.{load_number}
use Rattle.rv_names.specs.declared.lines.LineCause.{LineCause}
use Rattle.rv_names.specs.declared.lines.LineCause.TheVariants as alone
use Rattle.rv_names.specs.declared.lines.Line.{Line}
use Rattle.rv_names.specs.declared.lines.Section.{Section}
use Rattle.rv_names.specs.declared.lines.Section.TheVariants.{Text, Data}
use Rattle.rv_names.specs.declared.lines.Statement.{Statement}
use Rattle.rv_names.specs.declared.lines.Statement.TheVariants.{Empty, Plain, Pair, BranchTo, JumpTo, AddressOf, WordValue, ByteValue, ZeroBytes, Enter}
use Rattle.rv_program.specs.Sections.{Sections}
use Rattle.rv_text.specs.declared.fault.AsmCause.{AsmCause}
use Rattle.rv_text.specs.declared.fault.AsmCause.TheVariants.{UnknownMnemonic, BadOperand, ImmediateRange, UnknownLabel, DuplicateLabel, LabelRange, TooLarge, Memory}
use Rattle.rv_text.specs.declared.fault.AsmError.{AsmError}

-- continues with f if the first step gave a value; otherwise keeps its cause
infixl 10 ◌>>=◌
abbrev pub ◌>>=◌ : {A B : Type 0} → Result A AsmCause → (A → Result B AsmCause) → Result B AsmCause
(Ok x) >>= f = f x
(Err cause) >>= f = Err cause

-- continues with f if the first step gave a value; otherwise gives its cause on line n
abbrev pub on_line : {A B : Type 0} → ℕ → Result A AsmCause → (A → Result B AsmError) → Result B AsmError
on_line n (Ok x) f = f x
on_line n (Err cause) f = Err (record { line = n; cause = cause })

-- a statement of the text section, with its line, its address, and the label that it refers to
pub record Item : Type 0 where
  pub line : ℕ
  pub address : ℕ
  pub statement : Statement
  pub target : Option (List ℕ)

-- labels, in the order of their definitions, each with its place
abbrev pub Labels : Type 0
Labels = List (List ℕ × ℕ)

abbrev pub label_place : Labels → List ℕ → Option ℕ
label_place labels name = option_map (λ label. label.1) (find (λ label. bytes_eq name label.0) labels)

-- what the lines so far lay down: the section in force, the statements of text and how many bytes they take, the data,
-- and the labels
pub record SourceLayout : Type 0 where
  pub section : Section
  pub items : List Item
  pub text_size : ℕ
  pub data_bytes : List ℕ
  pub labels : Labels

-- the empty layout: no line is laid down, and text is in force
abbrev pub empty_layout : SourceLayout
empty_layout = record { section = Text; items = []; text_size = 0; data_bytes = []; labels = [] }

-- the place of the next byte of the section in force
abbrev pub next_place : Section → SourceLayout → ℕ
next_place Text l = 0x10000 + l.text_size
next_place Data l = 0x20000 + length l.data_bytes

-- ---- the faults of lines: 1, 2, 3, then 5, then 7

abbrev pub cause_of : LineCause → AsmCause
cause_of alone.UnknownMnemonic = UnknownMnemonic
cause_of alone.BadOperand = BadOperand
cause_of alone.ImmediateRange = ImmediateRange

-- a label names the place at which its line begins
unfoldable pub with_label : Option (List ℕ) → SourceLayout → Result SourceLayout AsmCause
with_label None l = Ok l
with_label (Some name) l =
    if is_some (label_place l.labels name) then Err DuplicateLabel else Ok (record l { labels = l.labels ++ (name, next_place l.section l) ∷ [] })

-- how many bytes a statement takes in text
abbrev pub text_bytes_of : Statement → ℕ
text_bytes_of (Pair first second) = 8
text_bytes_of (AddressOf rd) = 8
text_bytes_of _ = 4

-- the bytes that it lays down in data
abbrev pub data_bytes_of : Statement → List ℕ
data_bytes_of (WordValue word) = to_le_bytes w32 word
data_bytes_of (ByteValue byte) = byte ∷ []
data_bytes_of (ZeroBytes count) = replicate count 0
data_bytes_of _ = []

-- text has at most 65,536 bytes
unfoldable pub with_text : ℕ → Line (List ℕ) → SourceLayout → Result SourceLayout AsmCause
with_text n line l =
    if nat_lt 65536 (l.text_size + text_bytes_of line.statement) then Err TooLarge else
    Ok (record l {
      items = l.items ++ record { line = n; address = next_place Text l; statement = line.statement; target = line.target } ∷ [];
      text_size = l.text_size + text_bytes_of line.statement;
    })

-- data has at most 61,440
unfoldable pub with_data : List ℕ → SourceLayout → Result SourceLayout AsmCause
with_data bytes l =
    if nat_lt 61440 (length l.data_bytes + length bytes) then Err TooLarge else
    Ok (record l { data_bytes = l.data_bytes ++ bytes })

abbrev pub with_line_bytes : ℕ → Line (List ℕ) → Section → SourceLayout → Result SourceLayout AsmCause
with_line_bytes n line Text l = with_text n line l
with_line_bytes n line Data l = with_data (data_bytes_of line.statement) l

-- a statement in the section in force
abbrev pub with_statement : ℕ → Line (List ℕ) → Statement → SourceLayout → Result SourceLayout AsmCause
with_statement n line Empty l = Ok l
with_statement n line (Enter section) l = Ok (record l { section = section })
with_statement n line _ l = with_line_bytes n line l.section l

-- one line more
unfoldable pub with_source_line : ℕ → List ℕ → SourceLayout → Result SourceLayout AsmCause
with_source_line n text l = do
  line ← result_map_both (λ line. line) cause_of (line_of l.section text)
  labelled ← with_label line.label l
  with_statement n line line.statement labelled

-- all lines, from line n on
unfoldable pub layout_from : ℕ → List (List ℕ) → SourceLayout → Result SourceLayout AsmError
layout_from n [] l = Ok l
layout_from n (text ∷ texts) l = on_line n (with_source_line n text l) (λ m. layout_from (n + 1) texts m)

-- ---- the faults of labels, if no line has a fault: 4 and 6

-- the place of the label that an item refers to
abbrev pub target_place : Labels → Option (List ℕ) → Result ℕ AsmCause
target_place labels None = Err UnknownLabel
target_place labels (Some name) = ok_or (label_place labels name) UnknownLabel

-- a branch over a distance from its own address, and JAL
abbrev pub branch_words : Condition → Reg → Reg → ℤ → Result (List ℕ) AsmCause
branch_words condition left right distance = do
  offset ← ok_or (branch_offset_of distance) LabelRange
  Ok (word_of (Branch condition left right offset) ∷ [])

abbrev pub jump_words : Reg → ℤ → Result (List ℕ) AsmCause
jump_words rd distance = do
  offset ← ok_or (jump_offset_of distance) LabelRange
  Ok (word_of (Jal rd offset) ∷ [])

-- the words of a statement of text at an address
abbrev pub words_at : Labels → ℕ → Option (List ℕ) → Statement → Result (List ℕ) AsmCause
words_at labels address target (Plain instr) = Ok (word_of instr ∷ [])
words_at labels address target (Pair first second) = Ok (word_of first ∷ word_of second ∷ [])
words_at labels address target (WordValue word) = Ok (word ∷ [])
words_at labels address target (BranchTo condition left right) = do
  place ← target_place labels target
  branch_words condition left right (pos place -ℤ pos address)
words_at labels address target (JumpTo rd) = do
  place ← target_place labels target
  jump_words rd (pos place -ℤ pos address)
words_at labels address target (AddressOf rd) = do
  place ← target_place labels target
  Ok (word_of (load_number rd place).0 ∷ word_of (load_number rd place).1 ∷ [])
words_at labels address target _ = Ok []

unfoldable pub words_of_item : Labels → Item → Result (List ℕ) AsmCause
words_of_item labels item = words_at labels item.address item.target item.statement

-- the words of all items, in their order
unfoldable pub item_words : Labels → List Item → Result (List ℕ) AsmError
item_words labels [] = Ok []
item_words labels (item ∷ items) =
    on_line item.line (words_of_item labels item) (λ words. result_map_both (λ more. words ++ more) (λ fault. fault) (item_words labels items))

-- the program of what was laid down
abbrev pub assembled_program : SourceLayout → Result Sections AsmError
assembled_program l = result_map_both (λ text. record { text = text; data_bytes = l.data_bytes }) (λ fault. fault) (item_words l.labels l.items)

abbrev pub program_from : Result SourceLayout AsmError → Result Sections AsmError
program_from (Ok l) = assembled_program l
program_from (Err fault) = Err fault

-- what a source stands for; its lines are separated by LF and counted from 1
unfoldable pub assembled : List ℕ → Result Sections AsmError
assembled source = program_from (layout_from 1 (slice_split (λ b. b == 10) source) empty_layout)

-- a call returns what is wanted, or Memory on line 1, which may be returned for any source
abbrev pub GivesSections : Result Sections AsmError → Result Sections AsmError → Type 0
GivesSections (Ok program) want = want ≡ Ok program
GivesSections (Err fault) want = ((fault.cause ≡ Memory) × (fault.line ≡ 1)) ⊎ (want ≡ Err fault)
