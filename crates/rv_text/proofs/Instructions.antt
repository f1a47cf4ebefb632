-- The text of each instruction is one line that says it.
use Rattle.std.proofs.Common.{◌≡◌, ℕ, ◌-◌, ◌^◌, ◌<◌, ◌==◌, Bool, true, false, List, [], ◌∷◌, ◌++◌, length, Option, Some, None, Result, Ok, ℤ, pos, negsuc, arith, refl, ap, sym, ◌∙◌, length-append, if◌then◌else◌}
use Rattle.std.specs.Prelude.{◌≤ℤ◌, slice_index}
use Rattle.std.proofs.lemmas.Bool.Decides.{nat_tests}
use Rattle.std.proofs.lemmas.Int.{ints}
use Rattle.std.proofs.Math.Seq.{take-append_seam, get_or-append_seam}
use Rattle.std.specs.Fmt.{signed_decimal}
use Rattle.std.specs.List.{list_any, before_first, after_first}
use Rattle.rv_isa.specs.Word.{word_of}
use Rattle.rv_isa.specs.declared.register.Reg.{Reg}
use Rattle.rv_isa.specs.declared.operands.Immediate.{Immediate}
use Rattle.rv_isa.specs.declared.operands.BranchOffset.{BranchOffset}
use Rattle.rv_isa.specs.declared.operands.JumpOffset.{JumpOffset}
use Rattle.rv_isa.specs.declared.operands.Upper.{Upper}
use Rattle.rv_isa.specs.declared.operands.ShiftAmount.{ShiftAmount}
use Rattle.rv_isa.specs.declared.instruction.Instr.{Instr}
use Rattle.rv_isa.specs.declared.instruction.Instr.TheVariants.{Lui, Auipc, Jal, Jalr, Branch, Load, Store, ComputeImmediate, ShiftImmediate, Compute, Fence, Ecall, Ebreak}
use Rattle.rv_names.specs.Registers.{x_name}
use Rattle.rv_names.specs.Mnemonics.{mnemonic}
use Rattle.rv_names.specs.Operands.{◌>>=◌, is_comma, no_operand, one_operand, two_operands, three_operands, inside_parenthesis, place_operand, target_operand}
use Rattle.rv_names.specs.Text.{command, upper_text, place_text, word_directive, fence_text, instruction_text, text_or_word, disassembly}
use Rattle.rv_names.specs.Statements.{TextLine, saying, lui, auipc, jal, jalr, branch, load, store, compute_immediate, shift_immediate, compute, word_statement, fence, keyword_statement, may_stand_in, statement_of}
use Rattle.rv_names.specs.Line.{line_of}
use Rattle.rv_names.specs.declared.keywords.Keyword.{Keyword}
use Rattle.rv_names.specs.declared.keywords.Keyword.TheVariants as keyword
use Rattle.rv_names.specs.declared.target.Target.TheVariants.{Number}
use Rattle.rv_names.specs.declared.lines.Section.TheVariants.{Text}
use Rattle.rv_names.specs.declared.lines.LineCause.{LineCause}
use Rattle.rv_names.specs.declared.lines.Statement.{Statement}
use Rattle.rv_names.specs.declared.lines.Statement.TheVariants.{Plain, WordValue}
use Rattle.rv_text.proofs.Cuts.{none_of_both, before_at, after_at}
use Rattle.rv_text.proofs.Lines.{is_mark, no_blank, no_line_feed, line_with, line_alone, one_read, two_read, three_read}
use Rattle.rv_text.proofs.Atoms.{IsAtom, register_read, register_atom, signed_read, signed_atom, upper_read, upper_atom, word_read, word_atom}
use Rattle.rv_text.proofs.Held.{immediate_held, branch_held, jump_held, upper_held, amount_held, word_held, known}
use Rattle.rv_isa.specs.Decoded.{decoded}
use Rattle.rv_text.specs.Back.{IsWord, IsLineOf, IsReadBack}

-- an operand of a line
record IsOperand (text : List ℕ) : Type 0 where
  some : 0 < length text
  marks : list_any is_mark text ≡ false
  commas : list_any is_comma text ≡ false

atom_operand : (text : List ℕ) → IsAtom text → IsOperand text
atom_operand text a = record { some = a.some; marks = a.marks; commas = a.commas }

-- ---- lines by their number of operands

-- no byte is a line feed
abbrev pub IsOneLine : List ℕ → Type 0
IsOneLine text = list_any (λ b. b == 10) text ≡ false

-- the text is one line, which has this statement and no label
abbrev Says : List ℕ → Statement → Type 0
Says text statement = (line_of Text text ≡ Ok (saying statement)) × IsOneLine text

-- a line without a label
abbrev unlabelled : Result TextLine LineCause → Result TextLine LineCause
unlabelled r = r >>= λ said. Ok (record said { label = None })

-- the statement that operands make of a keyword
abbrev States : Keyword → List ℕ → Statement → Type 0
States keyword rest statement = statement_of Text keyword rest ≡ Ok (saying statement)

no_line : (keyword : Keyword) (statement : Statement) → States keyword [] statement → Says (mnemonic keyword) statement
no_line keyword statement e =
    let k = known keyword in
    (line_alone Text (mnemonic keyword) keyword k.some k.marks k.found ∙ ap unlabelled e, no_line_feed (mnemonic keyword) k.marks)

one_lined : (keyword : Keyword) (rest : List ℕ) → list_any is_mark rest ≡ false → IsOneLine (mnemonic keyword ++ 32 ∷ rest)
one_lined keyword rest h = none_of_both (λ b. b == 10) (mnemonic keyword) (32 ∷ rest) (no_line_feed (mnemonic keyword) (known keyword).marks) (no_line_feed rest h)

some_line : (keyword : Keyword) (rest : List ℕ) (statement : Statement) → 0 < length rest → list_any is_mark rest ≡ false → States keyword rest statement → Says (mnemonic keyword ++ 32 ∷ rest) statement
some_line keyword rest statement some marks e =
    let k = known keyword in
    (line_with Text (mnemonic keyword) rest keyword k.some k.marks some marks k.found ∙ ap unlabelled e, one_lined keyword rest marks)

one_line : (keyword : Keyword) {a : List ℕ} (statement : Statement) → IsOperand a → (one_operand a ≡ Ok a → States keyword a statement) → Says (command keyword (a ∷ [])) statement
one_line keyword {a} statement o e = some_line keyword a statement o.some o.marks (e (one_read a o.some o.commas (no_blank a o.marks)))

two_line : (keyword : Keyword) {a b : List ℕ} (statement : Statement) → IsOperand a → IsOperand b → ((rest : List ℕ) → two_operands rest ≡ Ok (a, b) → States keyword rest statement) → Says (command keyword (a ∷ b ∷ [])) statement
two_line keyword {a} {b} statement o p e =
    some_line keyword (a ++ 44 ∷ b) statement (omega (arith, length-append a (44 ∷ b))) (none_of_both is_mark a (44 ∷ b) o.marks p.marks)
    (e _ (two_read a b o.commas (no_blank a o.marks) p.commas (no_blank b p.marks)))

three_line : (keyword : Keyword) {a b c : List ℕ} (statement : Statement) → IsOperand a → IsOperand b → IsOperand c → ((rest : List ℕ) → three_operands rest ≡ Ok (a, b, c) → States keyword rest statement) → Says (command keyword (a ∷ b ∷ c ∷ [])) statement
three_line keyword {a} {b} {c} statement o p q e =
    some_line keyword (a ++ 44 ∷ (b ++ 44 ∷ c)) statement (omega (arith, length-append a (44 ∷ (b ++ 44 ∷ c)))) (none_of_both is_mark a (44 ∷ (b ++ 44 ∷ c)) o.marks (none_of_both is_mark b (44 ∷ c) p.marks q.marks))
    (e _ (three_read a b c o.commas (no_blank a o.marks) p.commas (no_blank b p.marks) q.commas (no_blank c q.marks)))

-- ---- operands

register_operand_of : (r : Reg) → IsOperand (x_name r)
register_operand_of r = atom_operand (x_name r) (register_atom r)

abbrev IsSmall : ℤ → Type 0
IsSmall z = (negsuc 2097151 ≤ℤ z) × (z ≤ℤ pos 2097151)

signed_operand : (z : ℤ) → IsSmall z → IsOperand (signed_decimal z)
signed_operand z h = atom_operand (signed_decimal z) (signed_atom z h)

upper_operand : (m : Upper) → IsOperand (upper_text m)
upper_operand m = atom_operand (upper_text m) (upper_atom m.value m.in_range)

immediate_small : (m : Immediate) → IsSmall m.value
immediate_small m = (omega (arith, ints, m.in_range.0), omega (arith, ints, m.in_range.1))

branch_small : (m : BranchOffset) → IsSmall m.value
branch_small m = (omega (arith, ints, m.in_range.0), omega (arith, ints, m.in_range.1))

jump_small : (m : JumpOffset) → IsSmall m.value
jump_small m = (omega (arith, ints, m.in_range.0), omega (arith, ints, m.in_range.1))

amount_small : (m : ShiftAmount) → IsSmall (pos m.value)
amount_small m = (omega (arith, ints), omega (arith, ints, m.in_range))

last_place : (xs : List ℕ) → slice_index (xs ++ 41 ∷ []) (length (xs ++ 41 ∷ []) - 1) ≡ 41
last_place xs =
    let e : length (xs ++ 41 ∷ []) - 1 ≡ length xs = omega (arith, length-append xs (41 ∷ [])) in
    rw e (get_or-append_seam xs 41 [] 0)

inside_read : (name : List ℕ) → inside_parenthesis (name ++ 41 ∷ []) ≡ Ok name
inside_read name =
    let e : length (name ++ 41 ∷ []) - 1 ≡ length name = omega (arith, length-append name (41 ∷ [])) in
    rw (last_place name) (ap Ok (rw e (take-append_seam name (41 ∷ []))))

place_read : (offset : Immediate) (base : Reg) → place_operand (place_text offset base) ≡ Ok (offset.value, base)
unfolding place_operand
place_read offset base =
    let a = signed_atom offset.value (immediate_small offset) in
    let front : before_first (λ b. b == 40) (place_text offset base) ≡ signed_decimal offset.value = before_at (λ b. b == 40) (signed_decimal offset.value) 40 (x_name base ++ 41 ∷ []) a.opens refl in
    let rest : after_first (λ b. b == 40) (place_text offset base) ≡ x_name base ++ 41 ∷ [] = after_at (λ b. b == 40) (signed_decimal offset.value) 40 (x_name base ++ 41 ∷ []) a.opens refl in
    rw (front, rest, signed_read offset.value (immediate_small offset), inside_read (x_name base), register_read base) refl

place_operand_of : (offset : Immediate) (base : Reg) → IsOperand (place_text offset base)
place_operand_of offset base =
    let a = signed_atom offset.value (immediate_small offset) in
    let b = register_atom base in
    record {
      some = omega (arith, length-append (signed_decimal offset.value) (40 ∷ (x_name base ++ 41 ∷ [])));
      marks = none_of_both is_mark (signed_decimal offset.value) (40 ∷ (x_name base ++ 41 ∷ [])) a.marks (none_of_both is_mark (x_name base) (41 ∷ []) b.marks refl);
      commas = none_of_both is_comma (signed_decimal offset.value) (40 ∷ (x_name base ++ 41 ∷ [])) a.commas (none_of_both is_comma (x_name base) (41 ∷ []) b.commas refl);
    }

target_read : (z : ℤ) → IsSmall z → target_operand (signed_decimal z) ≡ Ok (Number z)
unfolding target_operand
target_read z h = rw (signed_read z h) refl

-- ---- instructions

-- what the text of an instruction says; the text of a FENCE depends on its word
abbrev IsSaid : Instr → Type 0
IsSaid (Fence rd source m) = Unit {0}
IsSaid x = Says (instruction_text x) (Plain x)

said : (x : Instr) → IsSaid x
unfolding instruction_text statement_of may_stand_in keyword_statement no_operand lui auipc jal jalr branch load store compute_immediate shift_immediate compute
said (Lui rd m) =
    two_line keyword.Lui _ (register_operand_of rd) (upper_operand m) (λ rest e. rw (e, register_read rd, upper_read m.value m.in_range, upper_held m) refl)
said (Auipc rd m) =
    two_line keyword.Auipc _ (register_operand_of rd) (upper_operand m) (λ rest e. rw (e, register_read rd, upper_read m.value m.in_range, upper_held m) refl)
said (Jal rd m) =
    two_line keyword.Jal _ (register_operand_of rd) (signed_operand m.value (jump_small m)) (λ rest e. rw (e, register_read rd, target_read m.value (jump_small m), jump_held m) refl)
said (Jalr rd base m) =
    two_line keyword.Jalr _ (register_operand_of rd) (place_operand_of m base) (λ rest e. rw (e, register_read rd, place_read m base, immediate_held m) refl)
said (Branch condition left right m) =
    three_line (keyword.Branch condition) _ (register_operand_of left) (register_operand_of right) (signed_operand m.value (branch_small m))
    (λ rest e. rw (e, register_read left, register_read right, target_read m.value (branch_small m), branch_held m) refl)
said (Load kind rd base m) =
    two_line (keyword.Load kind) _ (register_operand_of rd) (place_operand_of m base) (λ rest e. rw (e, register_read rd, place_read m base, immediate_held m) refl)
said (Store kind source base m) =
    two_line (keyword.Store kind) _ (register_operand_of source) (place_operand_of m base) (λ rest e. rw (e, register_read source, place_read m base, immediate_held m) refl)
said (ComputeImmediate operation rd source m) =
    three_line (keyword.ComputeImmediate operation) _ (register_operand_of rd) (register_operand_of source) (signed_operand m.value (immediate_small m))
    (λ rest e. rw (e, register_read rd, register_read source, signed_read m.value (immediate_small m), immediate_held m) refl)
said (ShiftImmediate shift rd source m) =
    three_line (keyword.ShiftImmediate shift) _ (register_operand_of rd) (register_operand_of source) (signed_operand (pos m.value) (amount_small m))
    (λ rest e. rw (e, register_read rd, register_read source, signed_read (pos m.value) (amount_small m), amount_held m) refl)
said (Compute operation rd left right) =
    three_line (keyword.Compute operation) _ (register_operand_of rd) (register_operand_of left) (register_operand_of right)
    (λ rest e. rw (e, register_read rd, register_read left, register_read right) refl)
said (Fence rd source m) = tt
said Ecall = no_line keyword.Ecall _ refl
said Ebreak = no_line keyword.Ebreak _ refl

fence_said : Says (mnemonic keyword.Fence) (Plain fence)
unfolding statement_of may_stand_in keyword_statement no_operand
fence_said = no_line keyword.Fence _ refl

word_said : (word : ℕ) → word < 2 ^ 32 → Says (word_directive word) (WordValue word)
unfolding statement_of may_stand_in keyword_statement word_statement
word_said word small = one_line keyword.WordDirective _ (atom_operand _ (word_atom word)) (λ e. rw (e, word_read word small, word_held word small) refl)

-- ---- words

says_word : (text : List ℕ) (statement : Statement) (word : ℕ) → Says text statement → IsWord statement word → IsLineOf word (line_of Text text)
says_word text statement word s h = rw s.0 (refl, h)

fence_line : (word : ℕ) → word < 2 ^ 32 → IsLineOf word (line_of Text (fence_text word))
fence_line word small = go (word == 0x0ff0000f) refl
  where
    go : (b : Bool) → (word == 0x0ff0000f) ≡ b → IsLineOf word (line_of Text (fence_text word))
    go true e = let same : word ≡ 0x0ff0000f = grind (arith, nat_tests) in rw e (says_word (mnemonic keyword.Fence) (Plain fence) word fence_said (sym same))
    go false e = rw e (says_word (word_directive word) (WordValue word) word (word_said word small) refl)

-- the text of a word's instruction is a line that stands for the word
instr_line : (x : Instr) (word : ℕ) → word < 2 ^ 32 → word_of x ≡ word → IsLineOf word (line_of Text (instruction_text x))
unfolding instruction_text
instr_line (Fence rd source m) word small e = rw e (fence_line word small)
instr_line x word small e = says_word (instruction_text x) (Plain x) word (said x) e

-- with the instruction that a word has, or with none
text_line : (word : ℕ) → word < 2 ^ 32 → (o : Option Instr) → ((x : Instr) → o ≡ Some x → word_of x ≡ word) → IsLineOf word (line_of Text (text_or_word word o))
text_line word small None f = says_word (word_directive word) (WordValue word) word (word_said word small) refl
text_line word small (Some x) f = instr_line x word small (f x refl)

-- the text of a word is a line that stands for the word
pub read_back : (word : ℕ) → word < 2 ^ 32 → (o : Option Instr) → o ≡ decoded word → ((x : Instr) → o ≡ Some x → word_of x ≡ word) → IsReadBack word
unfolding disassembly
read_back word small o e f = rw (← e) (text_line word small o f)

-- ---- the text of a word has no line feed

directive_one_line : (word : ℕ) → IsOneLine (word_directive word)
directive_one_line word = one_lined keyword.WordDirective _ (word_atom word).marks

fence_one_line : (word : ℕ) → IsOneLine (fence_text word)
fence_one_line word = by (word == 0x0ff0000f)
  where
    by : (b : Bool) → IsOneLine (if b then mnemonic keyword.Fence else word_directive word)
    by true = fence_said.1
    by false = directive_one_line word

instr_one_line : (x : Instr) → IsOneLine (instruction_text x)
unfolding instruction_text
instr_one_line (Fence rd source m) = fence_one_line (word_of (Fence rd source m))
instr_one_line x = (said x).1

pub disassembly_is_one_line : (word : ℕ) → IsOneLine (disassembly word)
unfolding disassembly
disassembly_is_one_line word = by (decoded word)
  where
    by : (o : Option Instr) → IsOneLine (text_or_word word o)
    by None = directive_one_line word
    by (Some x) = instr_one_line x
