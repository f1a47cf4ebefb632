-- The statements of a line of source, each by the keyword of its mnemonic or directive.
use Rattle.std.specs.Prelude.{ℕ, ◌/◌, ◌%◌, ◌^◌, Bool, true, false, not, List, ℤ, pos, ◌-ℤ◌, unsigned_abs, Some, None, Result, Ok, Err, if◌then◌else◌}
use Rattle.std.specs.Option.{ok_or}
use Rattle.rv_isa.specs.Decoding.{register_at, immediate_at, upper_at}
use Rattle.rv_isa.specs.declared.register.Reg.{Reg}
use Rattle.rv_isa.specs.declared.instruction.Condition.{Condition}
use Rattle.rv_isa.specs.declared.instruction.LoadKind.{LoadKind}
use Rattle.rv_isa.specs.declared.instruction.StoreKind.{StoreKind}
use Rattle.rv_isa.specs.declared.instruction.ImmediateOperation.{ImmediateOperation}
use Rattle.rv_isa.specs.declared.instruction.ImmediateOperation.TheVariants.{Addi}
use Rattle.rv_isa.specs.declared.instruction.Shift.{Shift}
use Rattle.rv_isa.specs.declared.instruction.Operation.{Operation}
use Rattle.rv_isa.specs.declared.instruction.Instr.{Instr}
use Rattle.rv_isa.specs.declared.instruction.Instr.TheVariants.{Lui, Auipc, Jal, Jalr, Branch, Load, Store, ComputeImmediate, ShiftImmediate, Compute, Fence, Ecall, Ebreak}
use Rattle.rv_names.specs.Operands.{◌>>=◌, no_operand, one_operand, two_operands, three_operands, register_operand, number_operand, place_operand, target_operand, immediate_of, branch_offset_of, jump_offset_of, upper_of, amount_of, word_value_of, count_of}
use Rattle.rv_names.specs.declared.target.Target.{Target}
use Rattle.rv_names.specs.declared.target.Target.TheVariants.{Number, Label}
use Rattle.rv_names.specs.declared.keywords.Keyword.{Keyword}
use Rattle.rv_names.specs.declared.keywords.Keyword.TheVariants as keyword
use Rattle.rv_names.specs.declared.lines.Section.{Section}
use Rattle.rv_names.specs.declared.lines.Section.TheVariants.{Text, Data}
use Rattle.rv_names.specs.declared.lines.LineCause.{LineCause}
use Rattle.rv_names.specs.declared.lines.LineCause.TheVariants.{BadOperand, ImmediateRange}
use Rattle.rv_names.specs.declared.lines.Line.{Line}
use Rattle.rv_names.specs.declared.lines.Statement.{Statement}
use Rattle.rv_names.specs.declared.lines.Statement.TheVariants.{Plain, Pair, BranchTo, JumpTo, AddressOf, WordValue, ByteValue, ZeroBytes, Enter}

-- a line without its label; its names are texts
abbrev pub TextLine : Type 0
TextLine = Line (List ℕ)

-- a statement that names no label, and one that does
abbrev pub saying : Statement → TextLine
saying statement = record { label = None; statement = statement; target = None }

abbrev pub naming : List ℕ → Statement → TextLine
naming target statement = record { label = None; statement = statement; target = Some target }

-- ---- LUI and then ADDI

-- the parts of a number v below 2^32: LUI loads the high one, and ADDI adds the low one, which gives v modulo 2^32
abbrev pub low_of : ℕ → ℤ
low_of v = (immediate_at v).value

abbrev pub high_of : ℕ → ℕ
high_of v = unsigned_abs (pos v -ℤ low_of v) / 2 ^ 12 % 2 ^ 20

-- the two instructions that load a number below 2^32
unfoldable pub load_number : Reg → ℕ → Instr × Instr
load_number rd v = (Lui rd (upper_at (high_of v)), ComputeImmediate Addi rd rd (immediate_at v))

-- ---- instructions

-- `lui rd,N` and `auipc rd,N`
unfoldable pub lui : List ℕ → Result TextLine LineCause
lui rest = do
  operands ← two_operands rest
  rd ← register_operand operands.0
  n ← number_operand operands.1
  immediate ← upper_of n
  Ok (saying (Plain (Lui rd immediate)))

unfoldable pub auipc : List ℕ → Result TextLine LineCause
auipc rest = do
  operands ← two_operands rest
  rd ← register_operand operands.0
  n ← number_operand operands.1
  immediate ← upper_of n
  Ok (saying (Plain (Auipc rd immediate)))

-- JAL to a target
abbrev pub jump_to : Reg → Target (List ℕ) → Result TextLine LineCause
jump_to rd (Number n) = do
  offset ← ok_or (jump_offset_of n) ImmediateRange
  Ok (saying (Plain (Jal rd offset)))
jump_to rd (Label label) = Ok (naming label (JumpTo rd))

-- `jal rd,TARGET`
unfoldable pub jal : List ℕ → Result TextLine LineCause
jal rest = do
  operands ← two_operands rest
  rd ← register_operand operands.0
  target ← target_operand operands.1
  jump_to rd target

-- `jalr rd,N(rs1)`
unfoldable pub jalr : List ℕ → Result TextLine LineCause
jalr rest = do
  operands ← two_operands rest
  rd ← register_operand operands.0
  place ← place_operand operands.1
  offset ← immediate_of place.0
  Ok (saying (Plain (Jalr rd place.1 offset)))

-- a branch to a target
abbrev pub branch_to : Condition → Reg → Reg → Target (List ℕ) → Result TextLine LineCause
branch_to condition left right (Number n) = do
  offset ← ok_or (branch_offset_of n) ImmediateRange
  Ok (saying (Plain (Branch condition left right offset)))
branch_to condition left right (Label label) = Ok (naming label (BranchTo condition left right))

-- `beq rs1,rs2,TARGET`
unfoldable pub branch : Condition → List ℕ → Result TextLine LineCause
branch condition rest = do
  operands ← three_operands rest
  left ← register_operand operands.0
  right ← register_operand operands.1
  target ← target_operand operands.2
  branch_to condition left right target

-- `lw rd,N(rs1)`
unfoldable pub load : LoadKind → List ℕ → Result TextLine LineCause
load kind rest = do
  operands ← two_operands rest
  rd ← register_operand operands.0
  place ← place_operand operands.1
  offset ← immediate_of place.0
  Ok (saying (Plain (Load kind rd place.1 offset)))

-- `sw rs2,N(rs1)`
unfoldable pub store : StoreKind → List ℕ → Result TextLine LineCause
store kind rest = do
  operands ← two_operands rest
  source ← register_operand operands.0
  place ← place_operand operands.1
  offset ← immediate_of place.0
  Ok (saying (Plain (Store kind source place.1 offset)))

-- `addi rd,rs1,N`
unfoldable pub compute_immediate : ImmediateOperation → List ℕ → Result TextLine LineCause
compute_immediate operation rest = do
  operands ← three_operands rest
  rd ← register_operand operands.0
  source ← register_operand operands.1
  n ← number_operand operands.2
  immediate ← immediate_of n
  Ok (saying (Plain (ComputeImmediate operation rd source immediate)))

-- `slli rd,rs1,N`
unfoldable pub shift_immediate : Shift → List ℕ → Result TextLine LineCause
shift_immediate shift rest = do
  operands ← three_operands rest
  rd ← register_operand operands.0
  source ← register_operand operands.1
  n ← number_operand operands.2
  amount ← amount_of n
  Ok (saying (Plain (ShiftImmediate shift rd source amount)))

-- `add rd,rs1,rs2`
unfoldable pub compute : Operation → List ℕ → Result TextLine LineCause
compute operation rest = do
  operands ← three_operands rest
  rd ← register_operand operands.0
  left ← register_operand operands.1
  right ← register_operand operands.2
  Ok (saying (Plain (Compute operation rd left right)))

-- a statement without operands
abbrev pub alone : Statement → List ℕ → Result TextLine LineCause
alone statement rest = do
  none ← no_operand rest
  Ok (saying statement)

-- ---- pseudo-instructions

-- `fence` has the word 0x0ff0000f
abbrev pub fence : Instr
fence = Fence (register_at 0) (register_at 0) (immediate_at 0x0ff)

-- `nop` is `addi x0,x0,0`
abbrev pub nop : Instr
nop = ComputeImmediate Addi (register_at 0) (register_at 0) (immediate_at 0)

-- `ret` is `jalr x0,0(x1)`
abbrev pub ret : Instr
ret = Jalr (register_at 0) (register_at 1) (immediate_at 0)

-- `mv rd,rs` is `addi rd,rs,0`
unfoldable pub mv : List ℕ → Result TextLine LineCause
mv rest = do
  operands ← two_operands rest
  rd ← register_operand operands.0
  source ← register_operand operands.1
  Ok (saying (Plain (ComputeImmediate Addi rd source (immediate_at 0))))

-- `j TARGET` is `jal x0,TARGET`
unfoldable pub j : List ℕ → Result TextLine LineCause
j rest = do
  operand ← one_operand rest
  target ← target_operand operand
  jump_to (register_at 0) target

-- `li rd,N` and `li rd,LABEL`
abbrev pub load_target : Reg → Target (List ℕ) → Result TextLine LineCause
load_target rd (Number n) = do
  v ← word_value_of n
  Ok (saying (Pair (load_number rd v).0 (load_number rd v).1))
load_target rd (Label label) = Ok (naming label (AddressOf rd))

unfoldable pub li : List ℕ → Result TextLine LineCause
li rest = do
  operands ← two_operands rest
  rd ← register_operand operands.0
  target ← target_operand operands.1
  load_target rd target

-- ---- directives

-- the number of `.word N`, `.byte N` and `.zero N`
abbrev pub only_number : List ℕ → Result ℤ LineCause
only_number rest = do
  operand ← one_operand rest
  number_operand operand

unfoldable pub word_statement : List ℕ → Result TextLine LineCause
word_statement rest = do
  n ← only_number rest
  v ← word_value_of n
  Ok (saying (WordValue v))

unfoldable pub byte_statement : List ℕ → Result TextLine LineCause
byte_statement rest = do
  n ← only_number rest
  v ← count_of 255 n
  Ok (saying (ByteValue v))

unfoldable pub zero_statement : List ℕ → Result TextLine LineCause
zero_statement rest = do
  n ← only_number rest
  v ← count_of 65536 n
  Ok (saying (ZeroBytes v))

-- ---- all of them

-- the statement of a keyword, in a section that allows it
unfoldable pub keyword_statement : Keyword → List ℕ → Result TextLine LineCause
keyword_statement keyword.Lui rest = lui rest
keyword_statement keyword.Auipc rest = auipc rest
keyword_statement keyword.Jal rest = jal rest
keyword_statement keyword.Jalr rest = jalr rest
keyword_statement (keyword.Branch condition) rest = branch condition rest
keyword_statement (keyword.Load kind) rest = load kind rest
keyword_statement (keyword.Store kind) rest = store kind rest
keyword_statement (keyword.ComputeImmediate operation) rest = compute_immediate operation rest
keyword_statement (keyword.ShiftImmediate shift) rest = shift_immediate shift rest
keyword_statement (keyword.Compute operation) rest = compute operation rest
keyword_statement keyword.Fence rest = alone (Plain fence) rest
keyword_statement keyword.Ecall rest = alone (Plain Ecall) rest
keyword_statement keyword.Ebreak rest = alone (Plain Ebreak) rest
keyword_statement keyword.Nop rest = alone (Plain nop) rest
keyword_statement keyword.Mv rest = mv rest
keyword_statement keyword.J rest = j rest
keyword_statement keyword.Ret rest = alone (Plain ret) rest
keyword_statement keyword.Li rest = li rest
keyword_statement keyword.TextSection rest = alone (Enter Text) rest
keyword_statement keyword.DataSection rest = alone (Enter Data) rest
keyword_statement keyword.WordDirective rest = word_statement rest
keyword_statement keyword.ByteDirective rest = byte_statement rest
keyword_statement keyword.ZeroDirective rest = zero_statement rest

abbrev pub is_data : Section → Bool
is_data Text = false
is_data Data = true

-- `.byte` and `.zero` are allowed in data, `.word` in both sections, instructions in text
unfoldable pub may_stand_in : Section → Keyword → Bool
may_stand_in section keyword.TextSection = true
may_stand_in section keyword.DataSection = true
may_stand_in section keyword.WordDirective = true
may_stand_in section keyword.ByteDirective = is_data section
may_stand_in section keyword.ZeroDirective = is_data section
may_stand_in section _ = not (is_data section)

-- the statement of a keyword; BadOperand if the section does not allow it
unfoldable pub statement_of : Section → Keyword → List ℕ → Result TextLine LineCause
statement_of section keyword rest = if may_stand_in section keyword then keyword_statement keyword rest else Err BadOperand
