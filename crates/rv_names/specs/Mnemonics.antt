-- The mnemonics: RISC-V Unprivileged ISA, chapters 24 and 25, and the directives
use Rattle.std.specs.Prelude.{ℕ, List, [], ◌∷◌, codes, Option}
use Rattle.std.specs.List.{find}
use Rattle.std.specs.Str.{bytes_eq}
use Rattle.rv_isa.specs.declared.instruction.Condition.{Condition}
use Rattle.rv_isa.specs.declared.instruction.Condition.TheVariants.{Beq, Bne, Blt, Bge, Bltu, Bgeu}
use Rattle.rv_isa.specs.declared.instruction.LoadKind.{LoadKind}
use Rattle.rv_isa.specs.declared.instruction.LoadKind.TheVariants.{Lb, Lh, Lw, Lbu, Lhu}
use Rattle.rv_isa.specs.declared.instruction.StoreKind.{StoreKind}
use Rattle.rv_isa.specs.declared.instruction.StoreKind.TheVariants.{Sb, Sh, Sw}
use Rattle.rv_isa.specs.declared.instruction.ImmediateOperation.{ImmediateOperation}
use Rattle.rv_isa.specs.declared.instruction.ImmediateOperation.TheVariants.{Addi, Slti, Sltiu, Xori, Ori, Andi}
use Rattle.rv_isa.specs.declared.instruction.Shift.{Shift}
use Rattle.rv_isa.specs.declared.instruction.Shift.TheVariants.{Slli, Srli, Srai}
use Rattle.rv_isa.specs.declared.instruction.Operation.{Operation}
use Rattle.rv_isa.specs.declared.instruction.Operation.TheVariants.{Add, Sub, Sll, Slt, Sltu, Xor, Srl, Sra, Or, And, Mul, Mulh, Mulhsu, Mulhu, Div, Divu, Rem, Remu}
use Rattle.rv_names.specs.declared.keywords.Keyword.{Keyword}
use Rattle.rv_names.specs.declared.keywords.Keyword.TheVariants.{Lui, Auipc, Jal, Jalr, Branch, Load, Store, ComputeImmediate, ShiftImmediate, Compute, Fence, Ecall, Ebreak, Nop, Mv, J, Ret, Li, TextSection, DataSection, WordDirective, ByteDirective, ZeroDirective}

-- the mnemonic of a branch
abbrev pub condition_name : Condition → List ℕ
condition_name Beq = codes "beq"
condition_name Bne = codes "bne"
condition_name Blt = codes "blt"
condition_name Bge = codes "bge"
condition_name Bltu = codes "bltu"
condition_name Bgeu = codes "bgeu"

-- the mnemonic of a load
abbrev pub load_name : LoadKind → List ℕ
load_name Lb = codes "lb"
load_name Lh = codes "lh"
load_name Lw = codes "lw"
load_name Lbu = codes "lbu"
load_name Lhu = codes "lhu"

-- the mnemonic of a store
abbrev pub store_name : StoreKind → List ℕ
store_name Sb = codes "sb"
store_name Sh = codes "sh"
store_name Sw = codes "sw"

-- the mnemonic of an operation on a register and an immediate
abbrev pub immediate_name : ImmediateOperation → List ℕ
immediate_name Addi = codes "addi"
immediate_name Slti = codes "slti"
immediate_name Sltiu = codes "sltiu"
immediate_name Xori = codes "xori"
immediate_name Ori = codes "ori"
immediate_name Andi = codes "andi"

-- the mnemonic of a shift by a fixed amount
abbrev pub shift_name : Shift → List ℕ
shift_name Slli = codes "slli"
shift_name Srli = codes "srli"
shift_name Srai = codes "srai"

-- the mnemonic of an operation on two registers
abbrev pub operation_name : Operation → List ℕ
operation_name Add = codes "add"
operation_name Sub = codes "sub"
operation_name Sll = codes "sll"
operation_name Slt = codes "slt"
operation_name Sltu = codes "sltu"
operation_name Xor = codes "xor"
operation_name Srl = codes "srl"
operation_name Sra = codes "sra"
operation_name Or = codes "or"
operation_name And = codes "and"
operation_name Mul = codes "mul"
operation_name Mulh = codes "mulh"
operation_name Mulhsu = codes "mulhsu"
operation_name Mulhu = codes "mulhu"
operation_name Div = codes "div"
operation_name Divu = codes "divu"
operation_name Rem = codes "rem"
operation_name Remu = codes "remu"

-- the mnemonic or directive of each keyword
unfoldable pub mnemonic : Keyword → List ℕ
mnemonic Lui = codes "lui"
mnemonic Auipc = codes "auipc"
mnemonic Jal = codes "jal"
mnemonic Jalr = codes "jalr"
mnemonic (Branch condition) = condition_name condition
mnemonic (Load kind) = load_name kind
mnemonic (Store kind) = store_name kind
mnemonic (ComputeImmediate operation) = immediate_name operation
mnemonic (ShiftImmediate shift) = shift_name shift
mnemonic (Compute operation) = operation_name operation
mnemonic Fence = codes "fence"
mnemonic Ecall = codes "ecall"
mnemonic Ebreak = codes "ebreak"
mnemonic Nop = codes "nop"
mnemonic Mv = codes "mv"
mnemonic J = codes "j"
mnemonic Ret = codes "ret"
mnemonic Li = codes "li"
mnemonic TextSection = codes ".text"
mnemonic DataSection = codes ".data"
mnemonic WordDirective = codes ".word"
mnemonic ByteDirective = codes ".byte"
mnemonic ZeroDirective = codes ".zero"

-- every keyword
abbrev pub keywords : List Keyword
keywords =
    Lui ∷ Auipc ∷ Jal ∷ Jalr
    ∷ Branch Beq ∷ Branch Bne ∷ Branch Blt ∷ Branch Bge ∷ Branch Bltu ∷ Branch Bgeu
    ∷ Load Lb ∷ Load Lh ∷ Load Lw ∷ Load Lbu ∷ Load Lhu
    ∷ Store Sb ∷ Store Sh ∷ Store Sw
    ∷ ComputeImmediate Addi ∷ ComputeImmediate Slti ∷ ComputeImmediate Sltiu ∷ ComputeImmediate Xori ∷ ComputeImmediate Ori ∷ ComputeImmediate Andi
    ∷ ShiftImmediate Slli ∷ ShiftImmediate Srli ∷ ShiftImmediate Srai
    ∷ Compute Add ∷ Compute Sub ∷ Compute Sll ∷ Compute Slt ∷ Compute Sltu ∷ Compute Xor
    ∷ Compute Srl ∷ Compute Sra ∷ Compute Or ∷ Compute And
    ∷ Compute Mul ∷ Compute Mulh ∷ Compute Mulhsu ∷ Compute Mulhu
    ∷ Compute Div ∷ Compute Divu ∷ Compute Rem ∷ Compute Remu
    ∷ Fence ∷ Ecall ∷ Ebreak
    ∷ Nop ∷ Mv ∷ J ∷ Ret ∷ Li
    ∷ TextSection ∷ DataSection ∷ WordDirective ∷ ByteDirective ∷ ZeroDirective ∷ []

-- the keyword whose mnemonic or directive is `word`
unfoldable pub keyword_of : List ℕ → Option Keyword
keyword_of word = find (λ keyword. bytes_eq (mnemonic keyword) word) keywords
