-- The names of the registers: RISC-V Unprivileged ISA, chapter 25 "RISC-V Assembly Programmer's Handbook"
use Rattle.std.specs.Prelude.{ℕ, List, [], ◌∷◌, get_or, codes, Option, Some, if◌then◌else◌}
use Rattle.std.specs.Option.{option_map, option_or}
use Rattle.std.specs.List.{position}
use Rattle.std.specs.Str.{bytes_eq}
use Rattle.rv_isa.specs.declared.register.Reg.{Reg}
use Rattle.rv_isa.specs.Decoding.{register_at}

-- x0 to x31 by their numbers
abbrev pub x_names : List (List ℕ)
x_names =
    codes "x0" ∷ codes "x1" ∷ codes "x2" ∷ codes "x3" ∷ codes "x4" ∷ codes "x5" ∷ codes "x6" ∷ codes "x7"
    ∷ codes "x8" ∷ codes "x9" ∷ codes "x10" ∷ codes "x11" ∷ codes "x12" ∷ codes "x13" ∷ codes "x14" ∷ codes "x15"
    ∷ codes "x16" ∷ codes "x17" ∷ codes "x18" ∷ codes "x19" ∷ codes "x20" ∷ codes "x21" ∷ codes "x22" ∷ codes "x23"
    ∷ codes "x24" ∷ codes "x25" ∷ codes "x26" ∷ codes "x27" ∷ codes "x28" ∷ codes "x29" ∷ codes "x30" ∷ codes "x31" ∷ []

-- the names of the calling convention, of x0 to x31
abbrev pub abi_names : List (List ℕ)
abi_names =
    codes "zero" ∷ codes "ra" ∷ codes "sp" ∷ codes "gp" ∷ codes "tp" ∷ codes "t0" ∷ codes "t1" ∷ codes "t2"
    ∷ codes "s0" ∷ codes "s1" ∷ codes "a0" ∷ codes "a1" ∷ codes "a2" ∷ codes "a3" ∷ codes "a4" ∷ codes "a5"
    ∷ codes "a6" ∷ codes "a7" ∷ codes "s2" ∷ codes "s3" ∷ codes "s4" ∷ codes "s5" ∷ codes "s6" ∷ codes "s7"
    ∷ codes "s8" ∷ codes "s9" ∷ codes "s10" ∷ codes "s11" ∷ codes "t3" ∷ codes "t4" ∷ codes "t5" ∷ codes "t6" ∷ []

-- the place of a text in a table of names
abbrev pub place_in : List (List ℕ) → List ℕ → Option ℕ
place_in names text = position (λ name. bytes_eq name text) names

-- the number of the register that a text names; `fp` is s0
abbrev pub register_number : List ℕ → Option ℕ
register_number text =
    if bytes_eq (codes "fp") text then Some 8 else option_or (place_in x_names text) (place_in abi_names text)

-- the register that a text names
unfoldable pub register_of : List ℕ → Option Reg
register_of text = option_map register_at (register_number text)

unfoldable pub x_name : Reg → List ℕ
x_name register = get_or x_names register.number []
