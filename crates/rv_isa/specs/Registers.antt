-- The register file: RISC-V Unprivileged ISA, 2.1 "Programmers' Model for Base Integer ISA"
use Rattle.std.specs.Prelude.{ℕ, List, replicate, ◌==◌, if◌then◌else◌, slice_set}

-- x0 to x31, each 0
abbrev pub zeros : List ℕ
zeros = replicate 32 0

-- the registers after value is written to x[rd]; x0 is hardwired with all bits equal to 0
abbrev pub written : List ℕ → ℕ → ℕ → List ℕ
written registers rd value = if rd == 0 then registers else slice_set registers rd value
