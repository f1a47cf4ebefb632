-- Whole numbers and the bits that hold them: RISC-V Unprivileged ISA, 2.1 "Programmers' Model for Base Integer ISA" and 2.3 "Immediate Encoding Variants"
use Rattle.std.specs.Prelude.{ℕ, ℤ, pos, ◌/◌, ◌%◌, ◌^◌, ◌-ℤ◌, nat_lt, if◌then◌else◌, unsigned_abs}
use Rattle.std.specs.Int.{int_rem_euclid}

-- z modulo 2^k: the k-bit two's complement of z
abbrev pub residue : ℕ → ℤ → ℕ
residue k z = unsigned_abs (int_rem_euclid z (pos (2 ^ k)))

-- n[low + count - 1 : low], as a number
abbrev pub bits : ℕ → ℕ → ℕ → ℕ
bits n low count = n / 2 ^ low % 2 ^ count

-- the signed number that a register holding n stands for
abbrev pub signed : ℕ → ℤ
signed n = if nat_lt n (2 ^ 31) then pos n else (pos n -ℤ pos (2 ^ 32))

-- z modulo 2^32, as a register holds it
abbrev pub wrapped : ℤ → ℕ
wrapped z = residue 32 z

-- the k-bit number n with its top bit as its sign
abbrev pub extended : ℕ → ℕ → ℤ
extended k n = if nat_lt n (2 ^ k / 2) then pos n else (pos n -ℤ pos (2 ^ k))
