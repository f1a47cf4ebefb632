-- What the parts of a chunk own and lend.
use Rattle.std.specs.Prelude.{ℕ, ◌+◌, ◌^◌, List, [], ◌∷◌, length}
use base.Fraction.{full_share}
use base.Fml.{Lft, Fml, ftrue, ffalse, fsep, flt, froom}
use mir.Syntax.{Ty, w8, ty_int, ty_array}
use denote.Builtin.{u8}
use denote.Memory.{part_at}
use denote.Sharing.{said, beside}
use denote.Slice.{elements_shared}
use denote.RawPtr.{Ptr, block_ptr, null_ptr}

-- the type of n bytes
abbrev pub bytes_type : ℕ → Ty
bytes_type n = ty_array (ty_int w8) n

-- written bytes side by side, the first of them o bytes into the block b
abbrev pub owns_bytes_at : ℕ → ℕ → List ℕ → Fml
owns_bytes_at b o [] = ftrue
owns_bytes_at b o (x ∷ xs) = fsep (part_at u8 full_share x b o) (owns_bytes_at b (o + 1) xs)

-- the bytes together are fewer than 2 ^ 63
abbrev pub fit : List ℕ → ℕ → Fml
fit xs n = flt (length xs + n) (2 ^ 63)

-- written bytes, and room for n more after them
abbrev pub bytes_own : Ptr → List ℕ → ℕ → Fml
bytes_own (block_ptr b o) xs n = fsep (fit xs n) (fsep (owns_bytes_at b o xs) (froom (bytes_type n) b (o + length xs)))
bytes_own null_ptr xs n = ffalse

-- the written bytes, lent
abbrev pub bytes_lent : Ptr → List ℕ → ℕ → Lft → Fml
bytes_lent (block_ptr b o) xs n = beside (said (fit xs n)) (elements_shared u8 xs b o)
bytes_lent null_ptr xs n = said ffalse

-- the allocator's token for a block of n bytes
abbrev pub allocation_owns : (Ty → Ptr → Fml) → Ptr → ℕ → Fml
allocation_owns token p n = token (bytes_type n) p
