-- A `&` to the bytes is made. Assumes `Logic`.
use Prim.Native.Nat.{ℕ, ◌+◌}
use Rattle.std.specs.Prelude.{List, [], ◌∷◌}
use seplogic.Ra.Ura.{Ura}
use base.Fraction.{full_share}
use base.Fml.{Lft, ftrue, ffalse, fsep, froom}
use contract.BorrowLft.{⊑_static}
use types.Logic.{Logic}
use denote.Builtin.{u8}
use denote.Memory.{part_at, shared_of}
use denote.Param.Shared.{copy_shared}
use denote.Plain.{uint_row_laws}
use denote.RawPtr.{Ptr, block_ptr, null_ptr}
use denote.Shares.{Shares-less}
use denote.Sharing.{ShrLaws, said}
use denote.SharingLaws.{beside_shr_laws, said_shr_laws}
use denote.Slice.{elements_shared, elements_shr_laws}
use denote.Struct.Field.{u8-field}
use denote.Struct.Laws.{u8-copy}
use denote.Struct.Lending.{Lends, Lends-both, Lends-first, Lends-nothing, Lends-said, Lends-false}
use mir.Syntax.{w8}
use Rattle.version_arena.specs.Ownership.{bytes_type, owns_bytes_at, fit, bytes_own, bytes_lent}

pub bytes_lent_laws : (p : Ptr) (xs : List ℕ) (n : ℕ) → ShrLaws (bytes_lent p xs n)
bytes_lent_laws (block_ptr b o) xs n = beside_shr_laws _ _ (said_shr_laws (fit xs n) tt) (elements_shr_laws u8 (uint_row_laws w8) xs b o)
bytes_lent_laws null_ptr xs n = said_shr_laws ffalse tt

module _ {M : Type 1} {𝓤 : Ura M} (𝓛 : Logic 𝓤) (l : Lft) where
  Lends-bytes_at : (b o : ℕ) (xs : List ℕ) → Lends 𝓛 (owns_bytes_at b o xs) (elements_shared u8 xs b o) l
  Lends-bytes_at b o [] = Lends-nothing 𝓛 ftrue l
  Lends-bytes_at b o (x ∷ xs) =
      Lends-both 𝓛 (part_at u8 full_share x b o) (owns_bytes_at b (o + 1) xs) (shared_of u8 x b o) (elements_shared u8 xs b (o + 1)) l
      (λ κ ts. Shares-less 𝓛 u8 [] l (⊑_static l) ((copy_shared u8-field u8-copy).shares M 𝓤 𝓛) x κ ts b o) (Lends-bytes_at b (o + 1) xs)

  pub Lends-bytes : (p : Ptr) (xs : List ℕ) (n : ℕ) → Lends 𝓛 (bytes_own p xs n) (bytes_lent p xs n) l
  Lends-bytes (block_ptr b o) xs n =
      let room = froom (bytes_type n) b (o + Rattle.std.specs.Prelude.length xs) in
      Lends-both 𝓛 (fit xs n) (fsep (owns_bytes_at b o xs) room) (said (fit xs n)) (elements_shared u8 xs b o) l
      (Lends-said 𝓛 (fit xs n) tt l) (Lends-first 𝓛 (owns_bytes_at b o xs) room (elements_shared u8 xs b o) l (Lends-bytes_at b o xs))
  Lends-bytes null_ptr xs n = Lends-false 𝓛 (said ffalse) l
