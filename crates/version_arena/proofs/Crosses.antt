-- The parts of a chunk may cross threads, an allocation as its allocator may.
use Rattle.std.specs.Prelude.{ℕ, ◌+◌, List, [], ◌∷◌}
use base.Fraction.{full_share}
use base.Shift.{Keyless}
use denote.Builtin.{u8}
use denote.Exit.{Exit, unchanged, leaves, hidden, under}
use denote.RattleType.{RattleType}
use denote.RawPtr.{Ptr, block_ptr, null_ptr}
use denote.Slice.{elements_shared}
use denote.Struct.Struct.{exits_of}
use denote.Struct.Owning.{shape, fields, to}
use denote.Param.Send.{IsSend, IsSync, Quiet, Common, Frees, AllSend, part_keyless, owning_send, struct_send, struct_sync, sendable}
use Rattle.std.specs.declared.alloc.Allocator.{Ghosts}
use Rattle.version_arena.specs.Ownership.{owns_bytes_at, bytes_own, bytes_lent}
use Rattle.version_arena.specs.contracts.raw.Bytes as Bytes
use Rattle.version_arena.specs.contracts.raw.Allocation as Allocation

quiet : {D X : Type 0} (to : D → X) (e : Exit X) → Quiet e → Quiet (hidden (under to e))
quiet to unchanged q = λ x w. tt
quiet to (leaves L l S s r₀) q = λ d. q (to d)

byte-send : IsSend u8
byte-send = search sendable

byte-sync : IsSync u8
byte-sync = search sendable

bytes_at-Keyless : (b o : ℕ) (xs : List ℕ) → Keyless (owns_bytes_at b o xs)
bytes_at-Keyless b o [] = tt
bytes_at-Keyless b o (x ∷ xs) = (part_keyless u8 byte-send full_share x b o, bytes_at-Keyless b (o + 1) xs)

elements-Common : (b o : ℕ) (xs : List ℕ) → Common (elements_shared u8 xs b o)
elements-Common b o [] κ = tt
elements-Common b o (x ∷ xs) κ = (byte-sync.shared x b o κ, elements-Common b (o + 1) xs κ)

bytes-Keyless : (p : Ptr) (xs : List ℕ) (n : ℕ) → Keyless (bytes_own p xs n)
bytes-Keyless (block_ptr b o) xs n = (tt, (bytes_at-Keyless b o xs, tt))
bytes-Keyless null_ptr xs n = tt

bytes-Common : (p : Ptr) (xs : List ℕ) (n : ℕ) → Common (bytes_lent p xs n)
bytes-Common (block_ptr b o) xs n κ = (tt, elements-Common b o xs κ)
bytes-Common null_ptr xs n κ = tt

pub Bytes-send : IsSend Bytes.the_row
Bytes-send =
    let O = Bytes.the_type in let all : AllSend (fields O) = tt in
    owning_send O all (λ d. bytes-Keyless d.at d.bytes d.room) (λ k. quiet (to O) (exits_of k (fields O)) ((struct_send (shape O) all).leaving k))

pub Bytes-sync : IsSync Bytes.the_row
Bytes-sync =
    let O = Bytes.the_type in
    record { shared = λ d b o κ. ((struct_sync (shape O) tt).shared (to O d) b o κ, bytes-Common d.at d.bytes d.room κ) }

module _ (A : RattleType) (g : Ghosts A.Denot) where
  pub Allocation-send : IsSend A → Frees g g.dealloc_token → IsSend (Allocation.the_row A g)
  Allocation-send s f =
      let O = Allocation.the_type A g in let all : AllSend (fields O) = (search sendable, tt) in
      owning_send O all (λ d. f.frees d.alloc _ d.at) (λ k. quiet (to O) (exits_of k (fields O)) ((struct_send (shape O) all).leaving k))

  pub Allocation-sync : IsSync (Allocation.the_row A g)
  Allocation-sync = let O = Allocation.the_type A g in record { shared = λ d b o κ. ((struct_sync (shape O) (search sendable, tt)).shared (to O d) b o κ, tt) }
