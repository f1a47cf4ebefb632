-- Memory as a caller sees it, and what loads, stores and copies make of it.
use Rattle.std.specs.Prelude.{◌≡◌, ℕ, zero, suc, ◌+◌, ◌-◌, ◌/◌, ◌%◌, ◌==◌, nat_le, nat_lt, Bool, true, false, ◌&&◌, if◌then◌else◌, List, length, take, drop, slice_index_or, Result, Ok, Err, IsOk}
use Rattle.byteorder.specs.Endian.{little_number, little_bytes}
use Rattle.elf32.specs.Extent.{end_address, first_address, page_size}
use Rattle.elf32.specs.Pages.{overwritten_at}
use Rattle.elf32.specs.declared.segment.Rights.{Rights}
use Rattle.rv_mem.specs.declared.access.Access.{Access}
use Rattle.rv_mem.specs.declared.access.Access.TheVariants.{Read, Write, Execute}
use Rattle.rv_mem.specs.declared.fault.Fault.{Fault}
use Rattle.rv_mem.specs.declared.fault.Fault.TheVariants as fault

-- memory: the k-th byte has the address 0x10000 + k, and the k-th rights are those of the 4,096 bytes
-- from 0x10000 + 4096 k on
pub record Space : Type 0 where
  pub bytes : List ℕ
  pub rights : List Rights

-- the n bytes from an address on
abbrev pub bytes_at : Space → ℕ → ℕ → List ℕ
bytes_at memory a n = take n (drop (a - first_address) memory.bytes)

-- the addresses of memory
abbrev pub is_address : ℕ → Bool
is_address a = nat_le first_address a && nat_lt a end_address

-- the right that an access needs
abbrev pub allows : Access → Rights → Bool
allows Read rights = rights.readable
allows Write rights = rights.writable
allows Execute rights = rights.executable

-- the rights if there is no page
abbrev pub no_rights : Rights
no_rights = record { readable = false; writable = false; executable = false }

-- the byte at an address may be used by an access: it is in memory, and its page has the right
abbrev pub allows_at : Access → List Rights → ℕ → Bool
allows_at access rights a = is_address a && allows access (slice_index_or rights ((a - first_address) / page_size) no_rights)

-- each of the n bytes from an address on may be used by an access
unfoldable pub allows_range : Access → List Rights → ℕ → ℕ → Bool
allows_range access rights a zero = true
allows_range access rights a (suc n) = allows_at access rights a && allows_range access rights (a + 1) n

-- why an access is refused
pub data AccessFault : Type 0 where
  Misaligned : AccessFault
  MemoryFault : AccessFault
  FetchFault : AccessFault

-- the fault that a call returns if an access is refused
abbrev pub as_fault : AccessFault → Fault
as_fault Misaligned = fault.Misaligned
as_fault MemoryFault = fault.MemoryFault
as_fault FetchFault = fault.FetchFault

-- what a call returns
abbrev pub as_answer : {X : Type 0} → Result X AccessFault → Result X Fault
as_answer (Ok x) = Ok x
as_answer (Err cause) = Err (as_fault cause)

-- the fault of an access without the right
abbrev pub access_fault : Access → AccessFault
access_fault Read = MemoryFault
access_fault Write = MemoryFault
access_fault Execute = FetchFault

-- the place in the bytes at which an access to n bytes at an address begins, or its fault: alignment is tested first
abbrev pub place_of : ℕ → Access → List Rights → ℕ → Result ℕ AccessFault
place_of n access rights a =
    if a % n == 0 then (if allows_range access rights a n then Ok (a - first_address) else Err (access_fault access)) else Err Misaligned

-- the result of f for a place, or the fault
abbrev pub from_place : {X : Type 0} → (ℕ → X) → Result ℕ AccessFault → Result X AccessFault
from_place f (Ok place) = Ok (f place)
from_place f (Err cause) = Err cause

-- a load of n bytes: the number that they are, the lowest first (RISC-V Unprivileged ISA, 2.6)
abbrev pub loaded : ℕ → Access → Space → ℕ → Result ℕ AccessFault
loaded n access m a =
    from_place (λ place. little_number n (drop place m.bytes)) (place_of n access m.rights a)

-- memory with bytes written from a place on
abbrev pub written : Space → List ℕ → ℕ → Space
written m new place = record m { bytes = overwritten_at m.bytes place new }

-- a store of the lowest n bytes of a value, the lowest first (RISC-V Unprivileged ISA, 2.6)
abbrev pub stored : ℕ → Space → ℕ → ℕ → Result Space AccessFault
stored n m a value = from_place (written m (little_bytes n value)) (place_of n Write m.rights a)

-- a copy into memory, at any alignment
abbrev pub copied : Space → ℕ → List ℕ → Result Space AccessFault
copied m a new =
    if allows_range Write m.rights a (length new) then Ok (written m new (a - first_address)) else Err MemoryFault

-- a call that should leave memory as `want` has it: it does so, or it returns the fault that `want` has. If `want` has no fault
-- it may also return Memory. A refused call changes nothing
abbrev pub LeavesMemory : {X : Type 0} → Result X Fault → Result Space AccessFault → Space → Space → Type 0
LeavesMemory (Ok x) want old new = want ≡ Ok new
LeavesMemory (Err fault.Memory) want old new = IsOk want × (new ≡ old)
LeavesMemory (Err fault) want old new = (as_answer want ≡ Err fault) × (new ≡ old)
