-- The storage calls: an ECALL, by the number in a7. READ, WRITE, REMOVE and ADD have their key at a0, RETURN and REVERT their
-- output (this project's own profile).
use Rattle.std.specs.Prelude.{ℕ, ◌+◌, ◌*◌, ◌^◌, ◌==◌, nat_lt, Bool, ◌&&◌, if◌then◌else◌, List, slice_index, Option, Some, None, Result, Ok, Err}
use Rattle.rv_ledger.specs.Rules.{longest_value}
use Rattle.rv_ledger.specs.declared.rules.Rules.{Rules}
use Rattle.rv_ledger.specs.declared.rules.Rules.TheVariants as rules
use Rattle.rv_ledger.specs.declared.change.Change.TheVariants as change
use Rattle.rv_ledger.specs.declared.end.Trap.{Trap}
use Rattle.rv_ledger.specs.declared.end.Trap.TheVariants.{MemoryFault, UnknownCall, BadLength}
use Rattle.rv_mem.specs.declared.access.Access.TheVariants as access
use Rattle.rv_mem.specs.Space.{Space, bytes_at, allows_range}
use Rattle.ecalls.specs.declared.storage_call.StorageCall.{StorageCall}
use Rattle.ecalls.specs.declared.storage_call.StorageCall.TheVariants as call
use Rattle.ecalls.specs.declared.request_kind.StorageRequest.{StorageRequest}
use Rattle.ecalls.specs.declared.request_kind.StorageRequest.TheVariants as request

-- the registers that a storage call reads
abbrev pub a0 : List ℕ → ℕ
a0 registers = slice_index registers 10

abbrev pub a1 : List ℕ → ℕ
a1 registers = slice_index registers 11

abbrev pub a2 : List ℕ → ℕ
a2 registers = slice_index registers 12

abbrev pub a7 : List ℕ → ℕ
a7 registers = slice_index registers 17

-- ADD, if the rules know it
abbrev pub add_under : Rules → Option StorageCall
add_under rules.One = None
add_under rules.Two = None
add_under rules.Three = Some call.Add

-- the number of a call
abbrev pub number_of : StorageCall → ℕ
number_of call.Read = 0
number_of call.Write = 1
number_of call.Remove = 2
number_of call.Return = 3
number_of call.Revert = 4
number_of call.Add = 5

-- the call that has a number under some rules
abbrev pub numbered_call : Rules → ℕ → Option StorageCall
numbered_call rules number =
    if number == number_of call.Read then Some call.Read
    else if number == number_of call.Write then Some call.Write
    else if number == number_of call.Remove then Some call.Remove
    else if number == number_of call.Return then Some call.Return
    else if number == number_of call.Revert then Some call.Revert
    else if number == number_of call.Add then add_under rules
    else None

-- the length that the registers give for a call: that of its buffer, its value or its output
abbrev pub length_of : StorageCall → List ℕ → ℕ
length_of call.Read registers = a2 registers
length_of call.Write registers = a2 registers
length_of call.Remove registers = 0
length_of call.Return registers = a1 registers
length_of call.Revert registers = a1 registers
length_of call.Add registers = 0

-- the greatest length that a call may have
abbrev pub longest : StorageCall → Rules → ℕ
longest call.Read rules = longest_value rules
longest call.Write rules = longest_value rules
longest call.Remove rules = 0
longest call.Return rules = 256
longest call.Revert rules = 256
longest call.Add rules = 0

-- the gas of a call before it acts
abbrev pub charge_of : StorageCall → List ℕ → ℕ
charge_of call.Read registers = 200
charge_of call.Write registers = 400 + 4 * a2 registers
charge_of call.Remove registers = 300
charge_of call.Return registers = 10 + a1 registers
charge_of call.Revert registers = 10 + a1 registers
charge_of call.Add registers = 300

-- the amount that an ADD adds: its low half is in a1, its high half in a2
abbrev pub added_amount : List ℕ → ℕ
added_amount registers = a1 registers + a2 registers * 2 ^ 32

-- the further gas of a READ that copies a value of `len` bytes
abbrev pub late_charge : Rules → ℕ → ℕ
late_charge rules.One len = 0
late_charge rules.Two len = len
late_charge rules.Three len = len

-- the call, if there is one and its length is within the limit
abbrev pub within_length : List ℕ → Rules → Option StorageCall → Result StorageCall Trap
within_length registers rules None = Err UnknownCall
within_length registers rules (Some call) = if nat_lt (longest call rules) (length_of call registers) then Err BadLength else Ok call

-- the call that the registers ask for, by its number and then its length, or the trap, which costs nothing
unfoldable pub requested_call : List ℕ → Rules → Result StorageCall Trap
requested_call registers rules = within_length registers rules (numbered_call rules (a7 registers))

-- its charge, or the trap
abbrev pub charge_asked : List ℕ → Result StorageCall Trap → Result ℕ Trap
charge_asked registers (Err trap) = Err trap
charge_asked registers (Ok call) = Ok (charge_of call registers)

-- the charge of an ECALL, or the trap that costs nothing
abbrev pub ecall_charge : List ℕ → Rules → Result ℕ Trap
ecall_charge registers rules = charge_asked registers (requested_call registers rules)

-- whether n bytes may be read
abbrev pub is_readable : Space → ℕ → ℕ → Bool
is_readable memory address n = allows_range access.Read memory.rights address n

-- whether n bytes may be written
abbrev pub is_writable : Space → ℕ → ℕ → Bool
is_writable memory address n = allows_range access.Write memory.rights address n

-- whether a call has its rights over the whole of each range: a key has 32 bytes
abbrev pub has_rights : StorageCall → List ℕ → Space → Bool
has_rights call.Read r memory = is_readable memory (a0 r) 32 && is_writable memory (a1 r) (a2 r)
has_rights call.Write r memory = is_readable memory (a0 r) 32 && is_readable memory (a1 r) (a2 r)
has_rights call.Remove r memory = is_readable memory (a0 r) 32
has_rights call.Return r memory = is_readable memory (a0 r) (a1 r)
has_rights call.Revert r memory = is_readable memory (a0 r) (a1 r)
has_rights call.Add r memory = is_readable memory (a0 r) 32

-- what a call asks for, with the bytes that it names
abbrev pub request_with : StorageCall → List ℕ → Space → StorageRequest
request_with call.Read r memory = request.Read (bytes_at memory (a0 r) 32)
request_with call.Write r memory = request.Write (record { key = bytes_at memory (a0 r) 32; change = change.Value (bytes_at memory (a1 r) (a2 r)) })
request_with call.Remove r memory = request.Write (record { key = bytes_at memory (a0 r) 32; change = change.Gone })
request_with call.Return r memory = request.Return (bytes_at memory (a0 r) (a1 r))
request_with call.Revert r memory = request.Revert (bytes_at memory (a0 r) (a1 r))
request_with call.Add r memory = request.Add (bytes_at memory (a0 r) 32) (added_amount r)

-- what a call asks for, or MemoryFault if it lacks a right
abbrev pub request_by : StorageCall → List ℕ → Space → Result StorageRequest Trap
request_by call registers memory =
    if has_rights call registers memory then Ok (request_with call registers memory) else Err MemoryFault

abbrev pub request_asked : List ℕ → Space → Result StorageCall Trap → Result StorageRequest Trap
request_asked registers memory (Err trap) = Err trap
request_asked registers memory (Ok call) = request_by call registers memory

-- what an ECALL asks for, or its first trap: by number, length and rights
unfoldable pub request_of : List ℕ → Space → Rules → Result StorageRequest Trap
request_of registers memory rules = request_asked registers memory (requested_call registers rules)
