-- One step of a call, in the order fetch right, decode, charge, act.
use Rattle.std.specs.Prelude.{ℕ, ◌<◌, ◌≤◌, ◌-◌, ◌+ℤ◌, pos, nat_le, nat_lt, Bool, true, false, if◌then◌else◌, List, [], length, Option, Some, None, Result, Ok, Err}
use Rattle.std.specs.FinMap as map
use Rattle.rv_isa.specs.Number.{wrapped}
use Rattle.rv_isa.specs.Registers.{written}
use Rattle.rv_isa.specs.Decoded.{decoded}
use Rattle.rv_isa.specs.declared.instruction.Instr.{Instr}
use Rattle.rv_isa.specs.declared.instruction.Instr.TheVariants.{Load, Store, Ecall, Ebreak}
use Rattle.rv_isa.specs.declared.instruction.LoadKind.{LoadKind}
use Rattle.rv_isa.specs.declared.register.Reg.{Reg}
use Rattle.rv_isa.specs.declared.operands.Immediate.{Immediate}
use Rattle.gas.specs.Costs.{cost_of}
use Rattle.rv_alu.specs.Effects.{effect_of, register_value}
use Rattle.rv_alu.specs.Accesses.{address_from, extended_of, width_of, store_width}
use Rattle.rv_mem.specs.Space.{AccessFault, Misaligned, MemoryFault, FetchFault, Space, loaded, stored, copied}
use Rattle.rv_mem.specs.declared.access.Access.TheVariants as access
use Rattle.rv_ledger.specs.Change.{Content, ContentChange, add, wrapping_sum}
use Rattle.rv_ledger.specs.Key.{has_room}
use Rattle.rv_ledger.specs.declared.change.Change.TheVariants as change
use Rattle.rv_ledger.specs.declared.end.End.{End}
use Rattle.rv_ledger.specs.declared.end.End.TheVariants.{Returned, Reverted, OutOfGas, Trapped}
use Rattle.rv_ledger.specs.declared.end.Trap.{Trap}
use Rattle.rv_ledger.specs.declared.end.Trap.TheVariants as trap
use Rattle.rv_ledger.specs.declared.writes.Write.{Write}
use Rattle.ecalls.specs.StorageCalls.{a1, a2, charge_of, ecall_charge, late_charge, request_of}
use Rattle.ecalls.specs.declared.storage_call.StorageCall.TheVariants as call
use Rattle.ecalls.specs.declared.request_kind.StorageRequest.{StorageRequest}
use Rattle.ecalls.specs.declared.request_kind.StorageRequest.TheVariants as request
use Rattle.rv_step.specs.declared.machine.Machine.{Machine}

-- the state of a call: it continues from a machine, or it is over, with an output, and its last step left this machine
pub data Progress : Type 0 where
  Going : Machine → Progress
  Over : End → List ℕ → Machine → Progress

-- the result of a step: it leads to the next state of the call, or it asks the storage for a key. In the second case the
-- machine is before the READ, which is not charged yet
pub data StepResult : Type 0 where
  Leads : Progress → StepResult
  Asks : List ℕ → StepResult

-- a trap changes no register and no byte, and keeps the charge
abbrev pub trapped : Trap → Machine → Progress
trapped cause s = Over (Trapped cause) [] s

-- the trap of an access that is refused
abbrev pub trap_of : AccessFault → Trap
trap_of Misaligned = trap.Misaligned
trap_of MemoryFault = trap.MemoryFault
trap_of FetchFault = trap.FetchFault

-- if less gas is left than the charge, all of it is spent and nothing is done
abbrev pub out_of_gas : Machine → Progress
out_of_gas s = Over OutOfGas [] (record s { gas = 0 })

-- the charge is taken before the instruction acts
abbrev pub charged : ℕ → Machine → (Machine → Progress) → Progress
charged cost s act = if nat_le cost s.gas then act (record s { gas = s.gas - cost }) else out_of_gas s

-- the machine continues with the next instruction
abbrev pub next_instruction : Machine → Progress
next_instruction s = Going (record s { pc = wrapped (pos s.pc +ℤ pos 4) })

-- the address of a load or a store (RISC-V Unprivileged ISA, 2.6)
abbrev pub address_of : Machine → Reg → Immediate → ℕ
address_of s base offset = address_from (register_value s.regs base) offset

-- a load: rd gets the number that is read, extended
abbrev pub load_result : LoadKind → Reg → Machine → Result ℕ AccessFault → Progress
load_result kind rd s (Ok number) = next_instruction (record s { regs = written s.regs rd.number (extended_of kind number) })
load_result kind rd s (Err cause) = trapped (trap_of cause) s

-- a change of memory, and the registers after it
abbrev pub memory_result : Machine → List ℕ → Result Space AccessFault → Progress
memory_result s registers (Ok memory) = next_instruction (record s { memory = memory; regs = registers })
memory_result s registers (Err cause) = trapped (trap_of cause) s

-- an instruction that does not touch memory
abbrev pub compute_result : Machine → Option (List ℕ × ℕ) → Progress
compute_result s (Some (registers, pc)) = Going (record s { regs = registers; pc = pc })
compute_result s None = trapped trap.Misaligned s

-- what an instruction that was charged does
unfoldable pub instruction_result : Instr → Machine → Progress
instruction_result (Load kind rd base offset) s = load_result kind rd s (loaded (width_of kind) access.Read s.memory (address_of s base offset))
instruction_result (Store kind source base offset) s = memory_result s s.regs (stored (store_width kind) s.memory (address_of s base offset) (register_value s.regs source))
instruction_result Ebreak s = trapped trap.Breakpoint s
instruction_result instr s = compute_result s (effect_of instr s.regs s.pc)

-- a value is copied into the buffer of a READ
abbrev pub value_result : Machine → List ℕ → Progress
value_result s value = memory_result s (written s.regs 10 (length value)) (copied s.memory (a1 s.regs) value)

-- a0 says how a READ went: 2^32 - 1 for absence, 2^32 - 2 for a value longer than the buffer, otherwise the length. Only in the
-- last case the late charge is taken and the value is copied
unfoldable pub delivery_result : Machine → Option (List ℕ) → Progress
delivery_result s None = next_instruction (record s { regs = written s.regs 10 0xffff_ffff })
delivery_result s (Some value) =
    if nat_lt (a2 s.regs) (length value) then next_instruction (record s { regs = written s.regs 10 0xffff_fffe })
    else charged (late_charge s.rules (length value)) s (λ t. value_result t value)

-- a READ of a key that the call has written or removed is answered from its own writes. For any other key the storage is asked,
-- also if the call has only added to it
abbrev pub read_result : Machine → List ℕ → Option ContentChange → StepResult
read_result s key (Some (change.Value value)) = Leads (delivery_result s (Some value))
read_result s key (Some change.Gone) = Leads (delivery_result s None)
read_result s key (Some (change.Sum amount)) = Asks key
read_result s key None = Asks key

-- what a READ that asked gets: the storage's answer, with the call's own sum added if it has added to the key
abbrev pub with_own_sum : Option ContentChange → Content → Content
with_own_sum (Some (change.Sum amount)) content = Some (add content amount)
with_own_sum own content = content

abbrev pub delivered : Machine → List ℕ → Content → Content
delivered s key content = with_own_sum (map.get s.own key) content

-- a call's own change of a key after it adds an amount: a value of eight bytes if the call has written or removed the key,
-- otherwise a sum
abbrev pub change_after_add : Option ContentChange → ℕ → ContentChange
change_after_add None amount = change.Sum amount
change_after_add (Some (change.Sum own)) amount = change.Sum (wrapping_sum own amount)
change_after_add (Some (change.Value value)) amount = change.Value (add (Some value) amount)
change_after_add (Some change.Gone) amount = change.Value (add None amount)

-- a change of a key; TooManyWrites if the call has written 256 other keys
unfoldable pub write_result : Machine → Write → Progress
write_result s write = if has_room s.own write.key then next_instruction (record s { own = map.insert s.own write.key write.change }) else trapped trap.TooManyWrites s

-- what a storage call that was charged does
unfoldable pub storage_call_result : Machine → Result StorageRequest Trap → StepResult
storage_call_result s (Err cause) = Leads (trapped cause s)
storage_call_result s (Ok (request.Read key)) = read_result s key (map.get s.own key)
storage_call_result s (Ok (request.Write write)) = Leads (write_result s write)
storage_call_result s (Ok (request.Add key amount)) = Leads (write_result s (record { key = key; change = change_after_add (map.get s.own key) amount }))
storage_call_result s (Ok (request.Return out)) = Leads (Over Returned out s)
storage_call_result s (Ok (request.Revert out)) = Leads (Over Reverted out s)

abbrev pub charged_call_result : Machine → StepResult
charged_call_result s = storage_call_result s (request_of s.regs s.memory s.rules)

abbrev pub ecall_result : Machine → Result ℕ Trap → StepResult
ecall_result s (Err cause) = Leads (trapped cause s)
ecall_result s (Ok cost) = if nat_le cost s.gas then charged_call_result (record s { gas = s.gas - cost }) else Leads (out_of_gas s)

abbrev pub is_ecall : Instr → Bool
is_ecall Ecall = true
is_ecall _ = false

abbrev pub decode_result : Machine → Option Instr → StepResult
decode_result s None = Leads (trapped trap.Illegal s)
decode_result s (Some instr) = if is_ecall instr then ecall_result s (ecall_charge s.regs s.rules) else Leads (charged (cost_of instr) s (λ t. instruction_result instr t))

abbrev pub fetch_result : Machine → Result ℕ AccessFault → StepResult
fetch_result s (Ok word) = decode_result s (decoded word)
fetch_result s (Err cause) = Leads (trapped (trap_of cause) s)

unfoldable pub step : Machine → StepResult
step s = fetch_result s (loaded 4 access.Execute s.memory s.pc)

-- the step that asked the storage, with the content that it gets: a value, or None for absence
unfoldable pub answered : Machine → Option (List ℕ) → Progress
answered s content = charged (charge_of call.Read s.regs) s (λ t. delivery_result t content)

-- the gas falls if the call continues, and does not rise if it ends
abbrev pub TakesGas : Machine → Progress → Type 0
TakesGas s (Going t) = t.gas < s.gas
TakesGas s (Over end out t) = t.gas ≤ s.gas
