-- What each step of a call keeps.
use Rattle.std.proofs.Common.{◌≡◌, ℕ, ◌-◌, ◌≤◌, ◌⊎◌, inl, inr, true, nat_le, nat_lt, List, length, Option, Some, None, Result, Ok, Err, refl, subst, arith}
use Rattle.std.specs.FinMap as map
use Rattle.std.proofs.lemmas.Bool.{cond_both}
use Rattle.rv_isa.specs.Registers.{written}
use Rattle.rv_isa.specs.Decoded.{decoded}
use Rattle.rv_isa.specs.declared.instruction.Instr.{Instr}
use Rattle.rv_isa.specs.declared.instruction.Instr.TheVariants.{Load, Store, Ebreak}
use Rattle.rv_isa.specs.declared.instruction.LoadKind.{LoadKind}
use Rattle.rv_isa.specs.declared.register.Reg.{Reg}
use Rattle.gas.specs.Costs.{cost_of}
use Rattle.rv_alu.specs.Accesses.{store_width}
use Rattle.rv_alu.specs.Effects.{effect_of, register_value}
use Rattle.rv_mem.specs.Space.{AccessFault, Space, copied, loaded, stored}
use Rattle.rv_mem.specs.declared.access.Access.TheVariants as access
use Rattle.rv_mem.proofs.PageOfCode.{Keeps, keeps_copied, keeps_stored}
use Rattle.rv_ledger.specs.Change.{ContentChange}
use Rattle.rv_ledger.specs.Key.{WriteMap, has_room}
use Rattle.rv_ledger.specs.declared.change.Change.TheVariants as change
use Rattle.rv_ledger.specs.declared.end.End.{End}
use Rattle.rv_ledger.specs.declared.end.End.TheVariants.{Returned, OutOfGas}
use Rattle.rv_ledger.specs.declared.end.Trap.{Trap}
use Rattle.rv_ledger.specs.declared.writes.Write.{Write}
use Rattle.ecalls.specs.StorageCalls.{a1, a2, charge_of, ecall_charge, late_charge, request_of}
use Rattle.ecalls.specs.declared.storage_call.StorageCall.TheVariants as call
use Rattle.ecalls.specs.declared.request_kind.StorageRequest.{StorageRequest}
use Rattle.ecalls.specs.declared.request_kind.StorageRequest.TheVariants as request
use Rattle.rv_step.specs.declared.machine.Machine.{Machine}
use Rattle.rv_step.specs.Chain.{kept_writes, receipt_at}
use Rattle.rv_step.specs.Moment.{machine_of}
use Rattle.rv_step.specs.Step.{Progress, Going, Over, StepResult, Leads, Asks, address_of, answered, change_after_add, charged, charged_call_result, compute_result, decode_result, delivery_result, ecall_result, fetch_result, instruction_result, is_ecall, load_result, memory_result, next_instruction, out_of_gas, read_result, step, storage_call_result, value_result, write_result}

-- a machine writes what it asks to write, or its change of a key after it adds an amount
abbrev pub IsAsked : Machine → Write → Type 0
IsAsked s write = (request_of s.regs s.memory s.rules ≡ Ok (request.Write write)) ⊎ ((amount : ℕ) × (write.change ≡ change_after_add (map.get s.own write.key) amount))

-- a property of a machine that holds after each change that a step makes
pub record IsKept (P : Machine → Type 0) : Type 0 where
  pub moves : (s : Machine) (registers : List ℕ) (pc : ℕ) → P s → P (record s { regs = registers; pc = pc })
  pub pays : (s : Machine) (gas : ℕ) → gas ≤ s.gas → P s → P (record s { gas = gas })
  pub stores : (s : Machine) (memory : Space) → Keeps s.memory memory → P s → P (record s { memory = memory })
  pub writes : (s : Machine) (write : Write) → IsAsked s write → has_room s.own write.key ≡ true → P s → P (record s { own = map.insert s.own write.key write.change })

module _ (P : Machine → Type 0) (kept : IsKept P) where
  -- it holds of the machine of a call in this state
  abbrev pub Stays : Progress → Type 0
  Stays progress = P (machine_of progress)

  -- it holds after a step that does not ask
  abbrev pub StepStays : StepResult → Type 0
  StepStays (Leads progress) = Stays progress
  StepStays (Asks key) = Unit {0}

  loads : (kind : LoadKind) (rd : Reg) (s : Machine) (r : Result ℕ AccessFault) → P s → Stays (load_result kind rd s r)
  loads kind rd s (Ok n) h = kept.moves s _ _ h
  loads kind rd s (Err cause) h = h

  changes : (s : Machine) (registers : List ℕ) (r : Result Space AccessFault) → ((after : Space) → r ≡ Ok after → Keeps s.memory after) → P s → Stays (memory_result s registers r)
  changes s registers (Ok after) keeps h = kept.moves (record s { memory = after }) registers _ (kept.stores s after (keeps after refl) h)
  changes s registers (Err cause) keeps h = h

  computes : (s : Machine) (o : Option (List ℕ × ℕ)) → P s → Stays (compute_result s o)
  computes s (Some effect) h = kept.moves s effect.0 effect.1 h
  computes s None h = h

  pub acts : (i : Instr) (s : Machine) → P s → Stays (instruction_result i s)
  unfolding instruction_result
  acts (Load kind rd base offset) s h = loads kind rd s _ h
  acts (Store kind source base offset) s h =
      let a = address_of s base offset in
      let value = register_value s.regs source in
      changes s s.regs (stored (store_width kind) s.memory a value) (λ after e. keeps_stored (store_width kind) s.memory after a value e) h
  acts Ebreak s h = h
  acts i s h = computes s (effect_of i s.regs s.pc) h

  charges : (cost : ℕ) (s : Machine) (act : Machine → Progress) → P s → ((t : Machine) → P t → Stays (act t)) → Stays (charged cost s act)
  charges cost s act h on = cond_both (nat_le cost s.gas) (act (record s { gas = s.gas - cost })) (out_of_gas s) (λ o. Stays o)
      (λ _. on (record s { gas = s.gas - cost }) (kept.pays s (s.gas - cost) (omega arith) h))
      (λ _. kept.pays s 0 (omega arith) h)

  pub delivers : (s : Machine) (content : Option (List ℕ)) → P s → Stays (delivery_result s content)
  unfolding delivery_result
  delivers s None h = kept.moves s _ _ h
  delivers s (Some value) h =
      let short : Progress = next_instruction (record s { regs = written s.regs 10 0xffff_fffe }) in
      let late : Progress = charged (late_charge s.rules (length value)) s (λ t. value_result t value) in
      cond_both (nat_lt (a2 s.regs) (length value)) short late (λ o. Stays o)
      (λ _. kept.moves s _ _ h)
      (λ _. charges _ s (λ t. value_result t value) h (λ t k. changes t _ (copied t.memory (a1 t.regs) value) (λ after e. keeps_copied t.memory after (a1 t.regs) value e) k))

  reads : (s : Machine) (key : List ℕ) (own : Option ContentChange) → P s → StepStays (read_result s key own)
  reads s key (Some (change.Value value)) h = delivers s (Some value) h
  reads s key (Some change.Gone) h = delivers s None h
  reads s key (Some (change.Sum amount)) h = tt
  reads s key None h = tt

  puts : (s : Machine) (write : Write) → IsAsked s write → P s → Stays (write_result s write)
  unfolding write_result
  puts s write asked h =
      let after : Machine = record s { own = map.insert s.own write.key write.change } in
      cond_both (has_room s.own write.key) (next_instruction after) _ (λ o. Stays o)
      (λ room. kept.moves after _ _ (kept.writes s write asked room h))
      (λ _. h)

  serves : (s : Machine) (r : Result StorageRequest Trap) → request_of s.regs s.memory s.rules ≡ r → P s → StepStays (storage_call_result s r)
  unfolding storage_call_result
  serves s (Err cause) e h = h
  serves s (Ok (request.Read key)) e h = reads s key _ h
  serves s (Ok (request.Write write)) e h = puts s write (inl e) h
  serves s (Ok (request.Add key amount)) e h = puts s _ (inr (amount, refl)) h
  serves s (Ok (request.Return out)) e h = h
  serves s (Ok (request.Revert out)) e h = h

  pub acts_charged : (s : Machine) → P s → StepStays (charged_call_result s)
  acts_charged s h = serves s (request_of s.regs s.memory s.rules) refl h

  calls : (s : Machine) (charge : Result ℕ Trap) → P s → StepStays (ecall_result s charge)
  calls s (Err cause) h = h
  calls s (Ok cost) h =
      let t : Machine = record s { gas = s.gas - cost } in
      cond_both (nat_le cost s.gas) (charged_call_result t) (Leads (out_of_gas s)) (λ o. StepStays o)
      (λ _. acts_charged t (kept.pays s (s.gas - cost) (omega arith) h))
      (λ _. kept.pays s 0 (omega arith) h)

  decodes : (s : Machine) (o : Option Instr) → P s → StepStays (decode_result s o)
  decodes s None h = h
  decodes s (Some i) h = cond_both (is_ecall i) (ecall_result s (ecall_charge s.regs s.rules)) (Leads (charged (cost_of i) s (λ t. instruction_result i t))) (λ o. StepStays o)
      (λ _. calls s (ecall_charge s.regs s.rules) h)
      (λ _. charges (cost_of i) s (λ t. instruction_result i t) h (λ t k. acts i t k))

  fetches : (s : Machine) (r : Result ℕ AccessFault) → P s → StepStays (fetch_result s r)
  fetches s (Ok word) h = decodes s (decoded word) h
  fetches s (Err cause) h = h

  steps : (s : Machine) → P s → StepStays (step s)
  unfolding step
  steps s h = fetches s (loaded 4 access.Execute s.memory s.pc) h

  pub step_stays : (s : Machine) (progress : Progress) → P s → step s ≡ Leads progress → Stays progress
  step_stays s progress h e = subst (λ o. StepStays o) e (steps s h)

  pub answered_stays : (s : Machine) (content : Option (List ℕ)) → P s → Stays (answered s content)
  unfolding answered
  answered_stays s content h = charges (charge_of call.Read s.regs) s (λ t. delivery_result t content) h (λ t k. delivers t content k)

-- what holds of no writes and of a machine's own writes holds of the writes of its receipt
module _ (Q : WriteMap → Type 0) (none : Q map.empty) where
  kept_of : (end : End) (own : WriteMap) → Q own → Q (kept_writes end own)
  kept_of Returned own h = h
  kept_of end own h = none

  pub receipt_writes : (limit : ℕ) (progress : Progress) → Q (machine_of progress).own → Q (receipt_at limit progress).writes
  receipt_writes limit (Going s) h = kept_of OutOfGas s.own h
  receipt_writes limit (Over end out s) h = kept_of end s.own h
