-- What it means for a call that memory refuses an access.
use Rattle.std.proofs.Common.{◌≡◌, ℕ, [], Result, Ok, Err, refl, sym, ap}
use Rattle.rv_isa.specs.declared.instruction.LoadKind.{LoadKind}
use Rattle.rv_isa.specs.declared.register.Reg.{Reg}
use Rattle.rv_ledger.specs.declared.end.End.TheVariants.{Trapped}
use Rattle.rv_ledger.specs.declared.end.Trap.{Trap}
use Rattle.rv_mem.specs.Space.{AccessFault, Misaligned, MemoryFault, FetchFault, as_answer, as_fault}
use Rattle.rv_mem.specs.declared.fault.Fault.{Fault}
use Rattle.rv_mem.specs.declared.fault.Fault.TheVariants as fault
use Rattle.rv_step.specs.declared.machine.Machine.{Machine}
use Rattle.rv_step.specs.Meets.{refusal_of}
use Rattle.rv_step.specs.Step.{Over, Leads, fetch_result, load_result, trap_of}

module _ (f : Fault) (trap : Trap) (is_trap : (cause : AccessFault) → f ≡ as_fault cause → trap ≡ trap_of cause) where
  -- a fetch that is refused ends the call
  pub fetch_refused : (s : Machine) (r : Result ℕ AccessFault) → Err f ≡ as_answer r → fetch_result s r ≡ Leads (Over (Trapped trap) [] s)
  fetch_refused s (Ok word) e = absurd (cc)
  fetch_refused s (Err cause) e = ap (λ (t : Trap). Leads (Over (Trapped t) [] s)) (sym (is_trap cause (cc)))

  -- a load that is refused ends it
  pub load_refused : (kind : LoadKind) (rd : Reg) (s : Machine) (r : Result ℕ AccessFault) → Err f ≡ as_answer r → load_result kind rd s r ≡ Over (Trapped trap) [] s
  load_refused kind rd s (Ok number) e = absurd (cc)
  load_refused kind rd s (Err cause) e = ap (λ (t : Trap). Over (Trapped t) [] s) (sym (is_trap cause (cc)))

-- a change of memory that is refused ends it with the same trap, unless memory ran out
pub change_refused : (f : Fault) (trap : Trap) → ((cause : AccessFault) → f ≡ as_fault cause → trap ≡ trap_of cause) → (f ≡ fault.Memory → ⊥) → Ok (Trapped trap) ≡ refusal_of f
change_refused fault.Misaligned trap is_trap other = rw (is_trap Misaligned refl) refl
change_refused fault.MemoryFault trap is_trap other = rw (is_trap MemoryFault refl) refl
change_refused fault.FetchFault trap is_trap other = rw (is_trap FetchFault refl) refl
change_refused fault.Memory trap is_trap other = absurd (other refl)
