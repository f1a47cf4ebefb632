-- Private help of proofs; no public clause cites it. Steps of a machine in a page of code, which changes no byte of the page.
use Rattle.std.specs.Prelude.{◌≡◌, ◌<◌, ℕ, ◌+◌, ◌%◌, ◌^◌, Bool, true, false, List, Option, Some}
use Rattle.rv_isa.specs.declared.instruction.Instr.{Instr}
use Rattle.rv_isa.specs.declared.instruction.Instr.TheVariants as instruction
use Rattle.rv_mem.specs.Code.{IsCode}
use Rattle.rv_step.specs.declared.machine.Machine.{Machine}
use Rattle.rv_step.specs.declared.page_loop.Position.{Position}
use Rattle.rv_step.specs.declared.page_loop.PageEnd.{PageEnd}
use Rattle.rv_step.specs.declared.page_loop.PageEnd.TheVariants.{Left, Ecall, Stopped}
use Rattle.rv_step.specs.Growth.{instruction_at}
use Rattle.rv_step.specs.Step.{Leads, Going, decode_result}

-- a machine with the pc and the gas of a position, in the page from `first` on
abbrev pub machine_at : Machine → ℕ → Position → Machine
machine_at s first position = record s { pc = (first + position.offset) % 2 ^ 32; gas = position.gas }

-- an instruction leads from s to t and the call continues; it changes no page of code and no alignment of the pc
pub record GoesOn (instr : Option Instr) (s t : Machine) : Type 0 where
  pub made : decode_result s instr ≡ Leads (Going t)
  pub stays : (first : ℕ) (code : List ℕ) → IsCode s.memory first code → IsCode t.memory first code
  pub even : s.pc % 4 ≡ 0 → t.pc % 4 ≡ 0

-- a method that makes the step of an instruction, or changes nothing
abbrev pub MeetsTry : Bool → Option Instr → Machine → Machine → Type 0
MeetsTry true instr s t = GoesOn instr s t
MeetsTry false instr s t = t ≡ s

-- how the loop over a page ends, from s at t: it leaves the page after a step, which takes gas, or t is at an ECALL
abbrev pub MeetsPageEnd : PageEnd → Machine → Machine → Type 0
MeetsPageEnd Left s t = t.gas < s.gas
MeetsPageEnd Ecall s t = instruction_at t ≡ Some instruction.Ecall
MeetsPageEnd Stopped s t = Unit {0}
