use Rattle.std.proofs.Common.{◌≡◌, Some, refl}
use Rattle.rv_isa.specs.declared.instruction.Instr.TheVariants.{Ecall}
use Rattle.rv_step.specs.Growth.{instruction_at}
use Rattle.rv_step.proofs.PageSteps.{ecall_step}
use Rattle.rv_step.proofs.machine.Machine.execute_next.Goals as goal

pub returns-then-execute_in_code : goal.returns-then-execute_in_code
returns-then-execute_in_code c =
    let t = c.execute_in_code.new.self in
    let found : instruction_at t ≡ Some Ecall = rw c.if-execute_in_code.true at c.execute_in_code.ensures.ecall in
    record {
      count = c.execute_in_code.ensures.reached.0;
      last = t;
      reached = c.execute_in_code.ensures.reached.1;
      did = (found, ecall_step t found, refl);
    }
