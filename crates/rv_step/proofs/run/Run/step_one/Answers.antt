use Rattle.std.proofs.Common.{◌≡◌, ◌∙◌, ap, true, []}
use Rattle.rv_step.specs.Run.{RunView, is_running}
use Rattle.rv_step.proofs.Beginnings.{call_is_step, next_leaves_fewer, step_keeps, step_leaves_fewer, steps_on, steps_to_end}
use Rattle.rv_step.proofs.run.Run.step_one.Goals as goal

pub invariant_of-self-in-Next : goal.invariant_of-self-in-Next
invariant_of-self-in-Next c =
    let running : is_running c.self.inside.stage ≡ true = ap (λ (r : RunView). is_running r.stage) c.self.view_is ∙ c.requires in
    steps_on c.self.inside.call c.self.inside.machine.value c.self.inside.answers.items c.self.inside.stage c.self.invariant running c.execute_instruction.new.self (rw (c.in-Next.is, c.deref_mut.ensures.value) at c.in_ok-execute_instruction.ensures)

pub invariant_of-self-in-End : goal.invariant_of-self-in-End
invariant_of-self-in-End c =
    let running : is_running c.self.inside.stage ≡ true = ap (λ (r : RunView). is_running r.stage) c.self.view_is ∙ c.requires in
    rw c.end_with.ensures
    (steps_to_end c.self.inside.call c.self.inside.machine.value c.self.inside.answers.items c.self.inside.stage c.self.invariant running c.in-End.end [] c.execute_instruction.new.self (rw (c.in-End.is, c.deref_mut.ensures.value) at c.in_ok-execute_instruction.ensures))

pub returns-in-Next-clause-fewer : goal.returns-in-Next-clause-fewer
returns-in-Next-clause-fewer c =
    let running : is_running c.self.inside.stage ≡ true = ap (λ (r : RunView). is_running r.stage) c.self.view_is ∙ c.requires in
    rw (← c.self.view_is) (next_leaves_fewer c.self.inside.machine.value c.execute_instruction.new.self c.self.inside.stage running (rw (c.in-Next.is, c.deref_mut.ensures.value) at c.in_ok-execute_instruction.ensures))

pub invariant_of-self-in-Continue-branch-3 : goal.invariant_of-self-in-Continue-branch-3
invariant_of-self-in-Continue-branch-3 c =
    let running : is_running c.self.inside.stage ≡ true = ap (λ (r : RunView). is_running r.stage) c.self.view_is ∙ c.requires in
    let did = rw c.deref_mut-in-StorageCall.ensures.value at c.in_ok-execute_ecall-in-StorageCall.ensures in
    step_keeps c.self.inside.call c.self.inside.machine.value c.execute_ecall.new.self c.self.inside.answers.items c.self.inside.stage c.execute_ecall.new.stage c.self.invariant running
    (call_is_step c.self.inside.machine.value c.execute_instruction.new.self c.execute_ecall.new.self c.execute_ecall.new.stage (rw (c.in-StorageCall.is, c.deref_mut.ensures.value) at c.in_ok-execute_instruction.ensures) did)

pub returns-in_ok-execute_ecall-in-StorageCall-clause-fewer : goal.returns-in_ok-execute_ecall-in-StorageCall-clause-fewer
returns-in_ok-execute_ecall-in-StorageCall-clause-fewer c =
    let running : is_running c.self.inside.stage ≡ true = ap (λ (r : RunView). is_running r.stage) c.self.view_is ∙ c.requires in
    let did = rw c.deref_mut-in-StorageCall.ensures.value at c.in_ok-execute_ecall-in-StorageCall.ensures in
    rw (← c.self.view_is)
    (step_leaves_fewer c.self.inside.machine.value c.execute_ecall.new.self c.self.inside.stage c.execute_ecall.new.stage running
    (call_is_step c.self.inside.machine.value c.execute_instruction.new.self c.execute_ecall.new.self c.execute_ecall.new.stage (rw (c.in-StorageCall.is, c.deref_mut.ensures.value) at c.in_ok-execute_instruction.ensures) did))
