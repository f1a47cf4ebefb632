use Rattle.std.proofs.Common.{◌≡◌, ◌<◌, ◌≤◌, ◌+◌, ◌-◌, ◌%◌, ◌^◌, inl, inr, ap, ◌∙◌, arith}
use Rattle.std.proofs.lemmas.Bool.Decides.{nat_tests}
use Rattle.rv_isa.specs.Decoded.{decoded}
use Rattle.rv_mem.specs.Code.{word_in}
use Rattle.rv_step.specs.Growth.{instruction_at}
use Rattle.rv_step.specs.PageSteps.{GoesOn, machine_at}
use Rattle.rv_step.specs.Step.{Leads, Going, step}
use Rattle.rv_step.specs.declared.machine.Machine.{Machine}
use Rattle.rv_step.proofs.PageSteps.{ecall_word, page_instruction, page_step}
use Rattle.rv_step.proofs.Reached.{further, here, next_takes_gas, reached_gas}
use Rattle.rv_step.proofs.machine.Machine.execute_in_page.Goals as goal

pub loop-position-init : goal.loop-position-init
loop-position-init c =
    let same : (c.args.first + c.from.result) % 2 ^ 32 ≡ c.args.self.now.pc = omega (arith, c.from.ensures) in
    record {
      reached = rw (same, c.left.ensures) (here c.args.self.now);
      code = c.requires.code;
      even = rw same c.requires.even;
      inside = inl (omega (arith, c.from.ensures, c.requires.page));
    }

pub loop-position-preserved : goal.loop-position-preserved
loop-position-preserved c =
    let first = c.args.first in
    let code = c.args.code.now in
    let kept = c.loop-position.invariant in
    let start = c.requires.code.start in
    let offset = c.loop-position.position.offset in
    let s : Machine = machine_at c.loop-position.self first c.loop-position.position in
    let t : Machine = machine_at c.step_word.new.self first c.step_word.new.position in
    let goes : GoesOn (decoded c.word_in-word.result) s t = rw c.if-not-step_word.false at c.step_word.ensures in
    let place : (first + offset) % 2 ^ 32 - first ≡ offset = omega arith in
    let word : c.word_in-word.result ≡ word_in code (s.pc - first) = rw place c.word_in-word.ensures in
    let made : step s ≡ Leads (Going t) = page_step s first code c.word_in-word.result kept.code kept.even (omega arith) (omega arith) word ∙ goes.made in
    let less : t.gas < s.gas = next_takes_gas s t made in
    let before : s.gas ≤ c.args.self.now.gas = reached_gas kept.reached.0 c.args.self.now s kept.reached.1 in
    record {
      reached = further c.args.self.now s t kept.reached made;
      code = goes.stays first code kept.code;
      even = goes.even kept.even;
      inside = inr (omega (arith, less, before));
    }

pub loop-position-smaller : goal.loop-position-smaller
loop-position-smaller c =
    let first = c.args.first in
    let code = c.args.code.now in
    let kept = c.loop-position.invariant in
    let start = c.requires.code.start in
    let offset = c.loop-position.position.offset in
    let s : Machine = machine_at c.loop-position.self first c.loop-position.position in
    let t : Machine = machine_at c.step_word.new.self first c.step_word.new.position in
    let goes : GoesOn (decoded c.word_in-word.result) s t = rw c.if-not-step_word.false at c.step_word.ensures in
    let place : (first + offset) % 2 ^ 32 - first ≡ offset = omega arith in
    let word : c.word_in-word.result ≡ word_in code (s.pc - first) = rw place c.word_in-word.ensures in
    next_takes_gas s t (page_step s first code c.word_in-word.result kept.code kept.even (omega arith) (omega arith) word ∙ goes.made)

pub returns-then-word-eq-ECALL-clause-end : goal.returns-then-word-eq-ECALL-clause-end
returns-then-word-eq-ECALL-clause-end c =
    let first = c.args.first in
    let code = c.args.code.now in
    let kept = c.loop-position.invariant in
    let start = c.requires.code.start in
    let offset = c.loop-position.position.offset in
    let s : Machine = machine_at c.loop-position.self first c.loop-position.position in
    let t : Machine = machine_at c.step_word.new.self first c.step_word.new.position in
    let same : t ≡ s = rw c.if-not-step_word.true at c.step_word.ensures in
    let place : (first + offset) % 2 ^ 32 - first ≡ offset = omega arith in
    let word : c.word_in-word.result ≡ word_in code (s.pc - first) = rw place c.word_in-word.ensures in
    let ecall : c.word_in-word.result ≡ 0x73 = grind (arith, nat_tests, c.if-word-eq-ECALL.true) in
    ap (λ (m : Machine). instruction_at m) (c.stand_at.ensures ∙ same)
    ∙ page_instruction s first code c.word_in-word.result kept.code kept.even (omega arith) (omega arith) word
    ∙ ap decoded ecall
    ∙ ecall_word

pub returns-clause-end : goal.returns-clause-end
returns-clause-end c =
    let made : c.loop-position.position.gas < c.args.self.now.gas = elim c.loop-position.invariant.inside [
      | inl within ↦ absurd (omega (arith, c.loop-position-test.false))
      | inr less ↦ less
    ] in
    rw c.stand_at-2.ensures made
