use Rattle.std.proofs.Common.{◌≡◌, ◌==◌, ◌<◌, ◌+◌, ◌-◌, ◌%◌, ◌^◌, false, ◌∙◌, arith}
use Rattle.std.proofs.lemmas.Bool.Decides.{nat_tests}
use Rattle.rv_isa.specs.Decoded.{decoded}
use Rattle.rv_mem.specs.Code.{word_in}
use Rattle.rv_step.specs.PageSteps.{GoesOn, machine_at}
use Rattle.rv_step.specs.Step.{Leads, Going, step}
use Rattle.rv_step.specs.Until.{is_at}
use Rattle.rv_step.specs.declared.machine.Machine.{Machine}
use Rattle.rv_step.proofs.PageSteps.{page_step}
use Rattle.rv_step.proofs.Walks.{none_walked, one_walked}
use Rattle.rv_step.proofs.machine.Machine.walk_in_page.Goals as goal

pub loop-made-init : goal.loop-made-init
loop-made-init c =
    let same : (c.args.first + c.from.result) % 2 ^ 32 ≡ c.args.self.now.pc = omega (arith, c.from.ensures) in
    record {
      walks = rw (same, c.left.ensures) (none_walked c.args.stop c.args.self.now);
      within = omega arith;
      code = c.requires.code;
      even = rw same c.requires.even;
    }

pub loop-made-preserved : goal.loop-made-preserved
loop-made-preserved c =
    let first = c.args.first in
    let code = c.args.code.now in
    let kept = c.loop-made.invariant in
    let start = c.requires.code.start in
    let offset = c.loop-made.position.offset in
    let inside : offset < 4096 = c.if-position-lt-PAGE.true in
    let s : Machine = machine_at c.loop-made.self first c.loop-made.position in
    let t : Machine = machine_at c.step_word.new.self first c.step_word.new.position in
    let goes : GoesOn (decoded c.word_in-word.result) s t = rw c.if-not-step_word.false at c.step_word.ensures in
    let place : (first + offset) % 2 ^ 32 - first ≡ offset = omega arith in
    let word : c.word_in-word.result ≡ word_in code (s.pc - first) = rw place c.word_in-word.ensures in
    let made : step s ≡ Leads (Going t) = page_step s first code c.word_in-word.result kept.code kept.even (omega arith) (omega arith) word ∙ goes.made in
    let other : (offset == c.stop_offset-stop.result) ≡ false = grind (arith, nat_tests, c.if-position-stop.true) in
    let on : is_at c.args.stop s.pc ≡ false = c.stop_offset-stop.ensures offset inside ∙ other in
    let before = c.loop-made-test.true in
    record {
      walks = one_walked c.args.stop c.loop-made.made c.args.self.now s t kept.walks on made;
      within = omega (arith, before);
      code = goes.stays first code kept.code;
      even = goes.even kept.even;
    }
