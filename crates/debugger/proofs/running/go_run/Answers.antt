use Rattle.std.proofs.Common.{◌≡◌, ◌∙◌, sym, true, false, arith}
use Rattle.std.proofs.lemmas.Bool.Decides.{nat_tests}
use Rattle.rv_step.specs.Run.{is_running}
use Rattle.debugger.proofs.Further.{answer_over, goes_over, one_less_over, one_unanswered}
use Rattle.debugger.proofs.running.go_run.Goals as goal

pub returns-then-not-is_running-clause-ok : goal.returns-then-not-is_running-clause-ok
returns-then-not-is_running-clause-ok c =
    let still : is_running c.args.run.now.stage ≡ false = sym c.is_running.ensures ∙ c.if-not-is_running.true in
    answer_over c.args.store.now c.args.stop c.args.most c.args.run.now c.answer_from.new.run c.requires.some still c.requires.going c.in_ok-answer_from.ensures.ok

pub returns-then-made-eq1-clause-err : goal.returns-then-made-eq1-clause-err
returns-then-made-eq1-clause-err c =
    let running : is_running c.args.run.now.stage ≡ true = sym c.is_running.ensures ∙ c.if-not-is_running.false in
    let one : c.in_ok-made.made ≡ 1 = grind (arith, nat_tests, c.if-made-eq1.true) in
    one_unanswered c.args.store.now c.args.run.now c.args.stop c.args.most running c.in_ok-made.made c.go_until.new.self c.answer_from-2.new.run one
    c.in_ok-made.ensures.ok c.in-Err.ensures.err c.in-Err.ensures.asked

pub returns-in-Ok-clause-ok : goal.returns-in-Ok-clause-ok
returns-in-Ok-clause-ok c =
    let running : is_running c.args.run.now.stage ≡ true = sym c.is_running.ensures ∙ c.if-not-is_running.false in
    goes_over c.args.store.now c.args.run.now c.args.stop c.args.most running c.in_ok-made.made c.go_until.new.self c.answer_from-2.new.run
    c.in_ok-made.ensures.ok c.in-Ok.ensures.ok

pub returns-else-made-eq1-clause-ok : goal.returns-else-made-eq1-clause-ok
returns-else-made-eq1-clause-ok c =
    let running : is_running c.args.run.now.stage ≡ true = sym c.is_running.ensures ∙ c.if-not-is_running.false in
    one_less_over c.args.store.now c.args.run.now c.args.stop c.args.most running c.in_ok-made.made c.go_until.new.self c.answer_from-2.new.run
    (λ one. grind (arith, nat_tests, c.if-made-eq1.false, one)) c.in_ok-made.ensures.ok c.in-Err.ensures.err c.in-Err.ensures.asked
