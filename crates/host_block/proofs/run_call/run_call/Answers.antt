use Rattle.std.proofs.Common.{◌∙◌, refl, subst}
use Rattle.host_block.specs.Known.{KeepsAnswers}
use Rattle.host_block.specs.Slots.{TouchedView}
use Rattle.host_block.proofs.Answering.{is_answered_call, is_answered_from}
use Rattle.host_block.proofs.run_call.run_call.Goals as goal

pub loop-key-preserved : goal.loop-key-preserved
loop-key-preserved c =
    let t = c.loop-key.touched in
    let gone : KeepsAnswers c.args.touched.now.bases c.args.touched.now.changes c.go.new.self c.answer_known.new.run =
    subst (λ (seen : TouchedView). KeepsAnswers seen.bases seen.changes c.go.new.self c.answer_known.new.run) c.loop-key.invariant.touched
    (is_answered_from t.bases t.changes c.in-Ask.key _ c.in_ok-answer_known.field-0 c.go.new.self c.answer_known.new.run refl c.in_ok-answer_known.ensures.ok) in
    record {
      touched = c.answer_known.ensures.touched ∙ c.loop-key.invariant.touched;
      call = is_answered_call _ c.in-Ask.key c.in_ok-answer_known.field-0 c.go.new.self c.answer_known.new.run c.in_ok-answer_known.ensures.ok ∙ c.go.ensures.call ∙ c.loop-key.invariant.call;
      from = λ store agrees from. gone store agrees (rw c.go.ensures.answers (c.loop-key.invariant.from store agrees from));
    }
