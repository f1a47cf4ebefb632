use Rattle.std.proofs.Common.{refl, sym, ◌∙◌}
use Rattle.debugger.proofs.Cuts.{hear_cut, hear_line_cut, possible_before}
use Rattle.debugger.proofs.SessionInputs.{hear_byte, hear_line, hear_quit, start_heard}
use Rattle.debugger.proofs.session.hear.Goals as goal

pub loop-byte-init : goal.loop-byte-init
loop-byte-init g c = (start_heard c.args.has_more c.args.replay.now c.args.line.now.items (g.W.Write.contents c.args.out.now) c.requires.begun, λ fault h. h, c.requires.flushed, λ _. refl)

pub loop-byte-preserved-in-Ok : goal.loop-byte-preserved-in-Ok
loop-byte-preserved-in-Ok g c = (
  rw c.in-Ok.ensures.items
      (hear_byte c.args.has_more c.args.replay.now c.loop-byte.replay c.args.line.now.items c.args.part.now c.loop-byte.line.items c.loop-byte.byte-index _ _ c.loop-byte-test.true c.loop-byte.invariant.0 c.if-byte-ne-LINE_END.true),
  c.loop-byte.invariant.1,
  c.loop-byte.invariant.2,
  c.loop-byte.invariant.3,
)

pub returns-in-Ok-false-clause-ok : goal.returns-in-Ok-false-clause-ok
returns-in-Ok-false-clause-ok g c =
    hear_quit c.args.has_more c.args.replay.now c.loop-byte.replay c.args.line.now.items c.args.part.now c.loop-byte.line.items c.loop-byte.byte-index _ _ c.loop-byte-test.true c.loop-byte.invariant.0
    c.answer_line.new.replay c.loop-byte.line.items _ c.if-byte-ne-LINE_END.false
    (rw c.as_slice.ensures.value at c.in-Ok-false.ensures.replay) (rw c.as_slice.ensures.value at c.in-Ok-false.ensures.text)
    (sym c.in-Ok-false.field-0-test ∙ rw c.as_slice.ensures.value at c.in-Ok-false.ensures.goes_on)

pub loop-byte-preserved : goal.loop-byte-preserved
loop-byte-preserved g c = (
  rw c.clear.ensures.items
      (hear_line c.args.has_more c.args.replay.now c.loop-byte.replay c.args.line.now.items c.args.part.now c.loop-byte.line.items c.loop-byte.byte-index _ _ c.loop-byte-test.true c.loop-byte.invariant.0
      c.answer_line.new.replay _ c.if-byte-ne-LINE_END.false
      (rw c.as_slice.ensures.value at c.in-Ok-true.ensures.replay) (rw c.as_slice.ensures.value at c.in-Ok-true.ensures.text)
      (sym c.in-Ok-true.field-0-test ∙ rw c.as_slice.ensures.value at c.in-Ok-true.ensures.goes_on)),
  λ fault h. c.loop-byte.invariant.1 fault (c.in-Ok-true.ensures.same fault h),
  λ _. c.in-Ok-true.ensures.flushed,
  λ none. cc,
)

pub returns-in-Err-clause-err : goal.returns-in-Err-clause-err
returns-in-Err-clause-err g c =
    hear_cut c.args.has_more c.args.replay.now c.loop-byte.replay c.args.line.now.items c.args.part.now c.loop-byte.line.items c.loop-byte.byte-index
    (g.W.Write.contents c.args.out.now) (g.W.Write.contents c.loop-byte.out) c.loop-byte.invariant.0

pub returns-in-Err-answer_line-clause-err : goal.returns-in-Err-answer_line-clause-err
returns-in-Err-answer_line-clause-err g c =
    hear_line_cut c.args.has_more c.args.replay.now c.loop-byte.replay c.args.line.now.items c.args.part.now c.loop-byte.line.items c.loop-byte.byte-index
    (g.W.Write.contents c.args.out.now) (g.W.Write.contents c.loop-byte.out) c.loop-byte.invariant.0 c.in-Err-answer_line.fault c.answer_line.new.replay (g.W.Write.contents c.answer_line.new.out)
    c.loop-byte-test.true c.if-byte-ne-LINE_END.false
    (rw c.as_slice.ensures.value at c.in-Err-answer_line.ensures.err)

pub returns-in-Err-answer_line-clause-cause : goal.returns-in-Err-answer_line-clause-cause
returns-in-Err-answer_line-clause-cause g c =
    possible_before c.in-Err-answer_line.fault _ _ c.loop-byte.invariant.1 c.in-Err-answer_line.ensures.cause
