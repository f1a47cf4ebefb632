use Rattle.std.proofs.Common.{[], ◌++◌, take, arith, lit≤, inl}
use Rattle.std.proofs.KnownBytes.{Consumes-nil, Consumes-trans}
use Rattle.std.proofs.lemmas.List.Elements.{All-nil}
use Rattle.debugger.specs.Hearing.{IsInLine}
use Rattle.debugger.proofs.Cuts.{cut_at, cut_between_reads, cut_inside, cut_over, read_none, possible_before}
use Rattle.debugger.proofs.CutOff.{one_more, too_long}
use Rattle.debugger.proofs.SessionInputs.{ended_at, ended_over, last_heard, part_heard, start_heard}
use Rattle.debugger.proofs.session.debug_lines_to.Goals as goal

pub loop-turn-init : goal.loop-turn-init
loop-turn-init g c = (
  [],
  Consumes-nil (g.R.Read.remaining c.args.lines.now),
  rw c.new-line.ensures.items (start_heard c.args.has_more c.args.replay.now [] (g.W.Write.contents c.args.out.now) (All-nil IsInLine)),
  (λ h. h),
  (λ fault h. h),
  lit≤ tt,
  λ none. cc,
)

pub hear_end-requires : goal.hear_end-requires
hear_end-requires g c = rw c.as_slice.ensures.value c.loop-turn.invariant.2.within

pub hear-requires-clause-begun : goal.hear-requires-clause-begun
hear-requires-clause-begun g c = c.loop-turn.invariant.2.within

pub loop-turn-preserved : goal.loop-turn-preserved
loop-turn-preserved g c = (
  c.loop-turn.invariant.0 ++ take c.in-Ok.count c.read_behind.new.part,
  Consumes-trans _ _ _ c.loop-turn.invariant.0 (take c.in-Ok.count c.read_behind.new.part) c.loop-turn.invariant.1 c.in-Ok.ensures.bytes.0,
  part_heard c.args.has_more c.args.replay.now c.loop-turn.replay c.loop-turn.invariant.0 c.loop-turn.line.items _ _ c.loop-turn.invariant.2 (take c.in-Ok.count c.read_behind.new.part) c.hear.new.line.items c.hear.new.replay _
      (rw c.in-Ok-true.field-0-test at c.in-Ok-true.ensures.ok),
  (λ h. c.loop-turn.invariant.3 (c.read_behind.ensures.same h)),
  (λ fault h. c.loop-turn.invariant.4 fault (c.hear.ensures.same fault h)),
  one_more c.loop-turn._turn c.loop-turn.invariant.0 c.read_behind.new.part c.in-Ok.count c.loop-turn.invariant.5 (omega arith) c.in-Ok.ensures.bound.0,
  c.in-Ok-true.ensures.flushed,
)

pub returns-in-Err-hear-clause-err : goal.returns-in-Err-hear-clause-err
returns-in-Err-hear-clause-err g c =
    cut_over c.args.has_more c.in-Err-hear.fault _ _ c.args.replay.now c.hear.new.replay (c.loop-turn.invariant.0 ++ take c.in-Ok.count c.read_behind.new.part) (g.W.Write.contents c.args.out.now) (g.W.Write.contents c.hear.new.out)
    (Consumes-trans _ _ _ c.loop-turn.invariant.0 (take c.in-Ok.count c.read_behind.new.part) c.loop-turn.invariant.1 c.in-Ok.ensures.bytes.0)
    (cut_inside c.args.has_more c.args.replay.now c.loop-turn.replay c.loop-turn.invariant.0 c.loop-turn.line.items (g.W.Write.contents c.args.out.now) (g.W.Write.contents c.loop-turn.out) c.loop-turn.invariant.2
    c.in-Err-hear.fault (take c.in-Ok.count c.read_behind.new.part) c.hear.new.replay (g.W.Write.contents c.hear.new.out) c.in-Err-hear.ensures.err)

pub returns-in_default-clause-err : goal.returns-in_default-clause-err
returns-in_default-clause-err g c =
    cut_between_reads c.args.has_more _ _ c.args.replay.now c.loop-turn.replay c.loop-turn.invariant.0 c.loop-turn.line.items (g.W.Write.contents c.args.out.now) (g.W.Write.contents c.loop-turn.out) c.loop-turn.invariant.1 c.loop-turn.invariant.2

pub returns-clause-err : goal.returns-clause-err
returns-clause-err g c =
    cut_between_reads c.args.has_more _ _ c.args.replay.now c.loop-turn.replay c.loop-turn.invariant.0 c.loop-turn.line.items (g.W.Write.contents c.args.out.now) (g.W.Write.contents c.loop-turn.out) c.loop-turn.invariant.1 c.loop-turn.invariant.2

pub returns-in-Err-clause-err : goal.returns-in-Err-clause-err
returns-in-Err-clause-err g c =
    cut_at c.args.has_more c.in-Err.fault _ (g.R.Read.remaining c.read_behind.new.lines) c.args.replay.now c.loop-turn.replay c.hear_end.new.replay c.loop-turn.invariant.0 c.loop-turn.line.items (g.W.Write.contents c.args.out.now) (g.W.Write.contents c.loop-turn.out) (g.W.Write.contents c.hear_end.new.out)
    (read_none _ _ (g.R.Read.remaining c.read_behind.new.lines) c.loop-turn.invariant.0 c.read_behind.new.part c.in-Ok.count c.if-count-eq0.true c.loop-turn.invariant.1 c.in-Ok.ensures.bytes.0)
    (c.in-Ok.ensures.bytes.1 c.if-count-eq0.true (omega arith)) c.loop-turn.invariant.2
    (rw c.as_slice.ensures.value at c.in-Err.ensures.err)

pub returns-in-Ok-hear_end-clause-ok : goal.returns-in-Ok-hear_end-clause-ok
returns-in-Ok-hear_end-clause-ok g c =
    ended_at c.args.has_more _ (g.R.Read.remaining c.read_behind.new.lines) c.args.replay.now c.loop-turn.replay c.hear_end.new.replay c.loop-turn.invariant.0 c.loop-turn.line.items (g.W.Write.contents c.args.out.now) (g.W.Write.contents c.loop-turn.out) (g.W.Write.contents c.hear_end.new.out)
    (read_none _ _ (g.R.Read.remaining c.read_behind.new.lines) c.loop-turn.invariant.0 c.read_behind.new.part c.in-Ok.count c.if-count-eq0.true c.loop-turn.invariant.1 c.in-Ok.ensures.bytes.0)
    (c.in-Ok.ensures.bytes.1 c.if-count-eq0.true (omega arith)) c.loop-turn.invariant.2
    (rw c.as_slice.ensures.value at c.in-Ok-hear_end.ensures.ok)

pub returns-in-Ok-false-clause-ok : goal.returns-in-Ok-false-clause-ok
returns-in-Ok-false-clause-ok g c =
    ended_over c.args.has_more _ _ c.args.replay.now c.hear.new.replay (c.loop-turn.invariant.0 ++ take c.in-Ok.count c.read_behind.new.part) c.hear.new.line.items (g.W.Write.contents c.args.out.now) (g.W.Write.contents c.hear.new.out)
    (Consumes-trans _ _ _ c.loop-turn.invariant.0 (take c.in-Ok.count c.read_behind.new.part) c.loop-turn.invariant.1 c.in-Ok.ensures.bytes.0)
    (last_heard c.args.has_more c.args.replay.now c.loop-turn.replay c.loop-turn.invariant.0 c.loop-turn.line.items (g.W.Write.contents c.args.out.now) (g.W.Write.contents c.loop-turn.out) c.loop-turn.invariant.2
    (take c.in-Ok.count c.read_behind.new.part) c.hear.new.line.items c.hear.new.replay (g.W.Write.contents c.hear.new.out) (rw c.in-Ok-false.field-0-test at c.in-Ok-false.ensures.ok))

pub returns-in_default-clause-unreadable : goal.returns-in_default-clause-unreadable
returns-in_default-clause-unreadable g c _ = inl (c.loop-turn.invariant.3 c.in_default.ensures.fails)

pub returns-clause-unreadable : goal.returns-clause-unreadable
returns-clause-unreadable g c _ =
    too_long (g.R.Source.may_fail c.args.lines.now) (g.R.Read.remaining c.args.lines.now) (g.R.Read.remaining c.loop-turn.lines) c.loop-turn.invariant.0 (omega arith) c.loop-turn.invariant.1

pub returns-in-Err-clause-cause : goal.returns-in-Err-clause-cause
returns-in-Err-clause-cause g c = possible_before c.in-Err.fault _ _ c.loop-turn.invariant.4 c.in-Err.ensures.cause

pub returns-in-Err-hear-clause-cause : goal.returns-in-Err-hear-clause-cause
returns-in-Err-hear-clause-cause g c = possible_before c.in-Err-hear.fault _ _ c.loop-turn.invariant.4 c.in-Err-hear.ensures.cause
