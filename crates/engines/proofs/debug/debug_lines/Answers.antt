use Rattle.std.proofs.Common.{ℕ, Bool, List, Option, IfSome}
use Rattle.std.proofs.lemmas.Option.{IfSome_then}
use Rattle.byte_streams.specs.declared.fault.WriteFault.{WriteFault}
use Rattle.byte_streams.specs.declared.fault.WriteFault.TheVariants as output
use Rattle.debugger.specs.declared.fault.DebugFault.{DebugFault}
use Rattle.debugger.specs.declared.fault.DebugFault.TheVariants as debug
use Rattle.debugger.specs.Replay.{ReplayState}
use Rattle.debugger.specs.Session.{AppendsBeginning, IsCutShort, IsPossibleFault, MayBeCutOff, lines_of, session}
use Rattle.debugger.proofs.Cuts.{cut_short_begins}
use Rattle.engines.specs.declared.fault.Refusal.TheVariants.{Output}
use Rattle.engines.specs.Debug.{IsSessionFault}
use Rattle.engines.proofs.debug.debug_lines.Goals as goal

-- a session that was cut short has written a beginning of what it prints
begins : (has_more : Bool) (typed : Option (List ℕ)) (fault : DebugFault) (old new : ReplayState) (before after : Option (List ℕ)) → IfSome typed (λ lines. IsCutShort has_more fault old (lines_of lines) new before after) → IfSome typed (λ lines. AppendsBeginning before after (session has_more old (lines_of lines)).text)
begins has_more typed fault old new before after cut =
    IfSome_then typed cut (λ lines h. cut_short_begins has_more fault old (lines_of lines) new before after h)

pub returns-in-Err-Unreadable-clause-cut : goal.returns-in-Err-Unreadable-clause-cut
returns-in-Err-Unreadable-clause-cut g c =
    begins c.args.has_more (g.L.Read.remaining c.args.lines.now) c.in-Err-Unreadable.field-0 c.args.replay.now c.debug_lines_to.new.replay
    (g.W.Write.contents c.args.out.now) (g.W.Write.contents c.debug_lines_to.new.out) c.in-Err-Unreadable.ensures.err

pub returns-in-Err-Output-clause-cut : goal.returns-in-Err-Output-clause-cut
returns-in-Err-Output-clause-cut g c =
    begins c.args.has_more (g.L.Read.remaining c.args.lines.now) c.in-Err-Output.field-0 c.args.replay.now c.debug_lines_to.new.replay
    (g.W.Write.contents c.args.out.now) (g.W.Write.contents c.debug_lines_to.new.out) c.in-Err-Output.ensures.err

pub returns-in-Err-Memory-clause-cut : goal.returns-in-Err-Memory-clause-cut
returns-in-Err-Memory-clause-cut g c =
    begins c.args.has_more (g.L.Read.remaining c.args.lines.now) c.in-Err-Memory.field-0 c.args.replay.now c.debug_lines_to.new.replay
    (g.W.Write.contents c.args.out.now) (g.W.Write.contents c.debug_lines_to.new.out) c.in-Err-Memory.ensures.err

-- a refusal of a session's output
of_output : (lines_may_fail : Type 0) (may_refuse : WriteFault → Type 0) (fault : WriteFault) → IsPossibleFault may_refuse (debug.Output fault) → IsSessionFault lines_may_fail may_refuse (Output fault)
of_output lines_may_fail may_refuse output.Io h = h
of_output lines_may_fail may_refuse output.WroteNothing h = h
of_output lines_may_fail may_refuse output.Memory h = absurd h

pub returns-in-Err-Output-clause-refused : goal.returns-in-Err-Output-clause-refused
returns-in-Err-Output-clause-refused g c =
    of_output (MayBeCutOff (g.L.Source.may_fail c.args.lines.now) (g.L.Read.remaining c.args.lines.now)) (g.W.Destination.may_refuse c.args.out.now) c.in-Err-Output.fault (rw c.in-Err-Output.field-0-is at c.in-Err-Output.ensures.cause)
