use Rattle.std.proofs.Common.{IfOk, IfSome, subst}
use Rattle.block_file.specs.Block.{parsed_block}
use Rattle.debugger.specs.Session.{AppendsBeginning, MayBeCutOff}
use Rattle.engines.specs.Debug.{IsReplayedFault, replayed_text}
use Rattle.engines.specs.Engine.{IsRefusedJob, loaded_job}
use Rattle.engines.specs.Named.{bytes_left, may_fail_of}
use Rattle.engines.specs.declared.fault.Refusal.TheVariants as refusal
use Rattle.engines.specs.declared.fault.SeqFault.TheVariants.{Memory}
use Rattle.engines.proofs.commands.debug.Goals as goal

pub returns-clause-refused : goal.returns-clause-refused
returns-clause-refused g c =
    let content = g.D.Disk.content in
    let typed = g.I.Read.remaining c.args.input.now in
    let old = g.W.Write.contents c.args.out.now in
    let new = g.W.Write.contents c.debug_block_to.new.out in
    subst (λ block. IsRefusedJob (refusal.Seq Memory) (IsReplayedFault (MayBeCutOff (g.I.Source.may_fail c.args.input.now) typed) (g.W.Destination.may_refuse c.args.out.now) c.args.call)
    (may_fail_of g.D.File.Source.may_fail (content block.disk.now block.path.now) block.file) (bytes_left g.D.File.Read.remaining (content block.disk.now block.path.now) block.file)
    (content c.args.disk.now) old new c.in-Err.refusal
    × IfSome (bytes_left g.D.File.Read.remaining (content block.disk.now block.path.now) block.file) (λ input. IfSome typed (λ lines.
    IfSome (loaded_job (content c.args.disk.now) (parsed_block input)) (λ job. IfOk (replayed_text c.args.has_more job c.args.call lines) (AppendsBeginning old new)))))
    c.new-block.ensures (c.in-Err.ensures.refused, c.in-Err.ensures.cut)
