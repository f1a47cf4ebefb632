use Rattle.std.proofs.Common.{IfErr, subst}
use Rattle.engines.specs.Engine.{IsRefusedJob, IsRunFault}
use Rattle.engines.specs.Named.{bytes_left, may_fail_of}
use Rattle.engines.specs.declared.fault.Refusal.TheVariants as refusal
use Rattle.engines.specs.declared.fault.SeqFault.TheVariants.{Memory}
use Rattle.engines.proofs.commands.seq.Goals as goal

pub returns-clause-refused : goal.returns-clause-refused
returns-clause-refused g c =
    let content = g.D.Disk.content in
    subst (λ block. IfErr c.seq_to.result (IsRefusedJob (refusal.Seq Memory) (IsRunFault (g.W.Destination.may_refuse c.args.out.now))
    (may_fail_of g.D.File.Source.may_fail (content block.disk.now block.path.now) block.file) (bytes_left g.D.File.Read.remaining (content block.disk.now block.path.now) block.file)
    (content c.args.disk.now) (g.W.Write.contents c.args.out.now) (g.W.Write.contents c.seq_to.new.out))) c.new-block.ensures c.seq_to.ensures.refused
