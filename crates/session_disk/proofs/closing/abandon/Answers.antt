use Rattle.session_disk.proofs.Removals.{removes_none}
use Rattle.session_disk.proofs.closing.abandon.Goals as goal

pub returns-in-Err-clause-kept : goal.returns-in-Err-clause-kept
returns-in-Err-clause-kept g c = removes_none (g.F.LogFolder.view c.args.folder.now)
