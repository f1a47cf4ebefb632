use Rattle.std.proofs.Common.{◌≡◌, subst}
use Rattle.sqlite_disk.specs.Tally.{both_counts}
use Rattle.session_disk.specs.Faults.{reported_fault}
use Rattle.session_disk.specs.Logs.{IsGivenUp}
use Rattle.session_disk.proofs.Removals.{removes_none}
use Rattle.session_disk.proofs.path.open_beside.Goals as goal

pub returns-in-Ok-clause-keeps : goal.returns-in-Ok-clause-keeps
returns-in-Ok-clause-keeps g c = removes_none (g.F.LogFolder.view c.args.folder.now)

pub returns-in-Err-clause-given_up : goal.returns-in-Err-clause-given_up
returns-in-Err-clause-given_up g c = (
  c.in-Err.rest,
  c.in-Err.fault,
  c.in-Err.ensures.cause,
  subst (λ q. c.give_up-reported.result ≡ reported_fault (both_counts (g.D.Disk.tally_of q.0) (g.D.Disk.tally_of q.1)).refused c.in-Err.fault) c.into_files-files.ensures c.give_up-reported.ensures.reported,
  subst (λ q. IsGivenUp g.D.Disk c.in-Err.fault q.0 c.give_up-reported.new.files.log c.args.log (g.F.LogFolder.view c.args.folder.now) (g.F.LogFolder.view c.give_up-reported.new.folder)) c.into_files-files.ensures c.give_up-reported.ensures.removes,
)
