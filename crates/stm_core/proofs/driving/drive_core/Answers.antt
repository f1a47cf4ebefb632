use Rattle.std.proofs.Common.{sym}
use Rattle.stm_core.proofs.Drives.{ends_done, ends_early}
use Rattle.stm_core.proofs.driving.drive_core.Goals as goal

pub returns-then-not-done-clause-refused : goal.returns-then-not-done-clause-refused
returns-then-not-done-clause-refused c =
    ends_early c.args.core.now c.args.workers c.args.schedule.now c.follow.new.core.state c.requires.workers.0 c.requires.workers.1
    c.requires.start c.in_ok-follow.ensures.driven (sym c.if-not-done.ensures)

pub returns-clause-counts : goal.returns-clause-counts
returns-clause-counts c =
    let s = c.follow.new.core.state in (
      s,
      ends_done c.args.core.now c.args.workers c.args.schedule.now s c.requires.workers.0 c.requires.workers.1
          c.requires.start c.in_ok-follow.ensures.driven (sym c.if-not-done.ensures),
      c.in_ok-outcome.ensures.counts,
    )
