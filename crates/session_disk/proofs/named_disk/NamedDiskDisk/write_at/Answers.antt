use Rattle.session_disk.proofs.TooLarge.{counts_both}
use Rattle.session_disk.proofs.named_disk.NamedDiskDisk.write_at.Goals as goal

pub returns-clause-frozen : goal.returns-clause-frozen
returns-clause-frozen g c stopped = let (fails, stays) = c.write_at-answer.ensures.frozen stopped in (c.full_if_too_large.ensures.err fails, record { frozen = stays.frozen; same = stays.same; clean = stays.clean; no_more = stays.no_more; no_fewer = stays.no_fewer })

pub returns-clause-tally : goal.returns-clause-tally
returns-clause-tally g c = counts_both _ _ _ _ _ _ c.full_if_too_large.ensures.full c.write_at-answer.ensures.tally c.full_if_too_large.ensures.counted
