use Rattle.always_ends.proofs.FairSchedules.{work_is_bounded}
use Rattle.always_ends.proofs.Walks.{idle_changes_nothing}
use Rattle.always_ends.proofs.WorkAlong.{work_of_lists_is_bounded}
use Rattle.always_ends.proofs.WorkOfLists.{work_but_reads_is_bounded}
use Rattle.always_ends.proofs.laws.work_is_bounded.Goals as goal

pub returns : goal.returns
returns c = record { idle = idle_changes_nothing; work = work_is_bounded; any_steps = work_but_reads_is_bounded; lists = work_of_lists_is_bounded }
