use Rattle.always_ends.proofs.FairSchedules.{fair_rounds_end, fair_schedule_ends, idle_is_done}
use Rattle.always_ends.proofs.EndlessRuns.{endless_runs_reach_the_end}
use Rattle.always_ends.proofs.Stretches.{turns_are_fair}
use Rattle.always_ends.proofs.laws.fair_schedules_end.Goals as goal

pub returns : goal.returns
returns c = record { rounds = fair_rounds_end; schedules = fair_schedule_ends; any_steps = endless_runs_reach_the_end; turns = turns_are_fair; idle = idle_is_done }
