use Rattle.never_stuck.proofs.Lists.{never_stuck, never_stuck_far_from_limits, never_stuck_where_reached, no_list_is_dead_end}
use Rattle.never_stuck.proofs.laws.never_stuck.Goals as goal

pub returns : goal.returns
returns c = record {
  ends_or_limit = never_stuck;
  ends = never_stuck_far_from_limits;
  no_dead_end = no_list_is_dead_end;
  where_reached = never_stuck_where_reached;
}
