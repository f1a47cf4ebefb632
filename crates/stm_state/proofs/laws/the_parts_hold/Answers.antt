use Rattle.stm_state.proofs.Parted.{sizes_kept, attended_kept, estimates_kept, watched_kept, borne_out_kept}
use Rattle.stm_state.proofs.laws.the_parts_hold.Goals as goal

pub returns : goal.returns
returns c = record {
  sized = sizes_kept;
  part_1 = attended_kept;
  part_2 = estimates_kept;
  part_3 = watched_kept;
  part_4 = borne_out_kept;
}
