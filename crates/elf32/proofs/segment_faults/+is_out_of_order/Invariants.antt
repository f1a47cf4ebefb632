use Rattle.std.proofs.Common.{length}
use Rattle.elf32.proofs.segment_faults.+is_out_of_order.Given as goal

abbrev pub decreases-is_out_of_order : goal.decreases-is_out_of_order
decreases-is_out_of_order l = length l.loads.now
