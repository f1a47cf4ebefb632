use Rattle.std.proofs.Common.{arith}
use Rattle.std.proofs.lemmas.List.{length-take}
use Rattle.receipts.proofs.text.push_regs.Goals as goal

pub slice_bounds-push-end-2 : goal.slice_bounds-push-end-2
slice_bounds-push-end-2 g c = omega (arith, length-take 293 c.regs_bytes.result)

pub push-requires : goal.push-requires
push-requires g c = omega (arith, length-take 293 c.regs_bytes.result)
