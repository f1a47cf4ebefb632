use denote.RattleType.{RattleType}
use denote.Param.Send.{IsSync}
use Rattle.std.specs.declared.alloc.Allocator.{Ghosts}
use Rattle.version_arena.proofs.Crosses.{Allocation-sync}
use Rattle.version_arena.specs.contracts.raw.Allocation.{the_row}

pub sync : (A : RattleType) (g : Ghosts A.Denot) → IsSync (the_row A g)
sync = Allocation-sync
