use denote.Param.Send.{IsSync}
use Rattle.version_arena.proofs.Crosses.{Bytes-sync}
use Rattle.version_arena.specs.contracts.raw.Bytes.{the_row}

pub sync : IsSync the_row
sync = Bytes-sync
