use denote.Param.Send.{IsSend}
use Rattle.version_arena.proofs.Crosses.{Bytes-send}
use Rattle.version_arena.specs.contracts.raw.Bytes.{the_row}

pub send : IsSend the_row
send = Bytes-send
