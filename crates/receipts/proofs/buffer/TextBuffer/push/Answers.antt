use Rattle.std.proofs.Common.{refl}
use Rattle.receipts.proofs.Buffers.{appended_then, appended_waiting}
use Rattle.receipts.proofs.buffer.TextBuffer.push.Goals as goal

pub returns : goal.returns
returns g c = appended_then c.make_room.ensures.appended (appended_waiting _ _ _ _ c.in-Ok.ensures.items refl)
