use Rattle.receipts.proofs.Buffers.{whole_text}
use Rattle.receipts.proofs.write.write_result.Goals as goal

pub returns-clause-writes : goal.returns-clause-writes
returns-clause-writes g c = whole_text _ c.in-Ok.ensures.0 c.in-Ok.ensures.1 c.push_result.ensures c.finish.ensures.writes
