use Rattle.receipts.proofs.Buffers.{whole_text}
use Rattle.session_turns.proofs.dump.write_dump.Goals as goal

pub returns-clause-writes : goal.returns-clause-writes
returns-clause-writes g c = whole_text _ c.args.buffer.is_whole c.args.buffer.is_empty c.push_dump.ensures c.finish.ensures.writes
