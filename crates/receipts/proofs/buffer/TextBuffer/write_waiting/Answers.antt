use Rattle.receipts.proofs.Buffers.{waiting_written}
use Rattle.receipts.proofs.buffer.TextBuffer.write_waiting.Goals as goal

pub returns-clause-appended : goal.returns-clause-appended
returns-clause-appended g c =
    waiting_written _ _ _ _ (λ none. rw c.as_slice.ensures.value at (c.first_refusal-self.ensures.none none)) c.first_refusal-self.ensures.before c.first_refusal-self.ensures.same c.clear.ensures.items
