-- Texts in memory: what is appended to an empty one and finished is the whole of it.
use Rattle.std.proofs.Common.{◌≡◌, ℕ, List, [], ◌++◌, Result, Ok, Err, None, ap, ◌∙◌}
use Rattle.std.specs.Prelude.{IfOk, Vec}
use Rattle.std.specs.declared.alloc.Global.{Global}
use Rattle.byte_streams.specs.Written.{in_memory}
use Rattle.receipts.specs.Buffer.{Appended}
use Rattle.receipts.specs.declared.buffer.TextBuffer.{TextBuffer}
use Rattle.receipts.proofs.Buffers.{whole_text}
use Rattle.session_turns.specs.Stages.{IsFinished}

pub whole_bytes : {E : Type 0} (result : Result (Vec ℕ Global) E) (waiting filled : TextBuffer) (empty text : Vec ℕ Global) (bytes : List ℕ)
    → IfOk result (λ whole. IsFinished filled text whole) → (waiting.refused ≡ None) × (waiting.waiting.items ≡ []) → empty.items ≡ []
    → Appended in_memory waiting empty filled text bytes → IfOk result (λ whole. whole.items ≡ bytes)
whole_bytes (Ok whole) waiting filled empty text bytes is start none appended = (whole_text (Ok tt) start.0 start.1 appended is).ok ∙ ap (λ items. items ++ bytes) none
whole_bytes (Err e) waiting filled empty text bytes is start none appended = tt
