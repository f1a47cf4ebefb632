-- Text on its way to a writer.
use Rattle.std.specs.Prelude.{ℕ, List, ◌++◌, MatchOption, Option, Result}
use Rattle.byte_streams.specs.Written.{AppendsPart, AtMostAs, IsWrittenBefore, Writer, WritesText}
use Rattle.byte_streams.specs.declared.fault.WriteFault.{WriteFault}
use Rattle.receipts.specs.declared.buffer.TextBuffer.{TextBuffer}

-- either the part of a text that is not written yet waits; or a write was refused, and a proper beginning of the text
-- was written. The writer started as `start`, at which this refusal was possible.
abbrev pub IsKept : {S : Type 0} → Writer S → Option WriteFault → List ℕ → S → S → List ℕ → Type 0
IsKept to refused waiting start now text =
    MatchOption refused (IsWrittenBefore (to.contents start) (to.contents now) waiting text)
    (λ fault. AppendsPart (to.contents start) (to.contents now) text × to.may_refuse start fault)

-- this text was appended since the writer was `start`; a refusal that is possible now was possible then
abbrev pub Holds : {S : Type 0} → Writer S → TextBuffer → S → S → List ℕ → Type 0
Holds to buffer start now text =
    AtMostAs (to.may_refuse now) (to.may_refuse start) × IsKept to buffer.refused buffer.waiting.items start now text

-- bytes were appended to a text, whatever it was
pub record Appended {S : Type 0} (to : Writer S) (old : TextBuffer) (before : S) (new : TextBuffer) (after : S) (bytes : List ℕ) : Type 0 where
  pub holds : (start : S) (text : List ℕ) → Holds to old start before text → Holds to new start after (text ++ bytes)

-- a text that was appended, whatever it is, is written, as `WritesText` says
abbrev pub FinishesText : {S X : Type 0} → Writer S → Result X WriteFault → TextBuffer → S → S → Type 0
FinishesText {S} to result buffer now after =
    (start : S) (text : List ℕ) → Holds to buffer start now text → WritesText to result start after text
