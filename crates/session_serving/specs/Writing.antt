-- Private help of proofs: no public clause cites it, except `PrintsText`. How an answer is written.
use Rattle.std.specs.Prelude.{◌≡◌, ℕ, List, ◌++◌, Option, Result, Ok, Err, IfErr, OnOk}
use Rattle.std.specs.Io.KnownBytes.{Appends}
use Rattle.byte_streams.specs.Written.{AtMostAs, Writer}
use Rattle.byte_streams.specs.declared.fault.WriteFault.{WriteFault}

-- a text was written in whole, or a beginning of it if a write failed
abbrev pub Says : {X E : Type 0} → Result X E → Option (List ℕ) → Option (List ℕ) → List ℕ → Type 0
Says (Ok x) before after text = Appends before after text
Says (Err e) before after text = (part : List ℕ) × (left : List ℕ) × (part ++ left ≡ text) × Appends before after part

-- a text was written in whole and flushed; or it was refused as it might be, and a beginning of it was written. Whatever may be
-- refused after it might be refused before it
pub record PrintsText {S X : Type 0} (to : Writer S) (result : Result X WriteFault) (old new : S) (text : List ℕ) : Type 0 where
  pub says : Says result (to.contents old) (to.contents new) text
  pub flushed : OnOk result (to.is_flushed new)
  pub refused : IfErr result (to.may_refuse old)
  pub no_worse : AtMostAs (to.may_refuse new) (to.may_refuse old)
