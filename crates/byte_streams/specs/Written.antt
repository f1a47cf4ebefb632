-- Writing bytes to a writer.
use Rattle.std.specs.Prelude.{◌≡◌, ◌≢◌, ℕ, List, ◌<◌, ◌++◌, Option, Some, Vec, Result, Ok, Err, take, length, ◌==◌, if◌then◌else◌, IfErr, OnErr, OnOk}
use Rattle.std.specs.declared.alloc.Global.{Global}
use Rattle.std.specs.Io.KnownBytes.{Appends}
use Rattle.byte_streams.specs.declared.fault.WriteFault.{WriteFault}
use Rattle.byte_streams.specs.declared.fault.WriteFault.TheVariants.{Io, WroteNothing}

-- the known bytes grow by a beginning of bs, and not by all of it
abbrev pub AppendsPart : Option (List ℕ) → Option (List ℕ) → List ℕ → Type 0
AppendsPart old new bs = (n : ℕ) × (n < length bs) × Appends old new (take n bs)

-- each refusal that is possible now was possible before
abbrev pub AtMostAs : (WriteFault → Type 0) → (WriteFault → Type 0) → Type 0
AtMostAs may_refuse before = (fault : WriteFault) → may_refuse fault → before fault

-- what a `Destination` says of itself, its `Write` included: the bytes that were written, if they are known, how a write may be
-- refused, and whether nothing that was written still waits
abbrev pub Writer : Type 0 → Type 1
Writer S = record { contents : S → Option (List ℕ); may_refuse : S → WriteFault → Type 0; is_flushed : S → Type 0 }

-- bytes in memory, as a `Destination`
abbrev pub in_memory : Writer (Vec ℕ Global)
in_memory = record { contents = λ bytes. Some bytes.items; may_refuse = λ _ fault. fault ≢ WroteNothing; is_flushed = λ _. Unit {0} }

-- a text was written; or a refusal that was possible came, and a beginning of the text was written, and not all of
-- it. Each refusal that is possible after it was possible before it
pub record WritesText {S X : Type 0} (to : Writer S) (result : Result X WriteFault) (old new : S) (text : List ℕ) : Type 0 where
  pub ok : OnOk result (Appends (to.contents old) (to.contents new) text)
  pub err : OnErr result (AppendsPart (to.contents old) (to.contents new) text)
  pub cause : IfErr result (to.may_refuse old)
  pub same : AtMostAs (to.may_refuse new) (to.may_refuse old)

-- what a writer's answer means: the number of bytes that it took, at least one, or the fault
abbrev pub taken_by : {E : Type 0} → Result ℕ E → Result ℕ WriteFault
taken_by (Ok n) = if n == 0 then Err WroteNothing else Ok n
taken_by (Err e) = Err Io

-- the known bytes grew by some bytes, which the rest follows
abbrev pub IsWrittenBefore : Option (List ℕ) → Option (List ℕ) → List ℕ → List ℕ → Type 0
IsWrittenBefore old new rest bytes = (done : List ℕ) × (done ++ rest ≡ bytes) × Appends old new done
