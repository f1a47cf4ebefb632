-- What of a text is written if a writer may refuse it.
use Rattle.std.proofs.Common.{ℕ, List, [], take, drop, refl, sym}
use Rattle.std.proofs.lemmas.List.{append-nil, take-append-drop}
use Rattle.std.specs.Io.KnownBytes.{Appends}
use Rattle.std.specs.Prelude.{◌≢◌, Option, Result, Ok, Err, IfErr, OnErr, OnOk}
use Rattle.byte_streams.specs.Written.{AppendsPart}
use Rattle.byte_streams.specs.declared.fault.WriteFault.{WriteFault}
use Rattle.byte_streams.specs.declared.fault.WriteFault.TheVariants.{Io, WroteNothing, Memory}
use Rattle.debugger.specs.Session.{AppendsBeginning}
use Rattle.engines.specs.Program.{TellsText}

-- a part of a text is a beginning of it
pub part_begins : (old new : Option (List ℕ)) (text : List ℕ) → AppendsPart old new text → AppendsBeginning old new text
part_begins old new text part = (take part.0 text, drop part.0 text, sym (take-append-drop part.0 text), part.2)

-- and so is all of it
pub beginning : {X : Type 0} (r : Result X WriteFault) (old new : Option (List ℕ)) (text : List ℕ) → OnOk r (Appends old new text) → OnErr r (AppendsPart old new text) → AppendsBeginning old new text
beginning (Ok x) old new text all part = (text, [], sym (append-nil text), all)
beginning (Err e) old new text all part = part_begins old new text part

-- if no write may be refused, all of it is written
pub whole : {X : Type 0} (r : Result X WriteFault) (may_refuse : WriteFault → Type 0) (old new : Option (List ℕ)) (text : List ℕ) → OnOk r (Appends old new text) → IfErr r may_refuse → IfErr r (λ e. e ≢ Memory) → ¬ (may_refuse Io) → ¬ (may_refuse WroteNothing) → Appends old new text
whole (Ok x) may_refuse old new text all told room fails nothing = all
whole (Err Io) may_refuse old new text all told room fails nothing = absurd (fails told)
whole (Err WroteNothing) may_refuse old new text all told room fails nothing = absurd (nothing told)
whole (Err Memory) may_refuse old new text all told room fails nothing = absurd (room refl)

-- so it is printed, as far as the writer takes it
pub text_told : {X : Type 0} (r : Result X WriteFault) (may_refuse : WriteFault → Type 0) (old new : Option (List ℕ)) (text : List ℕ) → OnOk r (Appends old new text) → OnErr r (AppendsPart old new text) → IfErr r may_refuse → IfErr r (λ e. e ≢ Memory)
    → TellsText may_refuse old new text
text_told r may_refuse old new text all part told room = (beginning r old new text all part, whole r may_refuse old new text all told room)
