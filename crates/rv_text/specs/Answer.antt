-- Private help of contracts: what a private function may return if a given result is wanted. No public clause cites
-- it.
use Rattle.std.specs.Prelude.{◌≡◌, ◌⊎◌, Result, Ok, Err}
use Rattle.rv_text.specs.declared.fault.AsmCause.{AsmCause}
use Rattle.rv_text.specs.declared.fault.AsmCause.TheVariants.{Memory}
use Rattle.rv_text.specs.declared.fault.AsmError.{AsmError}

-- for one line: the value or the cause that is wanted, or Memory, which may be returned at any time
abbrev pub Answers : {X Y : Type 0} → (X → Y) → Result X AsmCause → Result Y AsmCause → Type 0
Answers view (Ok x) wanted = wanted ≡ Ok (view x)
Answers view (Err cause) wanted = (cause ≡ Memory) ⊎ (wanted ≡ Err cause)

-- for several lines: the value or the fault that is wanted, or Memory, which may be returned at any time
abbrev pub ReadsLines : {X Y : Type 0} → (X → Y) → Result X AsmError → Result Y AsmError → Type 0
ReadsLines view (Ok x) wanted = wanted ≡ Ok (view x)
ReadsLines view (Err fault) wanted = (fault.cause ≡ Memory) ⊎ (wanted ≡ Err fault)
