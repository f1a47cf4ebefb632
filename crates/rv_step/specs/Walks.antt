-- Private help of proofs; no public clause cites it. Steps after which the call continues, up to a pc.
use Rattle.std.specs.Prelude.{◌≡◌, ℕ, zero, suc, false, Option}
use Rattle.rv_step.specs.declared.machine.Machine.{Machine}
use Rattle.rv_step.specs.Step.{Leads, Going, step}
use Rattle.rv_step.specs.Until.{is_at}

-- `t` comes after this number of steps from `s`. The call continues after each of them, and none was made at the pc to stop at
unfoldable pub Walks : Option ℕ → ℕ → Machine → Machine → Type 0
Walks stop zero s t = t ≡ s
Walks stop (suc n) s t = (m : Machine) × Walks stop n s m × (is_at stop m.pc ≡ false) × (step m ≡ Leads (Going t))
