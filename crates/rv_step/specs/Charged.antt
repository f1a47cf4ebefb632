-- How many steps of a call take gas.
use Rattle.std.specs.Prelude.{ℕ, zero, suc, ◌+◌, nat_lt, if◌then◌else◌, List}
use Rattle.rv_ledger.specs.Call.{Invocation}
use Rattle.rv_step.specs.Step.{Progress}
use Rattle.rv_step.specs.Moment.{Reply, machine_of, moment_with}

-- the gas that a call has left at a moment
abbrev pub gas_left : Progress → ℕ
gas_left progress = (machine_of progress).gas

-- the gas that is left after n steps of a call with these replies
abbrev pub gas_after : Invocation → List Reply → ℕ → ℕ
gas_after call replies n = gas_left (moment_with call replies n).0

-- how many of the first n steps of a call with these replies take gas
unfoldable pub charged_steps : Invocation → List Reply → ℕ → ℕ
charged_steps call replies zero = 0
charged_steps call replies (suc n) =
    charged_steps call replies n + (if nat_lt (gas_after call replies (suc n)) (gas_after call replies n) then 1 else 0)
