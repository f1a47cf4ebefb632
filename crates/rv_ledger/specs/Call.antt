-- A call of a contract.
use Rattle.std.specs.Prelude.{ℕ, List, Result, Ok, Err, ◌≤◌, ◌||◌, ◌==◌, nat_lt, length, if◌then◌else◌}
use Rattle.elf32.specs.Layout.{Layout}
use Rattle.rv_ledger.specs.declared.rules.Rules.{Rules}
use Rattle.rv_ledger.specs.declared.call.CallFault.{CallFault}
use Rattle.rv_ledger.specs.declared.call.CallFault.TheVariants.{BadGas, InputTooLong}

-- the rules, a program, a gas limit and an input
pub record Invocation : Type 0 where
  pub rules : Rules
  pub image : Layout
  pub gas : ℕ
  pub input : List ℕ

-- the limits of a call (this project's own profile)
pub record IsInLimits (gas : ℕ) (input : List ℕ) : Type 0 where
  pub least_gas : 1 ≤ gas
  pub most_gas : gas ≤ 10000000
  pub short_input : length input ≤ 4096

-- the call of a program under some rules with a gas limit and an input, or the first fault
abbrev pub call_of : Rules → Layout → ℕ → List ℕ → Result Invocation CallFault
call_of rules image gas input =
    if (gas == 0 || nat_lt 10000000 gas) then Err BadGas else
    if nat_lt 4096 (length input) then Err InputTooLong else
    Ok (record { rules = rules; image = image; gas = gas; input = input })
