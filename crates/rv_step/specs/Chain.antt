-- The run of one call: how its chain of steps ends.
use Rattle.std.specs.Prelude.{◌≡◌, ℕ, suc, ◌-◌, List, [], ◌∷◌, Option, Some, None}
use Rattle.std.specs.FinMap as map
use Rattle.rv_ledger.specs.Key.{Storage, WriteMap}
use Rattle.rv_ledger.specs.Call.{Invocation}
use Rattle.rv_ledger.specs.declared.end.End.{End}
use Rattle.rv_ledger.specs.declared.end.End.TheVariants.{Returned, OutOfGas}
use Rattle.rv_ledger.specs.declared.receipt.Receipt.{Receipt}
use Rattle.rv_step.specs.declared.machine.Machine.{Machine}
use Rattle.rv_step.specs.Step.{Progress, Going, Over}
use Rattle.rv_step.specs.Moment.{Reply, moment_over, moment_with}

-- only a call that returned keeps its writes
abbrev pub kept_writes : End → WriteMap → WriteMap
kept_writes Returned own = own
kept_writes _ own = map.empty

-- the receipt of a call with this gas limit and this end
abbrev pub receipt_of : ℕ → End → List ℕ → Machine → Receipt
receipt_of limit end out s = record { end = end; gas = limit - s.gas; pc = s.pc; out = out; regs = s.regs; writes = kept_writes end s.own }

-- each step after which a call continues takes gas, so one step more than the gas is enough
abbrev pub enough_steps : Invocation → ℕ
enough_steps call = suc call.gas

-- the receipt of a call that is over, if no reply is left
abbrev pub receipt_with : ℕ → Progress × List Reply → Option Receipt
receipt_with limit (Over end out s, []) = Some (receipt_of limit end out s)
receipt_with limit _ = None

-- replies bear a receipt out if this is Some of it: the call uses all of them in order and ends with that receipt
abbrev pub borne_out : Invocation → List Reply → Option Receipt
borne_out call replies = receipt_with call.gas (moment_with call replies (enough_steps call))

-- the receipt of a call at this moment; one that is not over gets the receipt of a call that runs out of gas there
abbrev pub receipt_at : ℕ → Progress → Receipt
receipt_at limit (Over end out s) = receipt_of limit end out s
receipt_at limit (Going s) = receipt_of limit OutOfGas [] s

-- the receipt of a call over a storage; it is over by then (`rv_step::call_ends`)
unfoldable pub ends : Invocation → Storage → Receipt
ends call store = receipt_at call.gas (moment_over call store (enough_steps call))

-- answers are a storage's: each is what the storage has at its key
abbrev pub AreFrom : Storage → List Reply → Type 0
AreFrom store [] = Unit {0}
AreFrom store (reply ∷ replies) = (reply.1 ≡ map.get store reply.0) × AreFrom store replies

-- for each call and storage there is exactly one receipt: some answers of the storage bear out `ends`, and no answers of
-- the storage bear out another receipt
pub record HasOneReceipt (call : Invocation) (store : Storage) : Type 0 where
  pub some_answers : (replies : List Reply) × AreFrom store replies × (borne_out call replies ≡ Some (ends call store))
  pub no_other : (replies : List Reply) (receipt : Receipt) → AreFrom store replies → borne_out call replies ≡ Some receipt → receipt ≡ ends call store
