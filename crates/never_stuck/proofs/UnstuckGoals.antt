-- What a proof that a state is not stuck is about.
use Rattle.std.specs.Prelude.{◌≡◌, ◌≤◌, ◌/◌, ℕ, Bool, List, Option, Some, Result, slice_get}
use Rattle.rv_ledger.specs.Key.{Storage}
use Rattle.rv_ledger.specs.Call.{Invocation}
use Rattle.stm_state.specs.State.{State}
use Rattle.stm_state.specs.Steps.{Block, Limit}
use Rattle.stm_state.specs.Done.{block_of}
use Rattle.stm_state.specs.Drive.{due_result}

-- a job with a number of workers; a number of reads, so that no call has gas for more of them; and whether a refusal for an
-- incarnation is ruled out
pub record Setting : Type 0 where
  pub calls : List Invocation
  pub store : Storage
  pub workers : ℕ
  pub reads : ℕ
  pub most : (i : ℕ) (call : Invocation) → slice_get calls i ≡ Some call → call.gas / 200 ≤ reads
  pub strict : Bool

abbrev pub block : Setting → Block
block setting = block_of setting.calls setting.store

-- the result of the step that a worker owes
abbrev pub due : Setting → ℕ → State → Option (Result State Limit)
due setting w s = due_result setting.calls setting.store w s
