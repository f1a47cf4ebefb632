-- The answers to the blocks of a chain, and the storage that they leave.
use Rattle.std.specs.Prelude.{◌≡◌, ◌<◌, ◌≤◌, ◌↔◌, ◌⊎◌, ℕ, List, [], ◌∷◌, ◌++◌, length, Result, Ok, Err, None}
use Rattle.std.specs.Global.{Vec}
use Rattle.rv_ledger.specs.Key.{Storage}
use Rattle.rv_ledger.specs.Call.{Invocation}
use Rattle.rv_ledger.specs.declared.receipt.Receipt.{Receipt}
use Rattle.rv_step.specs.Fold.{receipts_of, store_after}
use Rattle.stm_state.specs.Steps as steps
use Rattle.workers.specs.declared.chain.ChainFault.{ChainFault}
use Rattle.workers.specs.declared.chain.ChainFault.TheVariants.{Run, TooManyCalls}
use Rattle.workers.specs.declared.fault.RunFault.TheVariants as faults
use Rattle.workers.specs.History.{HasLimit, HasStepLimit, IsRunBy}

-- the answers that a block may get, by its calls, its number of workers and the storage before it
abbrev pub IsBlockAnswer : Storage → List Invocation → ℕ → Result (Vec Receipt) ChainFault → Type 0
IsBlockAnswer store calls workers (Ok receipts) = (receipts.items ≡ receipts_of calls store) × (length calls ≤ 1024) × (1 ≤ workers) × (workers ≤ 32)
    × IsRunBy (record { block = calls; store = store }) workers
IsBlockAnswer store calls workers (Err fault) =
    ((fault ≡ TooManyCalls) ↔ (1024 < length calls))
    × ((fault ≡ Run faults.BadCount) ↔ ((length calls ≤ 1024) × ((workers ≡ 0) ⊎ (32 < workers))))
    × (fault ≡ Run faults.ArenaFull → HasLimit (record { block = calls; store = store }) workers steps.ArenaFull)
    × (fault ≡ Run faults.IncarnationLimit → HasLimit (record { block = calls; store = store }) workers steps.IncarnationLimit)
    × (fault ≡ Run faults.StepLimit → HasStepLimit (record { block = calls; store = store }) workers None)

-- the storage that a block leaves: a refused one leaves it as it was
abbrev pub store_left : Storage → List Invocation → Result (Vec Receipt) ChainFault → Storage
store_left store calls (Ok receipts) = store_after calls store
store_left store calls (Err fault) = store

-- the answers to blocks, each over the storage that the ones before it left, and the storage after the last
unfoldable pub IsChain : Storage → List (Vec Invocation × ℕ) → List (Result (Vec Receipt) ChainFault) → Storage → Type 0
IsChain store [] [] last = last ≡ store
IsChain store [] (answer ∷ answers) last = ⊥
IsChain store (block ∷ blocks) [] last = ⊥
IsChain store (block ∷ blocks) (answer ∷ answers) last = IsBlockAnswer store block.0.items block.1 answer × IsChain (store_left store block.0.items answer) blocks answers last

-- the calls of the blocks answered Ok, in order
unfoldable pub calls_run : List (Vec Invocation × ℕ) → List (Result (Vec Receipt) ChainFault) → List Invocation
calls_run [] answers = []
calls_run (block ∷ blocks) [] = []
calls_run (block ∷ blocks) (Ok receipts ∷ answers) = block.0.items ++ calls_run blocks answers
calls_run (block ∷ blocks) (Err fault ∷ answers) = calls_run blocks answers
