-- What is work among the steps of a job, and how much work there can be.
use Rattle.std.specs.Prelude.{◌≡◌, ◌<◌, ◌≤◌, ◌+◌, ◌-◌, ◌*◌, ◌^◌, ◌/◌, ◌==◌, ◌&&◌, min, ℕ, Bool, false, if◌then◌else◌, List, [], ◌∷◌, length, Option, None, Some, Result, Ok, Err}
use Rattle.std.specs.List.{sum_by}
use Rattle.std.specs.FinMap.{len}
use Rattle.rv_ledger.specs.Key.{Storage}
use Rattle.rv_ledger.specs.Call.{Invocation}
use Rattle.rv_ledger.specs.declared.receipt.Receipt.{Receipt}
use Rattle.rv_step.specs.Moment.{Reply}
use Rattle.stm_state.specs.Limits.{incarnation_limit, record_limit}
use Rattle.stm_state.specs.State.{State, start_state, task_at}
use Rattle.stm_state.specs.Steps.{Block, Limit, Step, Ask, ReadKey, worker_step}
use Rattle.stm_state.specs.Drive.{due_result, due_step}

-- an asking is idle if both indices are past the last call: it gets no task, and no index goes up
abbrev pub is_idle_asking : Step → State → Bool
is_idle_asking Ask s = s.execution == length s.calls && s.validation == length s.calls
is_idle_asking step s = false

-- any other step is work
abbrev pub work_of : Step → State → ℕ
work_of step s = if is_idle_asking step s then 0 else 1

-- the states that lists of worker numbers walk through from the start state of a job, and how many of the steps on the way were
-- work
pub data WorksTo (calls : List Invocation) (store : Storage) (workers : ℕ) : ℕ → State → Type 0 where
  begun : WorksTo calls store workers 0 (start_state (length calls) workers)
  goes_on : {work : ℕ} {s t : State} (w : ℕ) → WorksTo calls store workers work s → w < workers → due_result calls store w s ≡ Some (Ok t)
      → WorksTo calls store workers (work + work_of (due_step calls (task_at s w)) s) t

-- a read that is not one of a list of worker numbers may be made again and again: it is not counted
abbrev pub work_but_reads : Step → State → ℕ
work_but_reads (ReadKey key) s = 0
work_but_reads step s = work_of step s

-- the states that any lists of steps lead to from the start state of a block, and how many of the steps on the way were work and
-- no read
pub data WorksButReadsTo (block : Block) (workers : ℕ) : ℕ → State → Type 0 where
  at_start : WorksButReadsTo block workers 0 (start_state block.count workers)
  went_on : {work : ℕ} {s t : State} (w : ℕ) (step : Step) → WorksButReadsTo block workers work s → w < workers → worker_step block w step s ≡ Some (Ok t)
      → WorksButReadsTo block workers (work + work_but_reads step s) t

-- how many steps of a list from a state on are work and no read, as far as its steps are made
abbrev pub work_after : (State → ℕ) → Option (Result State Limit) → ℕ
work_after rest None = 0
work_after rest (Some (Ok s)) = rest s
work_after rest (Some (Err limit)) = 0

unfoldable pub work_along : Block → List (ℕ × Step) → State → ℕ
work_along block [] s = 0
work_along block (entry ∷ entries) s = work_but_reads entry.1 s + work_after (λ t. work_along block entries t) (worker_step block entry.0 entry.1 s)

-- the same of a list from the start state of a block
abbrev pub work_of_list : Block → ℕ → List (ℕ × Step) → ℕ
work_of_list block workers entries = work_along block entries (start_state block.count workers)

-- how often calls were readied again, all together
abbrev pub incarnations : State → ℕ
incarnations s = sum_by (λ call. call.incarnation) s.calls

-- each receipt of a block has at most `writes` writes, and at most `reads` replies bear one out
abbrev pub HasAtMost : (reads writes : ℕ) → Block → Type 0
HasAtMost reads writes block = (i : ℕ) (replies : List Reply) (r : Receipt) → block.borne_out i replies ≡ Some r → (len r.writes ≤ writes) × (length replies ≤ reads)

-- a number of steps that is enough for one incarnation of a call, with all that it makes other calls do again: a run of this call
-- and one of each worker, each with its reads, its record and the moves of its keys and of those of the run before it; the calls
-- that both indices pass again, each with the checks of its reads; and the marks of its keys
abbrev pub work_by_incarnation : (workers count reads writes : ℕ) → ℕ
work_by_incarnation workers count reads writes = (workers + 1) * (reads + 2 * writes + 2) + 2 * (count * (reads + 3)) + (writes + 1)

-- the incarnations of all calls together, with one more for each, are at most this many: no incarnation is above the limit; and
-- without a limit too they are bounded, since no call is taken back or parked without a cause
abbrev pub most_incarnations : (count writes : ℕ) → ℕ
most_incarnations count writes = min (count * (incarnation_limit + 1)) ((2 * writes + 2) ^ count)

-- the most work that there can be on a job; a read of the storage takes 200 gas, and a call writes at most 256 keys
abbrev pub most_work : (workers count gas : ℕ) → ℕ
most_work workers count gas = most_incarnations count 256 * work_by_incarnation workers count (gas / 200 + 1) 256

-- a block is small: `most_incarnations` records of `writes` writes each fit the arena, and no incarnation reaches the limit
pub record IsSmall (count writes : ℕ) : Type 0 where
  pub room : writes * most_incarnations count writes ≤ record_limit
  pub low : (2 * writes + 2) ^ (count - 1) < incarnation_limit
