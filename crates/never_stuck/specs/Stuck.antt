-- No state that lists of worker numbers walk through is stuck: some list leads from it to the end.
use Rattle.std.specs.Prelude.{◌≡◌, ◌<◌, ◌++◌, ℕ, List, length, Option, Some, slice_get, Err}
use Rattle.rv_ledger.specs.Key.{Storage}
use Rattle.rv_ledger.specs.Call.{Invocation}
use Rattle.rv_ledger.specs.declared.receipt.Receipt.{Receipt}
use Rattle.rv_step.specs.Moment.{Reply}
use Rattle.rv_step.specs.Chain.{borne_out}
use Rattle.rv_step.specs.Replies.{replies_of}
use Rattle.rv_step.specs.declared.answer.StorageAnswer.{StorageAnswer}
use Rattle.stm_state.specs.declared.state.Task.TheVariants.{Running}
use Rattle.stm_state.specs.State.{State, task_at}
use Rattle.stm_state.specs.Done.{Reached, block_of}
use Rattle.stm_state.specs.Drive.{NotDone, DrivenTo, drive_of}
use Rattle.never_stuck.specs.Ending.{CanEnd, EndsWithin, IsContinued}
use Rattle.never_stuck.specs.Far.{HasAtMostGas, IsFarFromLimits, entries_to_end}

-- from each state that a list of worker numbers walks through, from the start of a job, some list leads to the end, or to a
-- step that is refused for a limit
abbrev pub NeverStuck : Type 0
NeverStuck = (calls : List Invocation) (store : Storage) (workers : ℕ) (s : State) → 0 < workers → DrivenTo calls store workers s → CanEnd calls store workers s

-- if such a state is far from the limits, a list of at most `entries_to_end` entries leads to the end
abbrev pub NeverStuckFarFromLimits : Type 0
NeverStuckFarFromLimits = (calls : List Invocation) (store : Storage) (workers gas : ℕ) (s : State) → 0 < workers → HasAtMostGas gas calls → DrivenTo calls store workers s → IsFarFromLimits (length calls) workers s
    → EndsWithin (entries_to_end workers (length calls) gas) calls store workers s

-- no list of a job is a dead end: one that is used up before workers are done can be continued
abbrev pub NoListIsDeadEnd : Type 0
NoListIsDeadEnd = (calls : List Invocation) (store : Storage) (workers : ℕ) (schedule : List ℕ) → drive_of calls store workers schedule ≡ Err NotDone → IsContinued calls store workers schedule

-- each run that a worker has can continue: its answers and some replies after them bear out a receipt of its call
abbrev pub RunsGoOn : List Invocation → State → Type 0
RunsGoOn calls s = (w i : ℕ) (answers : List StorageAnswer) (waits : Option ℕ) (call : Invocation) → task_at s w ≡ Running i answers waits → slice_get calls i ≡ Some call
    → (rest : List Reply) × (receipt : Receipt) × (borne_out call (replies_of answers ++ rest) ≡ Some receipt)

-- the same of each state that any list of pairs of a worker and a step leads to, if its runs can continue
abbrev pub NeverStuckWhereReached : Type 0
NeverStuckWhereReached = (calls : List Invocation) (store : Storage) (workers gas : ℕ) (s : State) → 0 < workers → HasAtMostGas gas calls → Reached (block_of calls store) workers s → RunsGoOn calls s
    → CanEnd calls store workers s × (IsFarFromLimits (length calls) workers s → EndsWithin (entries_to_end workers (length calls) gas) calls store workers s)
