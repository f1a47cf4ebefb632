-- Each schedule in which every worker comes again and again ends.
use Rattle.std.specs.Prelude.{◌≡◌, ◌<◌, ◌≤◌, ◌+◌, ◌*◌, ◌^◌, ◌/◌, ◌++◌, ℕ, true, List, length, take, Some, Ok}
use Rattle.std.specs.List.{AllByRecursion, concat, sum_by}
use Rattle.rv_ledger.specs.Key.{Storage}
use Rattle.rv_ledger.specs.Call.{Invocation}
use Rattle.stm_state.specs.State.{State, call_at, task_at, is_done}
use Rattle.stm_state.specs.Steps.{Block, Limit, Step, worker_step}
use Rattle.stm_state.specs.Done.{MeetsLimit, Reached, block_of}
use Rattle.stm_state.specs.Dones.{dones_of}
use Rattle.stm_state.specs.Drive.{drive_of, due_step}
use Rattle.stm_state.specs.Walk.{LeadsTo}
use Rattle.never_stuck.specs.Far.{HasAtMostGas}
use Rattle.always_ends.specs.Work.{HasAtMost, IsSmall, WorksButReadsTo, WorksTo, incarnations, is_idle_asking, most_incarnations, most_work, work_by_incarnation, work_of_list}
use Rattle.always_ends.specs.Schedules.{Ends, HasShortRuns, IsEndlessRun, IsFair, IsRound, first_entries, turns}

-- ---- bounded work

-- the work of a list of worker numbers is at most `work_by_incarnation` for each call and for each further incarnation, and so it
-- is bounded by the job and its workers
abbrev pub WorkIsBounded : Type 0
WorkIsBounded = (calls : List Invocation) (store : Storage) (workers gas work : ℕ) (s : State) → HasAtMostGas gas calls → WorksTo calls store workers work s
    → (work ≤ (length calls + incarnations s) * work_by_incarnation workers (length calls) (gas / 200 + 1) 256) × (work ≤ most_work workers (length calls) gas)

-- the same of any list of steps, except for its reads: a worker may read what no call asks for
abbrev pub WorkButReadsIsBounded : Type 0
WorkButReadsIsBounded = (block : Block) (workers reads writes work : ℕ) (s : State) → HasAtMost reads writes block → WorksButReadsTo block workers work s
    → work ≤ (block.count + incarnations s) * work_by_incarnation workers block.count reads writes

-- so of a list of steps of a job that leads to a state, except for its reads: at most `work_by_incarnation` for each call and for
-- each further incarnation, and at most `most_work` in all
abbrev pub WorkOfListsIsBounded : Type 0
WorkOfListsIsBounded = (calls : List Invocation) (store : Storage) (workers gas : ℕ) (entries : List (ℕ × Step)) (s : State) → HasAtMostGas gas calls → LeadsTo (block_of calls store) workers entries s
    → (work_of_list (block_of calls store) workers entries ≤ (length calls + incarnations s) * work_by_incarnation workers (length calls) (gas / 200 + 1) 256)
    × (work_of_list (block_of calls store) workers entries ≤ most_work workers (length calls) gas)

-- ---- no call is taken back without a cause

-- whatever steps led there, the incarnation of a call is at most 2 * writes + 1 times the sum of those of the lower calls, with
-- one more for each of them: a call is taken back only after a lower call marked a key, or moved one at which it had no entry,
-- and is parked only until one finishes
abbrev pub IncarnationsHaveCauses : Type 0
IncarnationsHaveCauses = (block : Block) (workers reads writes : ℕ) (s : State) (i : ℕ) → HasAtMost reads writes block → Reached block workers s → i < block.count
    → (call_at s i).incarnation ≤ (2 * writes + 1) * sum_by (λ call. call.incarnation + 1) (take i s.calls)

-- so the first call stays at incarnation 0, and each other one below a power of its number
abbrev pub IncarnationsAreBounded : Type 0
IncarnationsAreBounded = (block : Block) (workers reads writes : ℕ) (s : State) (i : ℕ) → HasAtMost reads writes block → Reached block workers s
    → (call_at s i).incarnation < (2 * writes + 2) ^ i

-- and all of them together are bounded
abbrev pub AllIncarnationsAreBounded : Type 0
AllIncarnationsAreBounded = (block : Block) (workers reads writes : ℕ) (s : State) → HasAtMost reads writes block → Reached block workers s
    → block.count + incarnations s ≤ most_incarnations block.count writes

-- ---- no quiet end

-- an idle asking changes nothing but what is counted
abbrev pub IdleChangesNothing : Type 0
IdleChangesNothing = (block : Block) (w : ℕ) (step : Step) (s t : State) → worker_step block w step s ≡ Some (Ok t) → is_idle_asking step s ≡ true → t ≡ record s { counts = t.counts; dones = t.dones }

-- if each worker owes one, workers are done
abbrev pub IdleIsDone : Type 0
IdleIsDone = (calls : List Invocation) (store : Storage) (workers : ℕ) (s : State) → 0 < workers → Reached (block_of calls store) workers s
    → ((w : ℕ) → w < workers → is_idle_asking (due_step calls (task_at s w)) s ≡ true) → is_done s ≡ true

-- ---- each fair schedule ends

-- whatever list came before, more rounds than the most work, in each of which every worker comes, lead to the end, and each
-- worker is answered Done; or a step is refused for a limit
abbrev pub FairRoundsEnd : Type 0
FairRoundsEnd = (calls : List Invocation) (store : Storage) (workers gas : ℕ) (before : List ℕ) (rounds : List (List ℕ)) → 1 ≤ workers → workers ≤ 32 → HasAtMostGas gas calls
    → AllByRecursion (λ w. w < workers) before → AllByRecursion (IsRound workers) rounds → most_work workers (length calls) gas < length rounds → Ends calls store workers (before ++ concat rounds)

-- so does an endless schedule in which every worker comes again and again, after finitely many entries
abbrev pub FairScheduleEnds : Type 0
FairScheduleEnds = (calls : List Invocation) (store : Storage) (workers : ℕ) (schedule : ℕ → ℕ) → 1 ≤ workers → workers ≤ 32 → IsFair workers schedule
    → (n : ℕ) × Ends calls store workers (first_entries n schedule)

-- and an endless run of any steps, whatever keys its runs read, if none of them has more than `reads` answers: it reaches a state
-- in which each worker has been answered Done
abbrev pub EndlessRunsReachTheEnd : Type 0
EndlessRunsReachTheEnd = (block : Block) (workers reads writes : ℕ) (steps : ℕ → ℕ × Step) (states : ℕ → State) → 0 < workers → HasAtMost reads writes block → IsEndlessRun block workers steps states → HasShortRuns reads states
    → (k : ℕ) × ((w : ℕ) → w < workers → 0 < dones_of w (states k))

-- a schedule in which workers take turns is fair
abbrev pub TurnsAreFair : Type 0
TurnsAreFair = (workers : ℕ) → 1 ≤ workers → IsFair workers (turns workers)

-- ---- small blocks

-- on a small block no list of steps meets a limit
abbrev pub SmallBlocksMeetNoLimit : Type 0
SmallBlocksMeetNoLimit = (block : Block) (workers reads writes : ℕ) (limit : Limit) → HasAtMost reads writes block → IsSmall block.count writes → MeetsLimit block workers limit → ⊥

-- so there each fair schedule leads to the end
abbrev pub SmallBlocksReachTheEnd : Type 0
SmallBlocksReachTheEnd = (calls : List Invocation) (store : Storage) (workers reads writes : ℕ) (schedule : ℕ → ℕ) → 1 ≤ workers → workers ≤ 32 → HasAtMost reads writes (block_of calls store) → IsSmall (length calls) writes → IsFair workers schedule
    → (n : ℕ) × (t : State) × (drive_of calls store workers (first_entries n schedule) ≡ Ok t)

-- at most eight calls of at most one write each are a small block
abbrev pub EightCallsAreSmall : Type 0
EightCallsAreSmall = (count : ℕ) → count ≤ 8 → IsSmall count 1
