-- The parts of a job's run, for the invariant and the private functions: what runs wrote, the places of the versions, what is
-- promised to runs whose keys are moved, and the state.
use Rattle.std.specs.Prelude.{◌≡◌, ◌≤◌, ◌+◌, ◌*◌, ℕ, Bool, List, [], ◌∷◌, Option, None, Some, get_or, length, sum_by, vec_capacity, IsSome, IsTrue}
use Rattle.std.specs.List.{AllByRecursion}
use Rattle.std.specs.FinMap.{entries, get, len}
use Rattle.std.specs.FinSet.{FinSet, contains}
use Rattle.rv_ledger.specs.Change.{ContentChange}
use Rattle.mvmap.specs.Versions.{Place, place_cmp}
use Rattle.mvmap.specs.Table.{Table}
use Rattle.rv_ledger.specs.Key.{WriteMap}
use Rattle.rv_ledger.specs.declared.job.Job.{Job}
use Rattle.stm_state.specs.declared.state.CallState.{CallState}
use Rattle.stm_state.specs.declared.state.Recorded.{Recorded}
use Rattle.stm_state.specs.declared.state.Task.{Task}
use Rattle.stm_state.specs.declared.state.Task.TheVariants.{Moving}
use Rattle.stm_state.specs.Limits.{record_limit}
use Rattle.stm_state.specs.State.{State, fresh, call_at, task_at}
use Rattle.stm_state.specs.Steps.{write_of}
use Rattle.stm_state.specs.Done.{Reached, block_of}
use Rattle.scheduler.specs.Schedule.{Schedule, state_of}
use Rattle.stm_core.specs.CoreState.{CoreState, PassedRoom, ReadSizes, ValueRoom}
use Rattle.stm_core.specs.declared.passed_lists.PassedLists.{PassedLists}
use Rattle.stm_core.specs.declared.value_lists.ValueLists.{ValueLists}

-- a call has a place at the key of each write
abbrev pub AreOpen : FinSet place_cmp → ℕ → List (List ℕ × ContentChange) → Type 0
AreOpen places i writes = AllByRecursion (λ write. IsTrue (contains places (write.0, i))) writes

-- each entry of the versions has a place
abbrev pub AreVersionsPlaced : Table → Type 0
AreVersionsPlaced table = (place : Place) → IsSome (get table.versions place) → IsTrue (contains table.places place)

-- a table has the same versions and records as an older one, all of its places, and no less room
pub record IsGrown (old new : Table) : Type 0 where
  pub versions : new.versions ≡ old.versions
  pub records : new.arena.records ≡ old.arena.records
  pub places : (place : Place) → IsTrue (contains old.places place) → IsTrue (contains new.places place)
  pub room : old.arena.room ≤ new.arena.room
  pub bytes : old.arena.bytes ≤ new.arena.bytes

-- what a recorded run wrote at some keys, in the order of the keys; a key that it did not write is left out
abbrev pub with_write : List ℕ → Option ContentChange → List (List ℕ × ContentChange) → List (List ℕ × ContentChange)
with_write key None writes = writes
with_write key (Some change) writes = (key, change) ∷ writes

abbrev pub writes_at : Option Recorded → List (List ℕ) → List (List ℕ × ContentChange)
writes_at last [] = []
writes_at last (key ∷ keys) = with_write key (write_of last key) (writes_at last keys)

-- the writes that a task has not published yet
abbrev pub unpublished : List CallState → Task → List (List ℕ × ContentChange)
unpublished calls (Moving i keys new) = writes_at (get_or calls i fresh).last keys
unpublished calls task = []

-- the promises to the tasks are kept: each write that is not published yet has a place, `promised` is the number of these
-- writes, and there is room for that number of records, however long their values are
pub record KeepsPromises (table : Table) (promised : ℕ) (s : State) : Type 0 where
  pub places : (w i : ℕ) (keys : List (List ℕ)) (new : Bool) → task_at s w ≡ Moving i keys new → AreOpen table.places i (writes_at (call_at s i).last keys)
  pub count : sum_by (λ task. length (unpublished s.calls task)) s.tasks ≡ promised
  pub limit : length table.arena.records + promised ≤ record_limit
  pub room : promised ≤ table.arena.room
  pub bytes : promised * 256 ≤ table.arena.bytes

-- room is promised for the writes of a call's run, in addition to what was promised before
pub record IsPromised (i : ℕ) (writes : WriteMap) (table : Table) (before after : ℕ) : Type 0 where
  pub count : after ≡ before + len writes
  pub places : AreOpen table.places i (entries writes)
  pub room : after ≤ table.arena.room
  pub bytes : after * 256 ≤ table.arena.bytes

-- the state that a table, a number of promised records and a schedule stand for
abbrev pub state_in : Table → ℕ → Schedule → State
state_in table promised schedule = state_of table.versions (length table.arena.records + promised) schedule

abbrev pub core_state_of : Job → Table → ℕ → Schedule → ReadSizes → CoreState
core_state_of job table promised schedule room = record { job = job; state = state_in table promised schedule; rooms = schedule.rooms; room = room }

-- how many versions two lists have room for
abbrev pub room_of : PassedLists → PassedRoom
room_of lists = record { kept = vec_capacity lists.kept; lent = vec_capacity lists.lent }

-- how long a value two lists have room for
abbrev pub value_room_of : ValueLists → ValueRoom
value_room_of lists = record { kept = vec_capacity lists.kept; lent = vec_capacity lists.lent }

-- both
abbrev pub sizes_of : PassedLists → ValueLists → ReadSizes
sizes_of passed values = record { passed = room_of passed; values = value_room_of values }

-- some list of worker steps leads to the state, each version has a place, and the promises are kept
pub record IsReached (job : Job) (table : Table) (promised : ℕ) (schedule : Schedule) : Type 0 where
  pub reached : Reached (block_of job.block job.store) (length schedule.tasks) (state_in table promised schedule)
  pub places : AreVersionsPlaced table
  pub promises : KeepsPromises table promised (state_in table promised schedule)
