-- One worker on a block: which call it is at, what it does there, what it did so far, and what its next step leads to.
use Rattle.std.proofs.Common.{◌≡◌, ◌<◌, ◌≤◌, ◌+◌, ◌*◌, ℕ, suc, Bool, true, false, List, [], ◌∷◌, ◌++◌, length, map, get_or, set, slice_get, None, Some, arith, refl, ap, ◌∙◌, inl, inr}
use Rattle.std.specs.List.{list_all}
use Rattle.std.proofs.lemmas.Bool.{cond-true}
use Rattle.std.proofs.lemmas.Option.{slice_get_cases}
use Rattle.rv_ledger.specs.Call.{Invocation}
use Rattle.rv_ledger.specs.declared.outcome.Counts.{Counts}
use Rattle.rv_ledger.specs.declared.receipt.Receipt.{Receipt}
use Rattle.rv_step.specs.declared.answer.StorageAnswer.{StorageAnswer}
use Rattle.mvmap.specs.Versions.{entry_at}
use Rattle.mvmap.specs.Reading.{stands, visible_below}
use Rattle.stm_state.specs.declared.state.CallState.{CallState}
use Rattle.stm_state.specs.declared.state.Recorded.{Recorded}
use Rattle.stm_state.specs.declared.state.Task.{Task}
use Rattle.stm_state.specs.declared.state.Task.TheVariants.{Idle, Running, Moving, Validating}
use Rattle.stm_state.specs.State.{State, fresh, no_counts, start_state, call_at, with_task, is_done}
use Rattle.stm_state.specs.Steps.{Block, read_of, recorded_reads, counted, one_step, one_asking, one_execution, one_validation, after_ask, count_done, keys_to_move, has_new_key, recorded_run}
use Rattle.stm_state.proofs.Invariant.{Invariant}
use Rattle.stm_state.specs.OneWorker.{OneWorkerDid}
use Rattle.stm_state.proofs.Rounds.{Stage, first_stage, begun, all_first, is_over, told_stage, Answered, task_stage, to_run, run_stage, answer_stands, kept, all_stand, recorded_state, record_stage, after_move, moved_stands, moved_stage, finished, finished_stands, finish_stage, to_check, check_stage}

-- each index below the number of calls has a call
pub call_there : (calls : List Invocation) (i : ℕ) → i < length calls → (call : Invocation) × (slice_get calls i ≡ Some call)
call_there calls i l = elim (slice_get_cases calls i).1 [ inl there ↦ (there.0, there.2) | inr past ↦ let high = past.0 in absurd (omega (arith, l, high)) ]

-- ---- what the worker did

abbrev pub did : ℕ → ℕ → ℕ → ℕ → Counts
did steps asks executions validations = record { steps = steps; asks = asks; executions = executions; validations = validations }

-- these are the worker's counts, and `told` of its `Ask` steps were answered Done
abbrev pub Did : Counts → ℕ → List Counts → List ℕ → Type 0
Did c told counts dones = (counts ≡ c ∷ []) × (dones ≡ told ∷ [])

-- a step is counted
also : {c : Counts} {told : ℕ} {counts : List Counts} {dones : List ℕ} (add : Counts → Counts) → Did c told counts dones → Did (add c) told (set counts 0 (add (get_or counts 0 no_counts))) dones
also add h = (ap (λ l. set l 0 (add (get_or l 0 no_counts))) h.0, h.1)

-- P holds of the state after a counted step, if the invariant does
abbrev pub Comes : Block → (State → Type 0) → (Counts → Counts) → State → Type 0
Comes block P add u = Invariant block 1 (counted add 0 u) → P (counted add 0 u)

-- ---- the phases of the worker, after `steps` steps

-- the calls below d are finished, and the worker asks for call d
pub record Rests (block : Block) (d steps told : ℕ) (s : State) : Type 0 where
  pub now : Stage block d fresh d d Idle s
  pub worked : Did (did steps (2 * d + told) d d) told s.counts s.dones

-- the worker runs call d, and the reads so far stand
pub record Runs (block : Block) (d steps told : ℕ) (answers : List StorageAnswer) (s : State) : Type 0 where
  pub now : Stage block d begun (d + 1) d (Running d answers None) s
  pub worked : Did (did steps (2 * d + told + 1) d d) told s.counts s.dones
  pub stand : list_all (stands s.versions d) (map read_of answers) ≡ true

-- the worker moves the keys of call d's run, and the reads of that run stand
pub record Moves (block : Block) (d steps told : ℕ) (run : Recorded) (keys : List (List ℕ)) (new : Bool) (s : State) : Type 0 where
  pub now : Stage block d (kept run) (d + 1) d (Moving d keys new) s
  pub worked : Did (did steps (2 * d + told + 1) (d + 1) d) told s.counts s.dones
  pub stand : list_all (stands s.versions d) run.reads ≡ true

-- call d is EXECUTED, and the worker asks for its validation
pub record Waits (block : Block) (d steps told : ℕ) (s : State) : Type 0 where
  pub now : Stage block (d + 1) fresh (d + 1) d Idle s
  pub worked : Did (did steps (2 * d + told + 1) (d + 1) d) told s.counts s.dones
  pub stand : all_stand d s ≡ true

-- the worker validates call d
pub record Checks (block : Block) (d steps told left : ℕ) (s : State) : Type 0 where
  pub now : Stage block (d + 1) fresh (d + 1) (d + 1) (Validating d 0 left false) s
  pub worked : Did (did steps (2 * d + told + 1 + 1) (d + 1) d) told s.counts s.dones
  pub stand : all_stand d s ≡ true

-- in the start state the worker asks for call 0
pub first : (block : Block) → Rests block 0 0 0 (start_state block.count 1)
first block = record { now = first_stage block; worked = (refl, refl) }

-- a call whose run has begun is a call of the block
pub within_block : {block : Block} {m d v : ℕ} {own : CallState} {task : Task} {s : State} → Stage block m own (d + 1) v task s → d < block.count
within_block now = let all = now.inv.facts.execution_within in let from = now.runs_from in omega (arith, all, from)

module _ {block : Block} {s : State} {d steps told : ℕ} where
  -- ---- the calls below d are finished

  module _ (h : Rests block d steps told s) where
    -- call d is left, and the worker runs it
    pub begins : (within : d < block.count) → Comes block (Runs block d (steps + 1) told []) one_asking (to_run block s)
    begins within inv = record { now = run_stage block s d h.now within inv; worked = also one_asking h.worked; stand = refl }

    -- no call is left
    module _ (past : block.count ≤ d) where
      last : d ≡ block.count
      last = let all = h.now.inv.facts.execution_within in let from = h.now.runs_from in omega (arith, all, from, past)

      pub over : is_done s ≡ true
      over = is_over block s h.now.inv (h.now.runs_from ∙ last) (h.now.checks_from ∙ last) h.now.does

      pub told_asked : after_ask 0 s ≡ count_done 0 s
      told_asked = cond-true (is_done s) (count_done 0 s) _ over

      -- the `Ask` step is answered Done
      pub told_so : Comes block (Rests block d (steps + 1) (told + 1)) one_asking (count_done 0 s)
      told_so inv =
          let asks : 2 * d + told + 1 ≡ 2 * d + (told + 1) = omega arith in
          record {
            now = told_stage block s d fresh d d Idle h.now inv;
            worked = ((also one_asking h.worked).0 ∙ ap (λ n. did (steps + 1) n d d ∷ []) asks, ap (λ l. set l 0 (get_or l 0 0 + 1)) h.worked.1);
          }

      -- what the worker did
      pub did_all : OneWorkerDid block.count steps (2 * block.count + told) told s
      did_all = record {
        counts = h.worked.0 ∙ ap (λ n. did steps (2 * n + told) n n ∷ []) last;
        dones = h.worked.1;
        incarnations = all_first block d d d Idle s h.now;
      }

  -- ---- call d is run

  -- a read
  pub reads_on : {answers : List StorageAnswer} (key : List ℕ) → Runs block d steps told answers s → (a : Answered block.base key d answers (visible_below (entry_at s.versions key) d))
      → Comes block (Runs block d (steps + 1) told (answers ++ a.answer ∷ [])) one_step (with_task 0 (Running d (answers ++ a.answer ∷ []) None) s)
  reads_on key h a inv = record { now = task_stage block s _ _ _ _ _ _ one_step h.now inv; worked = also one_step h.worked; stand = answer_stands block s block.base key d _ h.stand a }

  -- the record
  pub records_on : {answers : List StorageAnswer} (receipt : Receipt) (h : Runs block d steps told answers s) (within : d < block.count)
      → Comes block (Moves block d (steps + 1) told (recorded_run answers receipt) (keys_to_move None receipt.writes) (has_new_key None receipt.writes)) one_execution (recorded_state block s d answers receipt h.now within)
  records_on receipt h within inv = record { now = record_stage block s d _ receipt h.now within inv; worked = also one_execution h.worked; stand = h.stand }

  -- ---- the keys of call d's run are moved

  module _ {run : Recorded} {new : Bool} where
    -- one key
    pub moves_on : {key : List ℕ} {keys : List (List ℕ)} (h : Moves block d steps told run (key ∷ keys) new s) → Comes block (Moves block d (steps + 1) told run keys new) one_step (after_move block s d run key keys new h.now)
    moves_on h inv = record { now = moved_stage block s d run _ _ new h.now inv; worked = also one_step h.worked; stand = moved_stands block s d run _ _ new h.now run.reads h.stand }

    -- the finish
    pub finishes_on : (h : Moves block d steps told run [] new s) (within : d < block.count) → Comes block (Waits block d (steps + 1) told) one_step (with_task 0 Idle (finished block s d run new h.now within))
    finishes_on h within inv = record { now = finish_stage block s d run new h.now within inv; worked = also one_step h.worked; stand = finished_stands block s d run new h.now within h.stand }

  -- ---- call d is EXECUTED

  -- the validation begins
  pub waits_on : Waits block d steps told s → d < block.count → Comes block (Checks block d (steps + 1) told (length (recorded_reads (call_at s d).last))) one_asking (to_check block s)
  waits_on h within inv = record { now = check_stage block s d h.now within inv; worked = also one_asking h.worked; stand = h.stand }

  -- a check of a read
  pub checks_on : {left : ℕ} → Checks block d steps told (suc left) s → Comes block (Checks block d (steps + 1) told left) one_step (with_task 0 (Validating d 0 left false) s)
  checks_on h inv = record { now = task_stage block s _ _ _ _ _ _ one_step h.now inv; worked = also one_step h.worked; stand = h.stand }

  -- the decision
  pub decides_on : {left : ℕ} → Checks block d steps told left s → Comes block (Rests block (d + 1) (steps + 1) told) one_validation (with_task 0 Idle s)
  decides_on h inv =
      let counts = also one_validation h.worked in
      let asks : 2 * d + told + 1 + 1 ≡ 2 * (d + 1) + told = omega arith in
      record { now = task_stage block s _ _ _ _ _ _ one_validation h.now inv; worked = (counts.0 ∙ ap (λ n. did (steps + 1) n (d + 1) (d + 1) ∷ []) asks, counts.1) }
