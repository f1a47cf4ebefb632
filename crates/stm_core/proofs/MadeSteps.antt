-- Steps that are due and that are made, over the parts of a job's run.
use Rattle.std.proofs.Common.{◌≡◌, ◌<◌, ◌≤◌, ◌+◌, ◌||◌, nat_lt, nat_le, ℕ, zero, suc, Bool, true, false, cond, is_some, IsSome, IsTrue, IfErr, OnOk, List, [], ◌∷◌, length, get_or, slice_get, Option, None, Some, Result, Ok, Err, arith, refl, sym, ap, subst, inl, inr, ◌∙◌}
use Rattle.std.specs.Cmp.{tied_itself}
use Rattle.std.specs.Cmp.Lexicographic.{nat_list_cmp_total}
use Rattle.std.specs.Ordering.{is_eq}
use Rattle.std.specs.Option.{option_map}
use Rattle.std.specs.FinSet.{contains}
use Rattle.std.specs.FinMap.{empty, get, get-empty, len}
use Rattle.std.proofs.lemmas.List.{length-replicate}
use Rattle.rv_ledger.specs.Key.{Storage}
use Rattle.rv_ledger.specs.Call.{Invocation}
use Rattle.rv_ledger.specs.declared.job.Job.{Job}
use Rattle.rv_ledger.specs.declared.receipt.Receipt.{Receipt}
use Rattle.rv_step.specs.Replies.{replies_of}
use Rattle.rv_step.specs.declared.answer.StorageAnswer.{StorageAnswer}
use Rattle.rv_step.specs.declared.ended_run.EndedRun.{EndedRun}
use Rattle.version_arena.specs.ArenaState.{Record as Placing}
use Rattle.mvmap.specs.Table.{Table}
use Rattle.mvmap.specs.Versions.{Entry, Estimate, Versions, place_cmp}
use Rattle.stm_state.specs.declared.state.Status.TheVariants.{Executing, Aborting}
use Rattle.stm_state.specs.declared.state.Task.TheVariants.{Idle, Running, Moving, Validating, Marking}
use Rattle.stm_state.specs.State.{State, fresh, start_state, call_at, task_at}
use Rattle.stm_state.specs.Steps.{Block, Step, Ask, ReadKey, Park, Record, MoveKey, FinishExecution, CheckRead, Decide, MarkEstimate, FinishAbort, ArenaFull, IncarnationLimit, counted, one_asking, one_step, one_execution, one_validation, after_ask, after_read_key, after_park, after_record, after_move_key, after_finish_execution, record_within, after_check_read, after_decide, after_mark_estimate, after_finish_abort, step_with, worker_step}
use Rattle.stm_state.specs.Done.{Reached, started, stepped, block_of, borne_out_by}
use Rattle.stm_state.specs.Parts.{has_key}
use Rattle.stm_state.proofs.Invariant.{Invariant, named_by, owned_by, run_by}
use Rattle.stm_state.proofs.InvariantKept.{invariant_kept}
use Rattle.stm_state.proofs.Counted.{counts_within}
use Rattle.scheduler.specs.Schedule.{KeepsRooms, Schedule, MayCount, state_of}
use Rattle.scheduler.specs.Workers.{NobodyMoves}
use Rattle.stm_core.specs.CoreState.{CoreState, IsDue, Makes, ReadSizes, is_due, is_read}
use Rattle.stm_core.specs.Inner.{AreVersionsPlaced, IsGrown, IsReached, KeepsPromises, core_state_of, state_in}
use Rattle.stm_core.proofs.TaskChanges.{turn}
use Rattle.stm_core.proofs.Promises.{IsQuiet, grown_kept, none_promised, quiet_kept}

both : {b : Bool} → b ≡ true → b ≡ false → ⊥
both h k = cc

module _ (job : Job) (table : Table) (promised : ℕ) (schedule : Schedule) (h : IsReached job table promised schedule) where
  -- the invariant holds
  pub invariant_at : Invariant (block_of job.block job.store) (length schedule.tasks) (state_in table promised schedule)
  invariant_at = invariant_kept (block_of job.block job.store) (length schedule.tasks) (state_in table promised schedule) h.reached

  -- the execution index is within the calls
  pub execution_in : schedule.execution ≤ length schedule.calls
  execution_in = let low = invariant_at.facts.execution_within in let e = invariant_at.sized.calls in omega (arith, low, e)

  -- a call that a task names is one of the calls
  pub named_in : (w i : ℕ) → named_by (get_or schedule.tasks w Idle) ≡ Some i → i < length schedule.calls
  named_in w i named = let low = invariant_at.facts.named w i named in let e = invariant_at.sized.calls in omega (arith, low, e)

  -- so is the call that a run is blocked on
  pub blocked_in : (w i b : ℕ) (answers : List StorageAnswer) → get_or schedule.tasks w Idle ≡ Running i answers (Some b) → b < length schedule.calls
  blocked_in w i b answers at = let low = invariant_at.facts.blocked w i b answers at in let named = named_in w i (ap named_by at) in omega (arith, low, named)

  -- an ABORTING call is below the limit
  pub aborting_low : (i : ℕ) → (get_or schedule.calls i fresh).status ≡ Aborting → (get_or schedule.calls i fresh).incarnation ≤ 65534
  aborting_low i at = invariant_at.facts.aborting_limit i at

  -- so is a call whose keys are marked
  pub marked_low : (w i : ℕ) (keys : List (List ℕ)) → get_or schedule.tasks w Idle ≡ Marking i keys → (get_or schedule.calls i fresh).incarnation < 65535
  marked_low w i keys at = let low = invariant_at.facts.aborting_limit i (invariant_at.facts.marking w i keys at).aborting in omega (arith, low)

  -- an incarnation is at most 65,535
  pub limit_at : (i : ℕ) → (get_or schedule.calls i fresh).incarnation ≤ 65535
  limit_at i = invariant_at.facts.limit i

  -- a call that a worker runs is EXECUTING
  pub executing_at : (w i : ℕ) (answers : List StorageAnswer) (blocked : Option ℕ) → get_or schedule.tasks w Idle ≡ Running i answers blocked → (get_or schedule.calls i fresh).status ≡ Executing
  executing_at w i answers blocked runs = invariant_at.facts.running w i (ap run_by runs)

  -- and nobody moves its keys
  pub nobody_moves : (w i : ℕ) (answers : List StorageAnswer) (blocked : Option ℕ) → get_or schedule.tasks w Idle ≡ Running i answers blocked → NobodyMoves i schedule.tasks
  nobody_moves w i answers blocked runs u keys new moves =
      let same = invariant_at.facts.alone u w i (ap owned_by moves) (ap owned_by runs) in
      let there : get_or schedule.tasks w Idle ≡ Moving i keys new = sym (ap (λ x. get_or schedule.tasks x Idle) same) ∙ moves in
      cc

  -- the next key that is marked has an entry, and so a place
  pub mark_has_place : (w i : ℕ) (key : List ℕ) (keys : List (List ℕ)) → get_or schedule.tasks w Idle ≡ Marking i (key ∷ keys) → IsTrue (contains table.places (key, i))
  mark_has_place w i key keys at =
      let at_mark = invariant_at.facts.marking w i (key ∷ keys) at in
      let content = at_mark.written key (ap (λ o. is_eq o || has_key key keys) (tied_itself nat_list_cmp_total key)) in
      h.places (key, i) (elim (at_mark.amid key) [
        | inl turned ↦ ap is_some (turned ∙ ap (option_map (λ c. Estimate)) content.1)
        | inr before ↦ ap is_some before.1.1
      ])

  -- what was promised is within the arena's limit
  pub placed_within : length table.arena.records + promised ≤ 1048576
  placed_within = h.promises.limit

  -- the same state is reached with a schedule that is the same except for its rooms
  pub same_reached : (after : Schedule) → state_in table promised after ≡ state_in table promised schedule → IsReached job table promised after
  same_reached after same = record {
    reached = subst (λ (s : State). Reached (block_of job.block job.store) (length s.tasks) s) (sym same) h.reached;
    places = h.places;
    promises = subst (KeepsPromises table promised) (sym same) h.promises;
  }

  -- so is it over a table with more room
  pub grown_reached : (grown : Table) (more : ℕ) (after : Schedule) → IsGrown table grown → more ≡ promised → after ≡ schedule → IsReached job grown more after
  grown_reached grown more after grows count same =
      subst (λ n. IsReached job grown n after) (sym count) (subst (IsReached job grown promised) (sym same) (record {
        reached = subst (λ (s : State). Reached (block_of job.block job.store) (length schedule.tasks) s) (sym one) h.reached;
        places = λ place there. grows.places place (h.places place (subst (λ (v : Versions). IsSome (get v place)) grows.versions there));
        promises = subst (KeepsPromises grown promised) (sym one) (grown_kept table promised (state_in table promised schedule) h.promises grown grows);
      }))
    where
      one : state_in grown promised schedule ≡ state_in table promised schedule
      one =
          ap (λ v. state_of v (length grown.arena.records + promised) schedule) grows.versions
          ∙ ap (λ (rs : List Placing). state_of table.versions (length rs + promised) schedule) grows.records

  module _ {room : ReadSizes} (b : CoreState) (is : core_state_of job table promised schedule room ≡ b) (w : ℕ) (step : Step) (due : IsDue w step b) where
    -- what is due of the parts
    pub due_at : IsDue w step (core_state_of job table promised schedule room)
    due_at = subst (IsDue w step) (sym is) due

    -- a worker whose step is due may count it
    pub may_count : MayCount w schedule
    may_count =
        let few = counts_within (block_of job.block job.store) (length schedule.tasks) (state_in table promised schedule) h.reached w in
        record {
          within = due_at.worker;
          steps = due_at.steps;
          asks = let d = due_at.steps in let low = few.asks in omega (arith, d, low);
          executions = let d = due_at.steps in let low = few.executions in omega (arith, d, low);
          validations = let d = due_at.steps in let low = few.validations in omega (arith, d, low);
          dones = let d = due_at.steps in let low = few.asks in let done = few.dones in omega (arith, d, low, done);
        }

    module _ (after_table : Table) (more : ℕ) (after : Schedule) (made : worker_step (block_of job.block job.store) w step (state_in table promised schedule) ≡ Some (Ok (state_in after_table more after))) where
      -- the state after a step is reached
      pub goes_on : AreVersionsPlaced after_table → KeepsPromises after_table more (state_in after_table more after) → IsReached job after_table more after
      goes_on places promises =
          let next = stepped w step h.reached due_at.worker made in
          let same = (invariant_kept (block_of job.block job.store) (length schedule.tasks) (state_in after_table more after) next).sized.tasks in
          record {
            reached = subst (λ n. Reached (block_of job.block job.store) n (state_in after_table more after)) (sym same) next;
            places = places;
            promises = promises;
          }

      -- the step is made
      pub makes : KeepsRooms w schedule.rooms after.rooms → Makes w step b (core_state_of job after_table more after room)
      makes rooms = subst (λ x. Makes w step x (core_state_of job after_table more after room)) is (made, refl, rooms, λ other. refl)

      -- so is a read, whatever room for reads is left
      pub makes_read : (left : ReadSizes) → is_read step ≡ true → KeepsRooms w schedule.rooms after.rooms → Makes w step b (core_state_of job after_table more after left)
      makes_read left reads rooms = subst (λ x. Makes w step x (core_state_of job after_table more after left)) is (made, refl, rooms, λ other. absurd (both reads other))

    -- so it is if the step neither hands a run in nor moves a key
    pub goes_on_quietly : (after_table : Table) (after : Schedule) → IsQuiet step → worker_step (block_of job.block job.store) w step (state_in table promised schedule) ≡ Some (Ok (state_in after_table promised after))
        → AreVersionsPlaced after_table → after_table.places ≡ table.places → after_table.arena ≡ table.arena → IsReached job after_table promised after
    goes_on_quietly after_table after quiet made places same_places same_arena =
        goes_on after_table promised after made places
        (quiet_kept (block_of job.block job.store) (length schedule.tasks) w (state_in table promised schedule) invariant_at due_at.worker table promised h.promises (state_in after_table promised after) step after_table quiet due_at.due_step
        (turn (block_of job.block job.store) w (state_in table promised schedule) (state_in after_table promised after) step made) same_places same_arena)

-- ---- the start state

-- the parts of a run at its start are the start state of its block
pub start_is : (n workers : ℕ) (table : Table) (schedule : Schedule) → table.versions ≡ empty → table.arena.records ≡ [] → ((v : Versions) (p : ℕ) → state_of v p schedule ≡ record (start_state n workers) { versions = v; record_count = p })
    → state_in table 0 schedule ≡ start_state n workers
start_is n workers table schedule none records is =
    is table.versions (length table.arena.records + 0)
    ∙ ap (λ v. record (start_state n workers) { versions = v; record_count = length table.arena.records + 0 }) none
    ∙ ap (λ (rs : List Placing). record (start_state n workers) { record_count = length rs + 0 }) records

-- it is reached
pub start_reached : (job : Job) (n workers : ℕ) (table : Table) (schedule : Schedule) → n ≡ length job.block → table.versions ≡ empty → table.arena.records ≡ [] → ((v : Versions) (p : ℕ) → state_of v p schedule ≡ record (start_state n workers) { versions = v; record_count = p })
    → IsReached job table 0 schedule
start_reached job n workers table schedule count none records is =
    let same : state_in table 0 schedule ≡ start_state (length job.block) workers = start_is n workers table schedule none records is ∙ ap (λ x. start_state x workers) count in
    let size : length schedule.tasks ≡ workers = ap (λ (s : State). length s.tasks) same ∙ length-replicate workers Idle in
    record {
      reached = subst (λ m. Reached (block_of job.block job.store) m (state_in table 0 schedule)) (sym size)
          (subst (λ (s : State). Reached (block_of job.block job.store) workers s) (sym same) started);
      places = λ place there. let gone : get table.versions place ≡ None = ap (λ (v : Versions). get v place) none ∙ get-empty place_cmp place in absurd (not_there (get table.versions place) gone there);
      promises = none_promised table workers (state_in table 0 schedule) (ap (λ (s : State). s.tasks) same) records;
    }
  where
    not_there : (o : Option Entry) → o ≡ None → IsSome o → ⊥
    not_there None e h = cc
    not_there (Some x) e h = cc

-- ---- the steps

not_lt : (a b : ℕ) → b ≤ a → nat_lt a b ≡ false
not_lt a b h = grind (arith)

not_le : (a b : ℕ) → b < a → nat_le a b ≡ false
not_le a b h = grind (arith)

module _ (block : Block) (w : ℕ) (s : State) where
  pub ask_made : task_at s w ≡ Idle → worker_step block w Ask s ≡ Some (Ok (counted one_asking w (after_ask w s)))
  ask_made idle = ap (λ t. step_with block w t Ask s) idle

  pub read_made : (key : List ℕ) (i : ℕ) (answers : List StorageAnswer) → task_at s w ≡ Running i answers None → worker_step block w (ReadKey key) s ≡ Some (Ok (counted one_step w (after_read_key block.base key w i answers s)))
  read_made key i answers runs = ap (λ t. step_with block w t (ReadKey key) s) runs

  pub park_made : (i b : ℕ) (answers : List StorageAnswer) → task_at s w ≡ Running i answers (Some b) → (call_at s i).incarnation < 65535 → worker_step block w Park s ≡ Some (Ok (counted one_step w (after_park w i b s)))
  park_made i b answers runs low =
      ap (λ t. step_with block w t Park s) runs
      ∙ ap (λ spent. cond spent (Some (Err IncarnationLimit)) (Some (Ok (counted one_step w (after_park w i b s))))) (not_le 65535 (call_at s i).incarnation low)

  pub move_made : (i : ℕ) (key : List ℕ) (keys : List (List ℕ)) (new : Bool) → task_at s w ≡ Moving i (key ∷ keys) new → worker_step block w MoveKey s ≡ Some (Ok (counted one_step w (after_move_key w i key keys new s)))
  move_made i key keys new at = ap (λ t. step_with block w t MoveKey s) at

  pub finish_made : (i : ℕ) (new : Bool) → task_at s w ≡ Moving i [] new → worker_step block w FinishExecution s ≡ Some (Ok (counted one_step w (after_finish_execution w i new s)))
  finish_made i new at = ap (λ t. step_with block w t FinishExecution s) at

  pub check_made : (i n left : ℕ) → task_at s w ≡ Validating i n (suc left) false → worker_step block w CheckRead s ≡ Some (Ok (counted one_step w (after_check_read w i n left s)))
  check_made i n left at = ap (λ t. step_with block w t CheckRead s) at

  pub decide_made : (i n left : ℕ) (failed : Bool) → task_at s w ≡ Validating i n left failed → is_due Decide (task_at s w) ≡ true → worker_step block w Decide s ≡ Some (Ok (counted one_validation w (after_decide w i n failed s)))
  decide_made i n left failed at due = ap (λ t. step_with block w t Decide s) at ∙ go left failed (sym (ap (is_due Decide) at) ∙ due)
    where
      go : (left : ℕ) (failed : Bool) → is_due Decide (Validating i n left failed) ≡ true → step_with block w (Validating i n left failed) Decide s ≡ Some (Ok (counted one_validation w (after_decide w i n failed s)))
      go left true h = refl
      go zero false h = refl
      go (suc left) false h = cc

  pub mark_made : (i : ℕ) (key : List ℕ) (keys : List (List ℕ)) → task_at s w ≡ Marking i (key ∷ keys) → worker_step block w MarkEstimate s ≡ Some (Ok (counted one_step w (after_mark_estimate w i key keys s)))
  mark_made i key keys at = ap (λ t. step_with block w t MarkEstimate s) at

  pub abort_made : (i : ℕ) → task_at s w ≡ Marking i [] → worker_step block w FinishAbort s ≡ Some (Ok (counted one_step w (after_finish_abort w i s)))
  abort_made i at = ap (λ t. step_with block w t FinishAbort s) at

module _ (block : Block) (w i : ℕ) (answers : List StorageAnswer) (s : State) where
  -- a record within the limits, and one that is refused
  pub record_made : (receipt : Receipt) → task_at s w ≡ Running i answers None → block.borne_out i (replies_of answers) ≡ Some receipt → s.record_count + len receipt.writes ≤ 1048576 → (call_at s i).incarnation < 65535
      → worker_step block w Record s ≡ Some (Ok (counted one_execution w (after_record w i answers receipt s)))
  record_made receipt runs bears room low =
      ap (λ t. step_with block w t Record s) runs
      ∙ ap (λ o. record_within i answers w o s) bears
      ∙ ap (λ b. cond b (Some (Err ArenaFull)) (cond (nat_le 65535 (call_at s i).incarnation) (Some (Err IncarnationLimit)) (Some (Ok (counted one_execution w (after_record w i answers receipt s)))))) (not_lt 1048576 (s.record_count + len receipt.writes) room)
      ∙ ap (λ b. cond b (Some (Err IncarnationLimit)) (Some (Ok (counted one_execution w (after_record w i answers receipt s))))) (not_le 65535 (call_at s i).incarnation low)

-- a run is a run of the call at an index, and was given these answers
abbrev pub IsHanded : List Invocation → ℕ → List StorageAnswer → EndedRun → Type 0
IsHanded calls i answers run = (slice_get calls i ≡ Some run.call) × (run.answers.items ≡ answers)

-- a worker's own run that is handed in, within the limits, and refused
module _ (calls : List Invocation) (store : Storage) (w i : ℕ) (answers : List StorageAnswer) (run : EndedRun) (s : State) (runs : task_at s w ≡ Running i answers None) (handed : IsHanded calls i answers run) where
  runs_own : task_at s w ≡ Running i run.answers.items None
  runs_own = runs ∙ ap (λ x. Running i x None) (sym handed.1)

  bears_own : borne_out_by (slice_get calls i) (replies_of run.answers.items) ≡ Some run.receipt
  bears_own = ap (λ o. borne_out_by o (replies_of run.answers.items)) handed.0 ∙ run.borne_out

  pub own_made : s.record_count + len run.receipt.writes ≤ 1048576 → (call_at s i).incarnation < 65535
      → worker_step (block_of calls store) w Record s ≡ Some (Ok (counted one_execution w (after_record w i run.answers.items run.receipt s)))
  own_made room low = record_made (block_of calls store) w i run.answers.items s run.receipt runs_own bears_own room low

-- ---- results

-- what holds in both cases holds
pub both_ways : {T E : Type 0} (r : Result T E) {P Q S R : Type 0} {B : E → Type 0} → OnOk r P → OnOk r Q → OnOk r S → IfErr r B → (P → Q → S → R) → ((e : E) → B e → R) → R
both_ways (Ok x) h k l b f g = f h k l
both_ways (Err e) h k l b f g = g e b
