-- A run that is handed in, a key that is moved and a key that is marked, over the parts of a job's run.
use Rattle.std.proofs.Common.{◌≡◌, ◌<◌, ◌≤◌, ◌+◌, ◌*◌, ℕ, Bool, true, IsSome, List, [], ◌∷◌, length, get_or, slice_get, Option, None, Some, Ok, vec_items, refl, sym, ap, subst, ◌∙◌}
use Rattle.std.specs.FinMap.{get, len}
use Rattle.rv_ledger.specs.declared.job.Job.{Job}
use Rattle.rv_step.specs.declared.answer.StorageAnswer.{StorageAnswer}
use Rattle.rv_step.specs.declared.ended_run.EndedRun.{EndedRun}
use Rattle.mvmap.specs.Table.{Table}
use Rattle.mvmap.specs.Versions.{Estimate, Versions, changed}
use Rattle.stm_state.specs.declared.state.Recorded.{Recorded}
use Rattle.stm_state.specs.declared.state.Task.{Task}
use Rattle.stm_state.specs.declared.state.Task.TheVariants.{Idle, Running, Moving, Marking}
use Rattle.stm_state.specs.State.{State, call_at, fresh, task_at}
use Rattle.stm_state.specs.Steps.{Record, MoveKey, MarkEstimate, counted, after_mark_estimate, after_move_key, one_execution, one_step, after_record, version_of, worker_step}
use Rattle.stm_state.specs.Done.{block_of}
use Rattle.stm_state.proofs.Invariant.{named_by}
use Rattle.stm_state.proofs.Tests.{equal_itself, equal_says}
use Rattle.scheduler.specs.Schedule.{KeepsRooms, Schedule}
use Rattle.stm_core.specs.CoreState.{CoreState, IsDue, IsReadyOf, Makes, ReadSizes, runs}
use Rattle.stm_core.specs.declared.ready_record.ReadyRecord.{ReadyRecord}
use Rattle.stm_core.specs.Inner.{AreOpen, IsGrown, IsPromised, IsReached, KeepsPromises, core_state_of, state_in, writes_at}
use Rattle.stm_core.proofs.EntryPlaces.{Within, marked_within, moved_within}
use Rattle.stm_core.proofs.MadeSteps.{IsHanded, due_at, goes_on, goes_on_quietly, invariant_at, makes, mark_has_place, mark_made, move_made, named_in, own_made}
use Rattle.stm_core.proofs.Promises.{moved_kept, next_has_place, next_is_promised, recorded_kept}

module _ (job : Job) (table : Table) (promised : ℕ) (schedule : Schedule) (h : IsReached job table promised schedule) {room : ReadSizes} (b : CoreState) (is : core_state_of job table promised schedule room ≡ b) (w i : ℕ) where
  -- ---- record

  -- a run that is known to be of the job's call is handed in with the answers that it was given
  pub is_handed : (run : EndedRun) (answers : List StorageAnswer) → get_or schedule.tasks w Idle ≡ Running i answers None → ((j : ℕ) → runs (task_at b.state w) j ≡ true → slice_get b.job.block j ≡ Some run.call)
      → run.answers.items ≡ answers → IsHanded job.block i answers run
  is_handed run answers at known same =
      let task : runs (get_or schedule.tasks w Idle) i ≡ true = ap (λ (t : Task). runs t i) at ∙ equal_itself i in
      (subst (λ (x : CoreState). slice_get x.job.block i ≡ Some run.call) (sym is) (known i (subst (λ (x : CoreState). runs (task_at x.state w) i ≡ true) is task)), same)

  -- so is one that is ready to be recorded
  pub is_ready_handed : (run : EndedRun) (ready : ReadyRecord) → IsReadyOf run ready → (answers : List StorageAnswer) → get_or schedule.tasks w Idle ≡ Running i answers None
      → ((j : ℕ) → runs (task_at b.state w) j ≡ true → slice_get b.job.block j ≡ Some ready.call) → ready.answers.items ≡ answers → IsHanded job.block i answers run
  is_ready_handed run ready made answers at known same =
      is_handed run answers at (λ j r. known j r ∙ ap Some made.call) (ap vec_items (sym made.answers) ∙ same)

  -- and what its call had before is what the call that the worker runs had
  pub had_before : (last : Option Recorded) (answers : List StorageAnswer) → get_or schedule.tasks w Idle ≡ Running i answers None → last ≡ (get_or schedule.calls i fresh).last
      → (j : ℕ) → runs (task_at b.state w) j ≡ true → last ≡ (call_at b.state j).last
  had_before last answers at same j = subst (λ (x : CoreState). runs (task_at x.state w) j ≡ true → last ≡ (call_at x.state j).last) is
      (λ r. same ∙ ap (λ k. (get_or schedule.calls k fresh).last) (equal_says i j (ap (λ (t : Task). runs t j) (sym at) ∙ r)))

  module _ (due : IsDue w Record b) (run : EndedRun) (answers : List StorageAnswer) (at : get_or schedule.tasks w Idle ≡ Running i answers None) (handed : IsHanded job.block i answers run) where
    -- the state after the record of a worker's own run within the limits is reached
    pub record_reached : (after_table : Table) (more : ℕ) (after : Schedule) → IsGrown table after_table → IsPromised i run.receipt.writes after_table promised more
        → (length table.arena.records + promised + len run.receipt.writes ≤ 1048576) × ((get_or schedule.calls i fresh).incarnation < 65535)
        → state_in after_table more after ≡ counted one_execution w (after_record w i run.answers.items run.receipt (state_in table promised schedule)) → IsReached job after_table more after
    record_reached after_table more after grown promises within same =
        let s = state_in table promised schedule in
        let own : get_or schedule.tasks w Idle ≡ Running i run.answers.items None = at ∙ ap (λ x. Running i x None) (sym handed.1) in
        goes_on job table promised schedule h b is w Record due after_table more after
        (own_made job.block job.store w i answers run s at handed within.0 within.1 ∙ ap (λ t. Some (Ok t)) (sym same))
        (λ place there. grown.places place (h.places place (subst (λ (v : Versions). IsSome (get v place)) (ap (λ (t : State). t.versions) same) there)))
        (subst (KeepsPromises after_table more) (sym same)
        (recorded_kept (block_of job.block job.store) (length schedule.tasks) w s (invariant_at job table promised schedule h) (due_at job table promised schedule h b is w Record due).worker table promised h.promises
        i more run.answers.items run.receipt after_table (named_in job table promised schedule h w i (ap named_by at)) own grown promises within.0))

  -- ---- move key

  module _ (due : IsDue w MoveKey b) (key : List ℕ) (keys : List (List ℕ)) (new : Bool) (at : get_or schedule.tasks w Idle ≡ Moving i (key ∷ keys) new) where
    -- the next key has a place if the run wrote it, and its record is promised
    pub key_has_place : AreOpen table.places i (writes_at (get_or schedule.calls i fresh).last (key ∷ []))
    key_has_place = next_has_place (block_of job.block job.store) (length schedule.tasks) w (state_in table promised schedule) (invariant_at job table promised schedule h) (due_at job table promised schedule h b is w MoveKey due).worker table promised h.promises i key keys new at

    pub key_is_promised : length (writes_at (get_or schedule.calls i fresh).last (key ∷ [])) ≤ promised
    key_is_promised = next_is_promised (block_of job.block job.store) (length schedule.tasks) w (state_in table promised schedule) (invariant_at job table promised schedule h) (due_at job table promised schedule h b is w MoveKey due).worker table promised h.promises i key keys new at

    module _ (after_table : Table) (more : ℕ) (after : Schedule) (same : state_in after_table more after ≡ counted one_step w (after_move_key w i key keys new (state_in table promised schedule))) where
      move_is_made : worker_step (block_of job.block job.store) w MoveKey (state_in table promised schedule) ≡ Some (Ok (state_in after_table more after))
      move_is_made = move_made (block_of job.block job.store) w (state_in table promised schedule) i key keys new at ∙ ap (λ t. Some (Ok t)) (sym same)

      -- the state after the move is reached
      pub move_reached : after_table.places ≡ table.places → length after_table.arena.records + more ≡ length table.arena.records + promised → more + length (writes_at (get_or schedule.calls i fresh).last (key ∷ [])) ≡ promised
          → more ≤ after_table.arena.room → more * 256 ≤ after_table.arena.bytes → IsReached job after_table more after
      move_reached places placed taken room bytes =
          let versions : after_table.versions ≡ changed table.versions (key, i) (version_of (get_or schedule.calls i fresh) key) = ap (λ (t : State). t.versions) same in
          goes_on job table promised schedule h b is w MoveKey due after_table more after move_is_made
          (subst (λ p. Within p after_table.versions) (sym places) (subst (Within table.places) (sym versions)
          (moved_within table.places i (get_or schedule.calls i fresh) key table.versions key_has_place h.places)))
          (subst (KeepsPromises after_table more) (sym same)
          (moved_kept (block_of job.block job.store) (length schedule.tasks) w (state_in table promised schedule) (invariant_at job table promised schedule h) (due_at job table promised schedule h b is w MoveKey due).worker table promised h.promises
          i more key keys new after_table at places placed taken room bytes))

      -- and it is made
      pub move_makes : KeepsRooms w schedule.rooms after.rooms → Makes w MoveKey b (core_state_of job after_table more after room)
      move_makes rooms = makes job table promised schedule h b is w MoveKey due after_table more after move_is_made rooms

  -- ---- mark estimate

  module _ (due : IsDue w MarkEstimate b) (key : List ℕ) (keys : List (List ℕ)) (at : get_or schedule.tasks w Idle ≡ Marking i (key ∷ keys)) (after : Schedule) where
    -- the table with an estimate at the key
    abbrev pub with_estimate : Table
    with_estimate = record table { versions = changed table.versions (key, i) (Some Estimate) }

    module _ (same : state_in with_estimate promised after ≡ counted one_step w (after_mark_estimate w i key keys (state_in table promised schedule))) where
      mark_is_made : worker_step (block_of job.block job.store) w MarkEstimate (state_in table promised schedule) ≡ Some (Ok (state_in with_estimate promised after))
      mark_is_made = mark_made (block_of job.block job.store) w (state_in table promised schedule) i key keys at ∙ ap (λ t. Some (Ok t)) (sym same)

      -- the state after the mark is reached
      pub mark_reached : IsReached job with_estimate promised after
      mark_reached =
          goes_on_quietly job table promised schedule h b is w MarkEstimate due with_estimate after tt mark_is_made
          (marked_within table.places i key table.versions (mark_has_place job table promised schedule h w i key keys at) h.places) refl refl

      -- and it is made
      pub mark_makes : KeepsRooms w schedule.rooms after.rooms → Makes w MarkEstimate b (core_state_of job with_estimate promised after room)
      mark_makes rooms = makes job table promised schedule h b is w MarkEstimate due with_estimate promised after mark_is_made rooms
