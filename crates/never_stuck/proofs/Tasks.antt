-- A worker alone ends its task.
use Rattle.std.proofs.Common.{◌≡◌, ◌≢◌, ◌<◌, ◌≤◌, ◌+◌, ◌*◌, ℕ, Bool, true, false, List, [], length, map, get_or, None, Some, arith, refl, sym, ap, subst, ◌∙◌, inl, inr}
use Rattle.std.specs.List.{list_all}
use Rattle.std.proofs.lemmas.Bool.{cases_eq, cases_Bool, cond-true}
use Rattle.std.proofs.lemmas.List.{get_or-set_same}
use Rattle.rv_step.specs.declared.answer.StorageAnswer.{StorageAnswer}
use Rattle.mvmap.specs.Reading.{stands}
use Rattle.stm_state.specs.declared.state.Status.TheVariants.{Executed, Aborting}
use Rattle.stm_state.specs.declared.state.CallState.{CallState}
use Rattle.stm_state.specs.declared.state.Task.{Task}
use Rattle.stm_state.specs.declared.state.Task.TheVariants.{Idle, Running, Moving, Validating, Marking}
use Rattle.stm_state.specs.Limits.{incarnation_limit}
use Rattle.stm_state.specs.State.{State, fresh, call_at, task_at, with_call, with_task, is_executed}
use Rattle.stm_state.specs.Steps.{counted, one_step, after_park, read_of, recorded_reads}
use Rattle.stm_state.proofs.Tests.{not_executed_says}
use Rattle.never_stuck.proofs.UnstuckGoals.{Setting}
use Rattle.never_stuck.proofs.OwedLists.{Comes, comes_here, comes_more, comes_so}
use Rattle.never_stuck.proofs.Kept.{OnlyTask, Kept, Stays, task_kept, call_kept, kept_on, new_task, new_call}
use Rattle.never_stuck.proofs.RunReads.{AllStand}
use Rattle.never_stuck.proofs.OwedSteps.{IsSound, worker_there, named_there, task_few, comes_then, parks_on}
use Rattle.never_stuck.proofs.Validations.{ValidationOutcome, passes, takes_back, validation_ends}
use Rattle.never_stuck.proofs.Aborts.{AbortOutcome, runs_again, readies, abort_ends}
use Rattle.never_stuck.proofs.Runs.{RunOutcome, hands_in, parks, waiting, parked_is, run_ends}
use Rattle.never_stuck.proofs.Moves.{MoveOutcome, rests, validates, move_ends}

-- ---- a run whose reads stand

-- a run of call i whose reads stood has ended. The call is EXECUTED, its reads stand, and the worker's task is over; or the call is
-- parked on a lower one that is not EXECUTED
pub data FreshOutcome (w i : ℕ) (s t : State) : Type 0 where
  executes : Kept w i s t → task_at t w ≡ Idle → (call_at t i).incarnation ≡ (call_at s i).incarnation → (call_at t i).status ≡ Executed → AllStand t.versions i (recorded_reads (call_at t i).last) → FreshOutcome w i s t
  parks_call : (b : ℕ) → Kept w i s t → task_at t w ≡ Idle → (call_at t i).incarnation ≡ (call_at s i).incarnation → b < i → (call_at s b).status ≢ Executed → FreshOutcome w i s t

-- if only a task changes, a call stays, and its reads stand if they did
pub same_call : (w i : ℕ) (s t : State) → OnlyTask w s t → call_at t i ≡ call_at s i
same_call w i s t only = ap (λ calls. get_or calls i fresh) only.calls

stand_on : (w i : ℕ) (s t : State) → OnlyTask w s t → AllStand s.versions i (recorded_reads (call_at s i).last) → AllStand t.versions i (recorded_reads (call_at t i).last)
stand_on w i s t only stood =
    ap (λ versions. list_all (stands versions i) (recorded_reads (call_at t i).last)) only.versions ∙ ap (λ (c : CallState). list_all (stands s.versions i) (recorded_reads c.last)) (same_call w i s t only) ∙ stood

-- a validation of a call whose reads stand passes
after_validation : (w i : ℕ) (s u t : State) → Kept w i s u → (call_at u i).incarnation ≡ (call_at s i).incarnation → (call_at u i).status ≡ Executed → AllStand u.versions i (recorded_reads (call_at u i).last) → ValidationOutcome w i false u t → FreshOutcome w i s t
after_validation w i s u t kept same done stood (passes only at) =
    executes (kept_on w i s u t kept (task_kept w i u t only)) at (ap (λ (c : CallState). c.incarnation) (same_call w i u t only) ∙ same) (ap (λ (c : CallState). c.status) (same_call w i u t only) ∙ done) (stand_on w i u t only stood)
after_validation w i s u t kept same done stood (takes_back keys only at few taken fresh_fails) = absurd (fresh_fails refl stood)

module _ (setting : Setting) (w i : ℕ) (w_in : w < setting.workers) where
  -- after the keys are moved
  fresh_moved : (s t u : State) → Kept w i s t → (call_at t i).incarnation ≡ (call_at s i).incarnation → AllStand t.versions i (recorded_reads (call_at t i).last) → IsSound setting u → MoveOutcome w i t u → Comes setting (FreshOutcome w i s) (setting.reads + 2) 0 u
  fresh_moved s t u kept same stood h (rests x at) = comes_here (executes (kept_on w i s t u kept x.kept) at (x.incarnation ∙ same) x.status (x.stand stood))
  fresh_moved s t u kept same stood h (validates n x at) =
      comes_so (λ v. after_validation w i s u v (kept_on w i s t u kept x.kept) (x.incarnation ∙ same) x.status (x.stand stood)) (validation_ends setting w i n w_in (length (recorded_reads (call_at u i).last)) false u h at)

  -- after the run
  fresh_ran : (answers : List StorageAnswer) (s t : State) → AllStand s.versions i (map read_of answers) → IsSound setting t → RunOutcome w i answers s t → Comes setting (FreshOutcome w i s) (setting.reads + 515) 0 t
  fresh_ran answers s t stood h (hands_in keys new only at same stand) =
      let few = task_few setting t h w w_in (Moving i keys new) at in
      comes_then setting (setting.reads + 2) 0 h (move_ends setting w i new w_in keys t h at) (λ u k. fresh_moved s t u (call_kept w i s t only) same (stand stood) k) (omega (arith, few)) (omega arith)
  fresh_ran answers s t stood h (parks b only at same less ne) = comes_here (parks_call b (call_kept w i s t only) at same less ne)

  -- it ends, with one record
  pub fresh_ends : (answers : List StorageAnswer) (s : State) → IsSound setting s → task_at s w ≡ Running i answers None → AllStand s.versions i (map read_of answers) → (setting.strict ≡ true → (call_at s i).incarnation < incarnation_limit)
      → Comes setting (FreshOutcome w i s) (2 * setting.reads + 517) 1 s
  fresh_ends answers s h at stood low = comes_then setting (setting.reads + 515) 0 h (run_ends setting w i w_in answers s h at low) (λ t k. fresh_ran answers s t stood k) (omega arith) (omega arith)

-- ---- any task

-- a task of call i has ended
pub record TaskEnded (w i : ℕ) (s t : State) : Type 0 where
  pub kept : Kept w i s t
  pub idle : task_at t w ≡ Idle
  pub risen : (call_at t i).incarnation ≤ (call_at s i).incarnation + 1

-- a fresh run has ended
fresh_ended : (w i : ℕ) (s t : State) → FreshOutcome w i s t → TaskEnded w i s t
fresh_ended w i s t (executes kept at same done stood) = record { kept = kept; idle = at; risen = omega (arith, same) }
fresh_ended w i s t (parks_call b kept at same less ne) = record { kept = kept; idle = at; risen = omega (arith, same) }

-- the same from a state before, in which the call has the same incarnation
ended_after : (w i : ℕ) (s u t : State) → Kept w i s u → (call_at u i).incarnation ≡ (call_at s i).incarnation → TaskEnded w i u t → TaskEnded w i s t
ended_after w i s u t kept same h = record { kept = kept_on w i s u t kept h.kept; idle = h.idle; risen = let up = h.risen in omega (arith, up, same) }

module _ (setting : Setting) (w i : ℕ) (w_in : w < setting.workers) where
  -- a further incarnation of call i is below the limit
  abbrev IsLow : State → Type 0
  IsLow s = setting.strict ≡ true → (call_at s i).incarnation + 1 < incarnation_limit

  low_still : (s t : State) → (call_at t i).incarnation ≡ (call_at s i).incarnation → IsLow s → IsLow t
  low_still s t same low is = let less = low is in omega (arith, less, same)

  low_now : (s : State) → IsLow s → setting.strict ≡ true → (call_at s i).incarnation < incarnation_limit
  low_now s low is = let less = low is in omega (arith, less)

  -- an abort and what follows it
  aborted_ends : (s t : State) → IsLow s → IsSound setting t → AbortOutcome w i s t → Comes setting (TaskEnded w i s) (2 * setting.reads + 517) 1 t
  aborted_ends s t low h (runs_again kept at up) =
      comes_so (λ u x. let y = fresh_ended w i t u x in record { kept = kept_on w i s t u kept y.kept; idle = y.idle; risen = same_as_first u x })
      (fresh_ends setting w i w_in [] t h at refl (λ is. let less = low is in omega (arith, less, up)))
    where
      same_as_first : (u : State) → FreshOutcome w i t u → (call_at u i).incarnation ≤ (call_at s i).incarnation + 1
      same_as_first u (executes k idle same done stood) = omega (arith, same, up)
      same_as_first u (parks_call b k idle same less ne) = omega (arith, same, up)
  aborted_ends s t low h (readies kept at up above) = comes_here (record { kept = kept; idle = at; risen = omega (arith, up) })

  abort_task : (keys : List (List ℕ)) (s : State) → length keys ≤ 512 → IsLow s → IsSound setting s → task_at s w ≡ Marking i keys → Comes setting (TaskEnded w i s) (length keys + (2 * setting.reads + 518)) 1 s
  abort_task keys s few low h at = comes_then setting (2 * setting.reads + 517) 1 h (abort_ends setting w i w_in keys s h at) (λ t k. aborted_ends s t low k) (omega arith) (omega arith)

  -- a validation and what follows it
  validated_ends : (failed : Bool) (s t : State) → IsLow s → IsSound setting t → ValidationOutcome w i failed s t → Comes setting (TaskEnded w i s) (2 * setting.reads + 774) 1 t
  validated_ends failed s t low h (passes only at) =
      let same = ap (λ (c : CallState). c.incarnation) (same_call w i s t only) in comes_here (record { kept = task_kept w i s t only; idle = at; risen = omega (arith, same) })
  validated_ends failed s t low h (takes_back keys only at few taken stale) =
      let same = ap (λ (c : CallState). c.incarnation) taken in
      comes_more (omega (arith, few)) (omega arith) (comes_so (λ u. ended_after w i s t u (call_kept w i s t only) same) (abort_task keys t (omega (arith, few)) (low_still s t same low) h at))

  validation_task : (n left : ℕ) (failed : Bool) (s : State) → IsLow s → IsSound setting s → task_at s w ≡ Validating i n left failed → Comes setting (TaskEnded w i s) (3 * setting.reads + 776) 1 s
  validation_task n left failed s low h at = comes_then setting (2 * setting.reads + 774) 1 h (validation_ends setting w i n w_in left failed s h at) (λ t k. validated_ends failed s t low k) (omega arith) (omega arith)

  -- a record and what follows it
  moved_ends : (s t : State) → IsLow s → IsSound setting t → MoveOutcome w i s t → Comes setting (TaskEnded w i s) (3 * setting.reads + 776) 1 t
  moved_ends s t low h (rests x at) = let same = x.incarnation in comes_here (record { kept = x.kept; idle = at; risen = omega (arith, same) })
  moved_ends s t low h (validates n x at) =
      comes_so (λ u. ended_after w i s t u x.kept x.incarnation) (validation_task n (length (recorded_reads (call_at t i).last)) false t (low_still s t x.incarnation low) h at)

  move_task : (keys : List (List ℕ)) (new : Bool) (s : State) → IsLow s → IsSound setting s → task_at s w ≡ Moving i keys new → Comes setting (TaskEnded w i s) (3 * setting.reads + 1289) 1 s
  move_task keys new s low h at =
      let few = task_few setting s h w w_in (Moving i keys new) at in
      comes_then setting (3 * setting.reads + 776) 1 h (move_ends setting w i new w_in keys s h at) (λ t k. moved_ends s t low k) (omega (arith, few)) (omega arith)

  -- a run and what follows it
  ran_ends : (answers : List StorageAnswer) (s t : State) → IsLow s → IsSound setting t → RunOutcome w i answers s t → Comes setting (TaskEnded w i s) (3 * setting.reads + 1289) 1 t
  ran_ends answers s t low h (hands_in keys new only at same stand) = comes_so (λ u. ended_after w i s t u (call_kept w i s t only) same) (move_task keys new t (low_still s t same low) h at)
  ran_ends answers s t low h (parks b only at same less ne) = comes_here (record { kept = call_kept w i s t only; idle = at; risen = omega (arith, same) })

  run_task : (answers : List StorageAnswer) (s : State) → IsLow s → IsSound setting s → task_at s w ≡ Running i answers None → Comes setting (TaskEnded w i s) (4 * setting.reads + 1291) 2 s
  run_task answers s low h at = comes_then setting (3 * setting.reads + 1289) 1 h (run_ends setting w i w_in answers s h at (low_now s low)) (λ t k. ran_ends answers s t low k) (omega arith) (omega arith)

  -- a blocked run and what follows it
  blocked_task : (answers : List StorageAnswer) (b : ℕ) (s : State) → IsLow s → IsSound setting s → task_at s w ≡ Running i answers (Some b) → Comes setting (TaskEnded w i s) (2 * setting.reads + 518) 1 s
  unfolding after_park
  blocked_task answers b s low h at = elim (cases_Bool (is_executed (call_at s b).status)) [
    | inl done ↦
        let u : State = with_task w (Running i [] None) s in
        parks_on setting w w_in s h i (low_now s low) (2 * setting.reads + 517) answers b u at (cond-true (is_executed (call_at s b).status) _ _ done) refl (omega arith)
        (λ k. comes_so (λ t x. ended_after w i s (counted one_step w u) t (task_kept w i s (counted one_step w u) (new_task w one_step (Running i [] None) s)) refl (fresh_ended w i (counted one_step w u) t x))
        (fresh_ends setting w i w_in [] (counted one_step w u) k (get_or-set_same s.tasks w (Running i [] None) Idle (worker_there setting s h w w_in)) refl (low_now s low)))
    | inr over ↦
        let call = waiting b (call_at s i) in
        let same = ap (λ (c : CallState). c.incarnation) (get_or-set_same s.calls i call fresh (named_there setting s h w w_in (Running i answers (Some b)) i at refl)) in
        parks_on setting w w_in s h i (low_now s low) 0 answers b (with_task w Idle (with_call i call s)) at (parked_is w i b s (not_executed_says (call_at s b).status over)) refl (omega arith)
        (λ _. comes_here (record { kept = call_kept w i s (counted one_step w (with_task w Idle (with_call i call s))) (new_call w i one_step Idle call s); idle = get_or-set_same s.tasks w Idle Idle (worker_there setting s h w w_in); risen = omega (arith, same) }))
  ]

-- ---- incarnations

-- no incarnation is above c, and none of an ABORTING call is c
abbrev pub IsBelow : ℕ → State → Type 0
IsBelow c s = (j : ℕ) → ((call_at s j).incarnation ≤ c) × ((call_at s j).status ≡ Aborting → (call_at s j).incarnation < c)

stayed_low : (c : ℕ) (before after : CallState) → (before.incarnation ≤ c) × (before.status ≡ Aborting → before.incarnation < c) → Stays before after → after.incarnation ≤ c
stayed_low c before after low (inl same) = let most = low.0 in let at = ap (λ (x : CallState). x.incarnation) same in omega (arith, most, at)
stayed_low c before after low (inr readied) = let less = low.1 readied.0 in let at = ap (λ (x : CallState). x.incarnation) readied.1 in omega (arith, less, at)

low_after : (w i c : ℕ) (s t : State) → TaskEnded w i s t → IsBelow c s → (j : ℕ) → (call_at t j).incarnation ≤ c + 1
low_after w i c s t h low j = elim (cases_eq j i) [
  | inl e ↦ subst (λ x. (call_at t x).incarnation ≤ c + 1) (sym e) (let up = h.risen in let most = (low i).0 in omega (arith, up, most))
  | inr ne ↦ let most = stayed_low c (call_at s j) (call_at t j) (low j) (h.kept.calls j ne) in omega (arith, most)
]

-- a worker has no task, the others keep theirs, and incarnations grow by less than two
pub record Settles (w : ℕ) (s t : State) : Type 0 where
  pub idle : task_at t w ≡ Idle
  pub tasks : (x : ℕ) → x ≢ w → task_at t x ≡ task_at s x
  pub low : (c : ℕ) → IsBelow c s → IsBelow (c + 2) t

settled : (w i : ℕ) (s t : State) → TaskEnded w i s t → Settles w s t
settled w i s t h = record {
  idle = h.idle;
  tasks = h.kept.tasks;
  low = λ c low j. let most = low_after w i c s t h low j in (omega (arith, most), λ _. omega (arith, most));
}

module _ (setting : Setting) (w : ℕ) (w_in : w < setting.workers) (s : State) (low : (i : ℕ) → setting.strict ≡ true → (call_at s i).incarnation + 1 < incarnation_limit) (h : IsSound setting s) where
  settles_by : (task : Task) → task_at s w ≡ task → Comes setting (Settles w s) (4 * setting.reads + 1300) 2 s
  settles_by Idle at = comes_here (record { idle = at; tasks = λ x ne. refl; low = λ c below j. let most = (below j).0 in (omega (arith, most), λ _. omega (arith, most)) })
  settles_by (Running i answers None) at = comes_more (omega arith) (omega arith) (comes_so (settled w i s) (run_task setting w i w_in answers s (low i) h at))
  settles_by (Running i answers (Some b)) at = comes_more (omega arith) (omega arith) (comes_so (settled w i s) (blocked_task setting w i w_in answers b s (low i) h at))
  settles_by (Moving i keys new) at = comes_more (omega arith) (omega arith) (comes_so (settled w i s) (move_task setting w i w_in keys new s (low i) h at))
  settles_by (Validating i n left failed) at = comes_more (omega arith) (omega arith) (comes_so (settled w i s) (validation_task setting w i w_in n left failed s (low i) h at))
  settles_by (Marking i keys) at =
      let few = task_few setting s h w w_in (Marking i keys) at in
      comes_more (omega (arith, few)) (omega arith) (comes_so (settled w i s) (abort_task setting w i w_in keys s few (low i) h at))

  -- a worker ends its task, with two records at most
  pub worker_settles : Comes setting (Settles w s) (4 * setting.reads + 1300) 2 s
  worker_settles = settles_by (task_at s w) refl
