-- What holds of each state that owed steps lead to, and the owed steps of a worker.
use Rattle.std.proofs.Common.{◌≡◌, ◌<◌, ◌≤◌, ◌+◌, nat_lt, nat_le, if◌then◌else◌, ℕ, Bool, true, false, List, length, slice_get, None, Some, Ok, Err, arith, refl, sym, ap, subst, ◌∙◌}
use Rattle.std.specs.FinMap.{len}
use Rattle.std.proofs.lemmas.List.Elements.{All-get_or}
use Rattle.rv_ledger.specs.declared.receipt.Receipt.{Receipt}
use Rattle.rv_step.specs.Replies.{replies_of}
use Rattle.rv_step.specs.declared.answer.StorageAnswer.{StorageAnswer}
use Rattle.stm_state.specs.declared.state.Task.{Task}
use Rattle.stm_state.specs.declared.state.Task.TheVariants.{Idle, Running}
use Rattle.stm_state.specs.Limits.{record_limit, incarnation_limit}
use Rattle.stm_state.specs.State.{State, call_at, task_at}
use Rattle.stm_state.specs.Steps.{ArenaFull, IncarnationLimit, counted, one_execution, one_step, after_park, after_record, record_within, step_with}
use Rattle.stm_state.specs.Done.{borne_out_by}
use Rattle.stm_state.specs.Drive.{asked_at, due_step, due_step_of_run}
use Rattle.stm_state.proofs.Invariant.{Invariant, named_by}
use Rattle.stm_state.proofs.StepsByTask.{made}
use Rattle.stm_state.proofs.Tests.{lt_says, not_le_is}
use Rattle.stm_state.proofs.InvariantKept.{worker_kept}
use Rattle.stm_state.proofs.OneWorkerPhases.{call_there}
use Rattle.stm_state.proofs.FurtherAsks.{goes_last}
use Rattle.stm_state.proofs.DueSteps.{Goes, AllGo, made_goes}
use Rattle.never_stuck.proofs.UnstuckGoals.{Setting, block, due}
use Rattle.never_stuck.proofs.Sizes.{borne_small}
use Rattle.never_stuck.proofs.KeysLeft.{AllFewKeys, HasFewKeys, few_after}
use Rattle.never_stuck.proofs.OwedLists.{Comes, comes_here, comes_on, meets_full, meets_spent, comes_more}

-- the invariant holds, each run can continue, and each task has few keys left
pub record IsSound (setting : Setting) (s : State) : Type 0 where
  pub inv : Invariant (block setting) setting.workers s
  pub go : AllGo setting.calls s
  pub few : AllFewKeys s

module _ (setting : Setting) where
  -- ---- what holds of a worker's task

  module _ (s : State) (h : IsSound setting s) (w : ℕ) (w_in : w < setting.workers) where
    pub worker_there : w < length s.tasks
    worker_there = let size = h.inv.sized.tasks in omega (arith, size, w_in)

    pub task_goes : (task : Task) → task_at s w ≡ task → Goes setting.calls task
    task_goes task at = subst (Goes setting.calls) at (All-get_or (Goes setting.calls) s.tasks w Idle worker_there h.go)

    pub task_few : (task : Task) → task_at s w ≡ task → HasFewKeys task
    task_few task at = subst HasFewKeys at (All-get_or HasFewKeys s.tasks w Idle worker_there h.few)

    pub named_there : (task : Task) (i : ℕ) → task_at s w ≡ task → named_by task ≡ Some i → i < length s.calls
    named_there task i at names = let within = h.inv.facts.named w i (ap named_by at ∙ names) in let size = h.inv.sized.calls in omega (arith, within, size)

  -- ---- an owed step keeps it

  pub sound_on : (w : ℕ) (s t : State) → w < setting.workers → due setting w s ≡ Some (Ok t) → IsSound setting s → IsSound setting t
  sound_on w s t w_in is h =
      let step = due_step setting.calls (task_at s w) in record {
        inv = worker_kept (block setting) setting.workers w s t h.inv w_in step is;
        go = made_goes setting.calls setting.store w s h.go (task_goes s h w w_in (task_at s w) refl) step t (made (block setting) w s t step is) refl;
        few = few_after setting w s t step h.inv w_in is h.few;
      }

  -- owed steps that continue from the states that others lead to
  pub comes_then : {P Q : State → Type 0} {n r k p : ℕ} {s : State} (m q : ℕ) → IsSound setting s → Comes setting P n r s → ((t : State) → IsSound setting t → P t → Comes setting Q m q t) → n + m ≤ k → r + q ≤ p → Comes setting Q k p s
  comes_then {s = s} m q h (comes_here e) f longer wider = comes_more (omega (arith, longer)) (omega (arith, wider)) (f s h e)
  comes_then {s = s} m q h (comes_on w a b t w_in is fewer room rest) f longer wider =
      comes_on w (a + m) (b + q) t w_in is (omega (arith, longer, fewer)) (omega (arith, wider, room)) (comes_then m q (sound_on w s t w_in is h) rest f (omega arith) (omega arith))
  comes_then m q h (meets_full w w_in refused over) f longer wider = meets_full w w_in refused (omega (arith, wider, over))
  comes_then m q h (meets_spent w w_in refused free) f longer wider = meets_spent w w_in refused free

  -- ---- an owed step

  -- what a worker owes by its task
  pub due_at : (w : ℕ) (s : State) (task : Task) → task_at s w ≡ task → due setting w s ≡ step_with (block setting) w task (due_step setting.calls task) s
  due_at w s task at = ap (λ t. step_with (block setting) w t (due_step setting.calls t) s) at

  module _ (w : ℕ) (w_in : w < setting.workers) (s : State) (h : IsSound setting s) where
    -- a step that is made and records nothing
    pub steps_on : {P : State → Type 0} {n r : ℕ} (m : ℕ) (t : State) → due setting w s ≡ Some (Ok t) → t.record_count ≡ s.record_count → m < n → (IsSound setting t → Comes setting P m r t) → Comes setting P n r s
    steps_on {r = r} m t is same fewer rest = comes_on w m r t w_in is fewer (omega (arith, same)) (rest (sound_on w s t w_in is h))

    module _ (i : ℕ) (low : setting.strict ≡ true → (call_at s i).incarnation < incarnation_limit) where
      -- if the incarnation is at the limit, `strict` is false
      not_strict : (b : Bool) → setting.strict ≡ b → nat_le incarnation_limit (call_at s i).incarnation ≡ true → setting.strict ≡ false
      not_strict false is spent = is
      not_strict true is spent = let below = not_le_is incarnation_limit (call_at s i).incarnation (low is) in cc

      -- a run that met an estimate is parked or starts again, or is refused
      parks_by : {P : State → Type 0} {n r : ℕ} (m : ℕ) (t : State) → t.record_count ≡ s.record_count → (spent : Bool) → nat_le incarnation_limit (call_at s i).incarnation ≡ spent → due setting w s ≡ (if spent then Some (Err IncarnationLimit) else Some (Ok t))
          → m < n → (IsSound setting t → Comes setting P m r t) → Comes setting P n r s
      parks_by m t same true at_limit is fewer rest = meets_spent w w_in is (not_strict setting.strict refl at_limit)
      parks_by m t same false at_limit is fewer rest = steps_on m t is same fewer rest

      pub parks_on : {P : State → Type 0} {n r : ℕ} (m : ℕ) (answers : List StorageAnswer) (b : ℕ) (t : State) → task_at s w ≡ Running i answers (Some b) → after_park w i b s ≡ t → t.record_count ≡ s.record_count
          → m < n → (IsSound setting (counted one_step w t) → Comes setting P m r (counted one_step w t)) → Comes setting P n r s
      parks_on m answers b t at is same fewer rest =
          parks_by m (counted one_step w t) same (nat_le incarnation_limit (call_at s i).incarnation) refl
          (due_at w s (Running i answers (Some b)) at ∙ ap (λ u. if nat_le incarnation_limit (call_at s i).incarnation then Some (Err IncarnationLimit) else Some (Ok (counted one_step w u))) is) fewer rest

      module _ (answers : List StorageAnswer) (receipt : Receipt) where
        -- the state after the run is recorded
        abbrev pub recorded_state : State
        recorded_state = counted one_execution w (after_record w i answers receipt s)

        -- a run that has ended is recorded, or refused
        records_by : {P : State → Type 0} {n k : ℕ} (m r : ℕ) → len receipt.writes ≤ 256 → (full spent : Bool) → nat_lt record_limit (s.record_count + len receipt.writes) ≡ full → nat_le incarnation_limit (call_at s i).incarnation ≡ spent
            → due setting w s ≡ (if full then Some (Err ArenaFull) else if spent then Some (Err IncarnationLimit) else Some (Ok recorded_state)) → m < n → r < k → (IsSound setting recorded_state → Comes setting P m r recorded_state) → Comes setting P n k s
        records_by m r few true spent is_full at_limit is fewer less rest = meets_full w w_in is (let over = lt_says record_limit (s.record_count + len receipt.writes) is_full in omega (arith, over, few, less))
        records_by m r few false true is_full at_limit is fewer less rest = meets_spent w w_in is (not_strict setting.strict refl at_limit)
        records_by m r few false false is_full at_limit is fewer less rest = comes_on w m r recorded_state w_in is fewer (omega (arith, few, less)) (rest (sound_on w s recorded_state w_in is h))

      pub records_on : {P : State → Type 0} {n k : ℕ} (m r : ℕ) (answers : List StorageAnswer) → task_at s w ≡ Running i answers None → asked_at (slice_get setting.calls i) (replies_of answers) ≡ None
          → m < n → r < k → ((receipt : Receipt) → IsSound setting (counted one_execution w (after_record w i answers receipt s)) → Comes setting P m r (counted one_execution w (after_record w i answers receipt s))) → Comes setting P n k s
      records_on m r answers at asks fewer less rest =
          let within = h.inv.facts.named w i (ap named_by at) in
          let call = call_there setting.calls i within in
          let ended = goes_last call.0 (replies_of answers) (task_goes s h w w_in (Running i answers None) at call.0 call.1) (ap (λ o. asked_at o (replies_of answers)) (sym call.1) ∙ asks) in
          let bears : (block setting).borne_out i (replies_of answers) ≡ Some ended.0 = ap (λ o. borne_out_by o (replies_of answers)) call.1 ∙ ended.1 in
          let small = borne_small setting i (replies_of answers) ended.0 bears in
          records_by answers ended.0 m r small.0 (nat_lt record_limit (s.record_count + len ended.0.writes)) (nat_le incarnation_limit (call_at s i).incarnation) refl refl
          (due_at w s (Running i answers None) at ∙ ap (λ o. step_with (block setting) w (Running i answers None) (due_step_of_run o) s) asks ∙ ap (λ o. record_within i answers w o s) bears)
          fewer less (rest ended.0)
