-- Asking for work keeps the invariant.
use Rattle.std.proofs.Common.{◌≡◌, ◌<◌, ◌≢◌, ◌+◌, nat_lt, ℕ, Bool, true, false, List, [], length, None, arith, refl, sym, ap, ◌∙◌, inl, inr, length-set}
use Rattle.std.proofs.lemmas.Bool.{cases_eq, cond_both}
use Rattle.stm_state.specs.declared.state.Status.TheVariants.{Ready, Executing, Executed}
use Rattle.stm_state.specs.declared.state.CallState.{CallState}
use Rattle.stm_state.specs.declared.state.Task.{Task}
use Rattle.stm_state.specs.declared.state.Task.TheVariants.{Idle, Running, Validating}
use Rattle.stm_state.specs.State.{State, fresh, call_at, task_at, with_call, with_task, is_ready, is_executed, is_done}
use Rattle.stm_state.specs.Steps.{Block, recorded_reads, count_done, ask_validation, ask_execution, after_ask, version_of, write_of}
use Rattle.stm_state.specs.Parts.{IsStateSized}
use Rattle.stm_state.proofs.Invariant.{View, view_of, ViewInvariant, Invariant, IsUnturned, entry_by, lowered_by, owned_by}
use Rattle.stm_state.proofs.Lists.{stays_at, set_at}
use Rattle.stm_state.proofs.OneCallChanges.{Frame, entries_stay, keeps_itself, keeps_unchecked, still_executed, unturned}
use Rattle.stm_state.proofs.IndexChanges.{rested_facts}
use Rattle.stm_state.proofs.SafeReads.{cover_same, others_kept, safe_begun, safe_still}
use Rattle.stm_state.proofs.Tests.{is_ready_says, not_ready_says, is_executed_says, not_executed_says, lt_says, resized}

-- if a call is not EXECUTED and no worker turns its keys, its entries are estimates at the keys that its last run wrote
pub same_entries : (block : Block) (v : View) (f : ViewInvariant block v) (i : ℕ) → (v.calls i).status ≢ Executed → IsUnturned v i → (key : List ℕ) → v.entries key i ≡ entry_by false (v.calls i).incarnation (write_of (v.calls i).last key)
same_entries block v f i ne free key = f.entries i key free ∙ ap (λ b. entry_by b (v.calls i).incarnation (write_of (v.calls i).last key)) (go (is_executed (v.calls i).status) refl)
  where
    go : (b : Bool) → is_executed (v.calls i).status ≡ b → b ≡ false
    go true h = absurd (ne (is_executed_says (v.calls i).status h))
    go false h = refl

-- the entries of an EXECUTED call are the versions of its recorded run
pub executed_entries : (block : Block) (v : View) (f : ViewInvariant block v) (i : ℕ) → (v.calls i).status ≡ Executed → (key : List ℕ) → v.entries key i ≡ version_of (v.calls i) key
executed_entries block v f i done key =
    f.entries i key (unturned block v f i (λ h. cc) (λ h. cc)) ∙ ap (λ st. entry_by (is_executed st) (v.calls i).incarnation (write_of (v.calls i).last key)) done

module _ (block : Block) (s : State) (w : ℕ) (f : ViewInvariant block (view_of s)) (idle : task_at s w ≡ Idle) (w_in : w < length s.tasks) where
  -- the task to validate call i
  abbrev to_check : ℕ → Task
  to_check i = Validating i (call_at s i).incarnation (length (recorded_reads (call_at s i).last)) false

  -- what changes when a validation begins
  validation_move : (i : ℕ) → i ≡ s.validation → i < s.execution → (call_at s i).status ≡ Executed
      → Frame block (view_of s) (view_of (with_task w (to_check i) (record s { validation = i + 1 }))) i w (call_at s i) (to_check i)
  validation_move i at below done = record {
    calls = stays_at (call_at s) i;
    tasks = set_at s.tasks w (to_check i) Idle w_in;
    entries = entries_stay (view_of s) i (call_at s i);
    execution = inl (omega arith);
    validation = inr (sym at, refl);
    within = let within = f.execution_within in omega (arith, within, below);
    owner = inr (ap owned_by idle, λ h. cc, λ h. cc);
    by_task = (refl, λ h. cc, refl, inl (done, omega arith));
    by_status = still_executed block (view_of s) f i (to_check i) done;
    grows = inr (keeps_itself (call_at s i));
    own_entries = λ _ key. f.entries i key (unturned block (view_of s) f i (λ h. cc) (λ h. cc));
    recorded = f.recorded i;
  }

  -- a validation may begin, since it covers all reads of its call
  validation_begun : (i : ℕ) → i ≡ s.validation → i < s.execution → (call_at s i).status ≡ Executed → ViewInvariant block (view_of (with_task w (to_check i) (record s { validation = i + 1 })))
  validation_begun i at below done =
      let m = validation_move i at below done in
      let u : View = view_of (with_task w (to_check i) (record s { validation = i + 1 })) in
      others_kept block (view_of s) u i w (call_at s i) (to_check i) m f (λ _ _. safe_begun u i w m.tasks.there)
      (λ j left failed ne h. cc) (inl (ap lowered_by idle)) (λ j read k. k)

  -- the validation index may pass a call that is not EXECUTED
  validation_passed : (i : ℕ) → i ≡ s.validation → i < s.execution → (call_at s i).status ≢ Executed → ViewInvariant block (view_of (record s { validation = i + 1 }))
  validation_passed i at below ne = rested_facts block (view_of s) (task_at s) s.execution (i + 1) f (λ x. inl refl) f.execution_within (let within = f.execution_within in omega (arith, within)) f.ready
      (λ j h l. elim (cases_eq j i) [
        | inl e ↦ absurd (ne (ap (λ x. (call_at s x).status) (sym e) ∙ h))
        | inr other ↦ safe_still (view_of s) (view_of (record s { validation = i + 1 })) j refl (λ read k. k) (λ place read at covered. inr (cover_same (view_of s) (view_of (record s { validation = i + 1 })) j refl (λ x. refl) place covered)) (f.safe j h (omega (arith, at)))
      ])

  -- asking for a validation keeps the invariant
  pub validation_kept : s.validation < s.execution → ViewInvariant block (view_of (ask_validation w s))
  unfolding ask_validation
  validation_kept below = cond_both (is_executed (call_at s s.validation).status) _ _ (λ t. ViewInvariant block (view_of t))
      (λ h. validation_begun s.validation refl below (is_executed_says (call_at s s.validation).status h))
      (λ h. validation_passed s.validation refl below (not_executed_says (call_at s s.validation).status h))

  -- call i once a worker runs it
  abbrev begun : ℕ → CallState
  begun i = record (call_at s i) { status = Executing }

  abbrev after_begin : ℕ → State
  after_begin i = with_task w (Running i [] None) (with_call i (begun i) (record s { execution = i + 1 }))

  -- an execution may begin
  execution_begun : (i : ℕ) → i ≡ s.execution → i < length s.calls → i < block.count → (call_at s i).status ≡ Ready → ViewInvariant block (view_of (after_begin i))
  execution_begun i at i_in within ready = others_kept block (view_of s) (view_of (after_begin i)) i w (begun i) (Running i [] None) (record {
    calls = set_at s.calls i (begun i) fresh i_in;
    tasks = set_at s.tasks w (Running i [] None) Idle w_in;
    entries = entries_stay (view_of s) i (begun i);
    execution = inr (sym at, refl);
    validation = inl (omega arith);
    within = within;
    owner = inr (ap owned_by idle, λ h. cc, λ h. cc);
    by_task = (refl, refl, λ b h. cc, tt);
    by_status = (f.unparked i (λ h. cc), f.limit i);
    grows = inr (keeps_unchecked (call_at s i) (begun i) (λ h. cc) (λ h. cc) refl);
    own_entries = λ _. same_entries block (view_of s) f i (λ h. cc) (unturned block (view_of s) f i (λ h. cc) (λ h. cc));
    recorded = f.recorded i;
  }) f (λ h. cc) (λ j left failed ne h. cc) (inl (ap lowered_by idle)) (λ j read k. k)

  -- the execution index may pass a call that is not READY
  execution_passed : (i : ℕ) → i ≡ s.execution → i < block.count → (call_at s i).status ≢ Ready → ViewInvariant block (view_of (record s { execution = i + 1 }))
  execution_passed i at within ne = rested_facts block (view_of s) (task_at s) (i + 1) s.validation f (λ x. inl refl) (omega (arith, within)) f.validation_within
      (λ j h. let low = f.ready j h in let other : j ≢ i = λ e. ne (ap (λ x. (call_at s x).status) (sym e) ∙ h) in omega (arith, low, at, other))
      (λ j h l. safe_still (view_of s) (view_of (record s { execution = i + 1 })) j refl (λ read k. k) (λ place read at covered. inr (cover_same (view_of s) (view_of (record s { execution = i + 1 })) j refl (λ x. refl) place covered)) (f.safe j h l))

  -- asking for an execution keeps the invariant
  pub execution_kept : s.execution < length s.calls → s.execution < block.count → ViewInvariant block (view_of (ask_execution w s))
  unfolding ask_execution
  execution_kept i_in within = cond_both (is_ready (call_at s s.execution).status) _ _ (λ t. ViewInvariant block (view_of t))
      (λ h. execution_begun s.execution refl i_in within (is_ready_says (call_at s s.execution).status h))
      (λ h. execution_passed s.execution refl within (not_ready_says (call_at s s.execution).status h))

-- asking for a validation keeps the sizes
validation_sized : (count workers w : ℕ) (s : State) → IsStateSized count workers s → IsStateSized count workers (ask_validation w s)
unfolding ask_validation
validation_sized count workers w s h = cond_both (is_executed (call_at s s.validation).status) _ _ (λ t. IsStateSized count workers t)
    (λ _. resized count workers s _ refl (length-set s.tasks w _) refl refl h) (λ _. resized count workers s _ refl refl refl refl h)

-- asking for an execution keeps the sizes
execution_sized : (count workers w : ℕ) (s : State) → IsStateSized count workers s → IsStateSized count workers (ask_execution w s)
unfolding ask_execution
execution_sized count workers w s h = cond_both (is_ready (call_at s s.execution).status) _ _ (λ t. IsStateSized count workers t)
    (λ _. resized count workers s _ (length-set s.calls s.execution _) (length-set s.tasks w _) refl refl h) (λ _. resized count workers s _ refl refl refl refl h)

-- the answer Done keeps the invariant
told : (block : Block) (workers w : ℕ) (s : State) → Invariant block workers s → Invariant block workers (count_done w s)
told block workers w s h = record { sized = resized block.count workers s _ refl refl refl (length-set s.dones w _) h.sized; facts = h.facts }

-- asking for work keeps the invariant
pub ask_kept : (block : Block) (workers w : ℕ) (s : State) → Invariant block workers s → w < workers → task_at s w ≡ Idle → Invariant block workers (after_ask w s)
ask_kept block workers w s h w_in idle =
    let w_there : w < length s.tasks = let e = h.sized.tasks in omega (arith, e) in
    cond_both (is_done s) _ _ (λ t. Invariant block workers t)
    (λ _. told block workers w s h)
    (λ _. cond_both (nat_lt s.validation s.execution) _ _ (λ t. Invariant block workers t)
    (λ l. record { sized = validation_sized block.count workers w s h.sized; facts = validation_kept block s w h.facts idle w_there (lt_says s.validation s.execution l) })
    (λ _. cond_both (nat_lt s.execution (length s.calls)) _ _ (λ t. Invariant block workers t)
    (λ l. let i_in = lt_says s.execution (length s.calls) l in record {
      sized = execution_sized block.count workers w s h.sized;
      facts = execution_kept block s w h.facts idle w_there i_in (let e = h.sized.calls in omega (arith, e, i_in));
    })
    (λ _. h)))
