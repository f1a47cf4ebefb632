-- Checking a read of a call, and ending a validation, keep the invariant.
use Rattle.std.proofs.Common.{◌≡◌, ◌<◌, ◌≤◌, ◌≢◌, ◌⊎◌, ◌+◌, ◌-◌, ◌==◌, ℕ, suc, Bool, true, false, length, slice_get, None, Some, arith, refl, sym, ap, subst, ◌∙◌, inl, inr, length-set}
use Rattle.std.proofs.lemmas.Bool.{cases_eq, cases_lt, cond_both, and_parts, and_from}
use Rattle.std.proofs.lemmas.List.{get_or-set_same, get_or-set_other}
use Rattle.std.proofs.lemmas.Option.{slice_get_within}
use Rattle.read_set.specs.declared.Read.{Read}
use Rattle.mvmap.specs.Versions.{entry_at}
use Rattle.mvmap.specs.Reading.{stands_among}
use Rattle.stm_state.specs.declared.state.Status.TheVariants.{Executed}
use Rattle.stm_state.specs.declared.state.CallState.{CallState}
use Rattle.stm_state.specs.declared.state.Task.{Task}
use Rattle.stm_state.specs.declared.state.Task.TheVariants.{Idle, Validating}
use Rattle.stm_state.specs.State.{State, call_at, task_at, with_task, is_executed}
use Rattle.stm_state.specs.Steps.{Block, recorded_reads, is_executed_at, read_stands, next_stands, after_check_read}
use Rattle.stm_state.proofs.Invariant.{view_of, ViewInvariant, AreSafe, Invariant, IsChecked, IsCovered, validated, ahead, lowered_by, named_by, owned_by}
use Rattle.stm_state.proofs.Lists.{stays_at, set_at}
use Rattle.stm_state.proofs.OneCallChanges.{Frame, frame_kept, entries_stay, keeps_itself, still_executed, unturned}
use Rattle.stm_state.proofs.IndexChanges.{rested_facts}
use Rattle.stm_state.proofs.SafeReads.{checked_on, safe_still}
use Rattle.stm_state.proofs.Tests.{is_executed_says, equal_says, equal_itself, resized}

-- what holds if `is_executed_at` is true
pub executed_at_says : (n : ℕ) (call : CallState) → is_executed_at n call ≡ true → (call.status ≡ Executed) × (call.incarnation ≡ n)
executed_at_says n call h = let both = and_parts (is_executed call.status) (call.incarnation == n) h in (is_executed_says call.status both.0, equal_says call.incarnation n both.1)

pub executed_at_is : (n : ℕ) (call : CallState) → call.status ≡ Executed → n ≡ call.incarnation → is_executed_at n call ≡ true
executed_at_is n call done at = and_from (is_executed call.status) (call.incarnation == n) (ap is_executed done) (ap (λ x. call.incarnation == x) at ∙ equal_itself call.incarnation)

module _ (block : Block) (s : State) (w i n left : ℕ) (failed : Bool) (f : ViewInvariant block (view_of s)) (checks : task_at s w ≡ Validating i n left failed) (w_in : w < length s.tasks) where
  -- the worker's task does not lower the validation index
  lowers_none : (j : ℕ) → lowered_by (task_at s w) ≢ Some j
  lowers_none j h = let none : lowered_by (task_at s w) ≡ None = ap lowered_by checks in cc

  -- the worker's task is the validation of call i at incarnation n, with these numbers
  pub own_task : (j m k : ℕ) (b : Bool) → task_at s w ≡ Validating j m k b → (i ≡ j) × (n ≡ m) × (left ≡ k) × (failed ≡ b)
  own_task j m k b h = (cc, cc, cc, cc)

  -- the state with another task of the worker
  abbrev after : Task → State
  after task = with_task w task s

  -- a read of a call that had to be met stands or must still be met, if this holds of each read that this task had to meet
  cover_on : (task : Task) (j place : ℕ) (read : Read)
      → ((k : ℕ) (b : Bool) → task_at s w ≡ Validating j (call_at s j).incarnation k b → (b ≡ true) ⊎ (length (recorded_reads (call_at s j).last) ≤ place + k) → (stands_among (entry_at s.versions) j read ≡ true) ⊎ IsCovered (view_of (after task)) j place)
      → IsCovered (view_of s) j place → (stands_among (entry_at s.versions) j read ≡ true) ⊎ IsCovered (view_of (after task)) j place
  cover_on task j place read own (validated x k b at meets) = elim (cases_eq x w) [
    | inl e ↦ own k b (ap (task_at s) (sym e) ∙ at) meets
    | inr ne ↦ inr (checked_on (view_of s) (view_of (after task)) j x k place b refl (get_or-set_other s.tasks w x task Idle ne ∙ at) meets)
  ]
  cover_on task j place read own (ahead q) = elim (cases_eq q.worker w) [
    | inl e ↦ absurd (lowers_none q.call (ap (λ y. lowered_by (task_at s y)) (sym e) ∙ q.task))
    | inr ne ↦ inr (ahead (record { worker = q.worker; call = q.call; task = ap lowered_by (get_or-set_other s.tasks w q.worker task Idle ne) ∙ q.task; lower = q.lower }))
  ]

  -- ---- the task ends

  -- each task is as before, or it ended and owned no call
  ended_tasks : (x : ℕ) → (task_at (after Idle) x ≡ task_at s x) ⊎ ((task_at (after Idle) x ≡ Idle) × (owned_by (task_at s x) ≡ None))
  ended_tasks x = elim (cases_eq x w) [
    | inl e ↦ inr (ap (task_at (after Idle)) e ∙ get_or-set_same s.tasks w Idle Idle w_in, ap (λ y. owned_by (task_at s y)) e ∙ ap owned_by checks)
    | inr ne ↦ inl (get_or-set_other s.tasks w x Idle Idle ne)
  ]

  -- the task has nothing more to meet: the call is not EXECUTED at the incarnation, or each read that was checked stood and none
  -- is left
  abbrev pub HasNoMore : Type 0
  HasNoMore = is_executed_at n (call_at s i) ≡ true → (failed ≡ false) × (left ≡ 0)

  -- such a task meets no read of an EXECUTED call
  meets_none : HasNoMore → (j place k : ℕ) (b : Bool) (read : Read) → (call_at s j).status ≡ Executed → slice_get (recorded_reads (call_at s j).last) place ≡ Some read → task_at s w ≡ Validating j (call_at s j).incarnation k b
      → (b ≡ true) ⊎ (length (recorded_reads (call_at s j).last) ≤ place + k) → ⊥
  meets_none no_more j place k b read done at task meets =
      let own = own_task j (call_at s j).incarnation k b task in
      let same_left = own.2 in
      let same_failed = own.3 in
      let none = no_more (ap (λ y. is_executed_at n (call_at s y)) own.0 ∙ executed_at_is n (call_at s j) done own.1) in
      let none_left = none.1 in
      let none_failed = none.0 in
      let within = slice_get_within (recorded_reads (call_at s j).last) place read at in
      elim meets [ inl bad ↦ cc | inr late ↦ omega (arith, late, same_left, none_left, within) ]

  -- the task may end if it has nothing more to meet
  pub ends : HasNoMore → ViewInvariant block (view_of (with_task w Idle s))
  ends no_more = rested_facts block (view_of s) (task_at (after Idle)) s.execution s.validation f ended_tasks f.execution_within f.validation_within f.ready
      (λ j h l. safe_still (view_of s) (view_of (after Idle)) j refl (λ read k. k)
      (λ place read at. cover_on Idle j place read (λ k b task meets. absurd (meets_none no_more j place k b read h at task meets))) (f.safe j h l))

  -- ---- the task continues

  -- what a check changes
  check_frame : (k : ℕ) (b : Bool) → (call_at s i).status ≡ Executed → (call_at s i).incarnation ≡ n → k ≤ length (recorded_reads (call_at s i).last) → Frame block (view_of s) (view_of (after (Validating i n k b))) i w (call_at s i) (Validating i n k b)
  check_frame k b done at few = record {
    calls = stays_at (call_at s) i;
    tasks = set_at s.tasks w (Validating i n k b) Idle w_in;
    entries = entries_stay (view_of s) i (call_at s i);
    execution = inl (omega arith);
    validation = inl (omega arith);
    within = f.named w i (ap named_by checks);
    owner = inr (ap owned_by checks, λ h. cc, λ h. cc);
    by_task = (refl, λ h. cc, sym at, inl (done, few));
    by_status = still_executed block (view_of s) f i (Validating i n k b) done;
    grows = inr (keeps_itself (call_at s i));
    own_entries = λ _ key. f.entries i key (unturned block (view_of s) f i (λ h. cc) (λ h. cc));
    recorded = f.recorded i;
  }

  module _ (k : ℕ) (b : Bool) (is : is_executed_at n (call_at s i) ≡ true) (fewer : k ≤ left) (stays : failed ≡ true → b ≡ true)
      (meet : (place : ℕ) (read : Read) → slice_get (recorded_reads (call_at s i).last) place ≡ Some read → length (recorded_reads (call_at s i).last) ≤ place + left → (stands_among (entry_at s.versions) i read ≡ true) ⊎ ((b ≡ true) ⊎ (length (recorded_reads (call_at s i).last) ≤ place + k))) where
    -- the validation after the check
    abbrev task : Task
    task = Validating i n k b

    -- the call is EXECUTED at the incarnation
    at : ((call_at s i).status ≡ Executed) × ((call_at s i).incarnation ≡ n)
    at = executed_at_says n (call_at s i) is

    -- the call has at least k reads
    few : IsChecked (call_at s i) left → k ≤ length (recorded_reads (call_at s i).last)
    few (inl q) = let most = q.1 in omega (arith, most, fewer)
    few (inr q) = let other = q.0 in let done = at.0 in cc

    -- the task validates the call at its incarnation
    now : task_at (after task) w ≡ Validating i (call_at s i).incarnation k b
    now = get_or-set_same s.tasks w task Idle w_in ∙ ap (λ x. Validating i x k b) (sym at.1)

    -- what the task had to meet stands, or the task must still meet it
    meets_still : (j : ℕ) → i ≡ j → (place x : ℕ) (y : Bool) (read : Read) → left ≡ x → failed ≡ y → slice_get (recorded_reads (call_at s j).last) place ≡ Some read → (y ≡ true) ⊎ (length (recorded_reads (call_at s j).last) ≤ place + x)
        → (stands_among (entry_at s.versions) j read ≡ true) ⊎ IsCovered (view_of (after task)) j place
    meets_still j same = subst (λ j. (place x : ℕ) (y : Bool) (read : Read) → left ≡ x → failed ≡ y → slice_get (recorded_reads (call_at s j).last) place ≡ Some read → (y ≡ true) ⊎ (length (recorded_reads (call_at s j).last) ≤ place + x)
        → (stands_among (entry_at s.versions) j read ≡ true) ⊎ IsCovered (view_of (after task)) j place) same
        (λ place x y read same_left same_failed there meets. elim meets [
          | inl bad ↦ inr (validated w k b now (inl (stays (same_failed ∙ bad))))
          | inr late ↦ elim (meet place read there (omega (arith, late, same_left))) [ inl stand ↦ inl stand | inr again ↦ inr (validated w k b now again) ]
        ])

    -- the invariant is kept if k reads are left to check and each read that is no longer left stands, or if the validation fails
    pub goes : ViewInvariant block (view_of (with_task w (Validating i n k b) s))
    goes =
        let m = check_frame k b at.0 at.1 (few (f.current w i left failed (checks ∙ ap (λ x. Validating i x left failed) (sym at.1)))) in
        let safe : (j : ℕ) → (call_at s j).status ≡ Executed → j < s.validation → AreSafe (view_of (after task)) j = λ j h l.
        safe_still (view_of s) (view_of (after task)) j refl (λ read q. q)
        (λ place read there. cover_on task j place read (λ x y own meets. let same = own_task j (call_at s j).incarnation x y own in meets_still j same.0 place x y read same.2 same.3 there meets)) (f.safe j h l) in
        frame_kept block (view_of s) (view_of (after task)) i w (call_at s i) task m f (safe i) (λ j _. safe j)

-- ---- a check of a read

-- if the next read stands, each read that is left to check stands or is left afterwards
next_met : (s : State) (i left : ℕ) → next_stands i (suc left) s ≡ true → (place : ℕ) (read : Read) → slice_get (recorded_reads (call_at s i).last) place ≡ Some read → length (recorded_reads (call_at s i).last) ≤ place + suc left
    → (stands_among (entry_at s.versions) i read ≡ true) ⊎ ((false ≡ true) ⊎ (length (recorded_reads (call_at s i).last) ≤ place + left))
next_met s i left stand place read at late = elim (cases_lt (place + left) (length (recorded_reads (call_at s i).last))) [
  | inl first ↦
      let same : place ≡ length (recorded_reads (call_at s i).last) - suc left = omega (arith, late, first) in
      inl (sym (ap (read_stands s.versions i) (ap (slice_get (recorded_reads (call_at s i).last)) (sym same) ∙ at)) ∙ stand)
  | inr later ↦ inr (inr later)
]

-- a check of a read keeps the invariant
pub check_kept : (block : Block) (workers w i n left : ℕ) (s : State) → Invariant block workers s → w < workers → task_at s w ≡ Validating i n (suc left) false → Invariant block workers (after_check_read w i n left s)
unfolding after_check_read
check_kept block workers w i n left s h w_in checks =
    let w_there : w < length s.tasks = let e = h.sized.tasks in omega (arith, e) in
    cond_both (is_executed_at n (call_at s i)) _ _ (λ t. Invariant block workers t)
    (λ is. cond_both (next_stands i (suc left) s) _ _ (λ t. Invariant block workers t)
    (λ stand. record {
      sized = resized block.count workers s _ refl (length-set s.tasks w _) refl refl h.sized;
      facts = goes block s w i n (suc left) false h.facts checks w_there left false is (omega arith) (λ k. k) (next_met s i left stand);
    })
    (λ _. record {
      sized = resized block.count workers s _ refl (length-set s.tasks w _) refl refl h.sized;
      facts = goes block s w i n (suc left) false h.facts checks w_there (suc left) true is (omega arith) (λ k. refl) (λ place read at late. inr (inl refl));
    }))
    (λ none. record {
      sized = resized block.count workers s _ refl (length-set s.tasks w _) refl refl h.sized;
      facts = ends block s w i n (suc left) false h.facts checks w_there (λ is. cc);
    })
