-- Deciding a validation, and finishing an abort, keep the invariant.
use Rattle.std.proofs.Common.{◌≡◌, ◌<◌, ◌≤◌, ◌⊎◌, ◌+◌, ◌&&◌, min, nat_lt, ℕ, Bool, true, false, is_some, option_map, List, [], length, Option, None, Some, arith, refl, sym, ap, ◌∙◌, inl, inr, length-set}
use Rattle.std.proofs.lemmas.Bool.{cond_both, and_parts, and_cases}
use Rattle.rv_ledger.specs.Change.{ContentChange}
use Rattle.mvmap.specs.Versions.{Entry, Stands, Estimate, entry_at}
use Rattle.stm_state.specs.declared.state.Status.{Status}
use Rattle.stm_state.specs.declared.state.Status.TheVariants.{Ready, Executing, Executed, Aborting}
use Rattle.stm_state.specs.declared.state.CallState.{CallState}
use Rattle.stm_state.specs.declared.state.Task.{Task}
use Rattle.stm_state.specs.declared.state.Task.TheVariants.{Idle, Running, Validating, Marking}
use Rattle.stm_state.specs.Limits.{incarnation_limit}
use Rattle.stm_state.specs.State.{State, fresh, call_at, task_at, with_call, with_task, is_executed}
use Rattle.stm_state.specs.Steps.{Block, written_by, keys_of, next_incarnation, is_executed_at, after_decide, after_finish_abort, write_of}
use Rattle.stm_state.specs.Parts.{IsStateSized, has_key}
use Rattle.stm_state.proofs.Invariant.{view_of, ViewInvariant, Invariant, IsMarked, IsUnmarkedEntry, entry_by, estimate_of, lowered_by, named_by, owned_by}
use Rattle.stm_state.proofs.Lists.{set_at}
use Rattle.stm_state.proofs.OneCallChanges.{StatusOwes, TaskOwes, entries_stay}
use Rattle.stm_state.proofs.SafeReads.{others_kept}
use Rattle.stm_state.proofs.Asks.{executed_entries}
use Rattle.stm_state.proofs.Checks.{executed_at_says, ends}
use Rattle.stm_state.proofs.KeyTargets.{amid_end}
use Rattle.stm_state.proofs.Tests.{not_lt_says, resized}
use Rattle.stm_state.proofs.Writes.{at_key_last}

-- an entry before the first key is marked: none if the run wrote nothing there, otherwise a version that must be marked
amid_first : (n : ℕ) (o : Option ContentChange) (entry : Option Entry) (there : Bool) → entry ≡ option_map (λ c. Stands n c) o → there ≡ is_some o → (entry ≡ option_map (λ c. Estimate) o) ⊎ ((there ≡ true) × IsUnmarkedEntry n entry)
amid_first n None entry there at is = inl at
amid_first n (Some x) entry there at is = inr (is, (x, at))

-- an optional change that is there is Some of a change
change_of : (o : Option ContentChange) → is_some o ≡ true → (c : ContentChange) × (o ≡ Some c)
change_of None h = cc
change_of (Some x) h = (x, refl)

-- ---- deciding

module _ (block : Block) (s : State) (w i n left : ℕ) (failed : Bool) (f : ViewInvariant block (view_of s)) (checks : task_at s w ≡ Validating i n left failed) (w_in : w < length s.tasks) (i_in : i < length s.calls) (done : (call_at s i).status ≡ Executed) where
  -- the call that is aborted, and the keys that it wrote
  abbrev taken : CallState
  taken = record (call_at s i) { status = Aborting }

  abbrev keys : List (List ℕ)
  keys = keys_of (written_by (call_at s i).last)

  abbrev after : State
  after = with_task w (Marking i keys) (with_call i taken s)

  is_unparked : (call_at s i).parked ≡ None
  is_unparked = f.unparked i (λ h. cc)

  -- its entries are on their way to estimates
  is_marked : IsMarked taken (λ key. entry_at s.versions key i) keys
  is_marked = record {
    aborting = refl;
    unparked = is_unparked;
    written = λ key h. change_of (write_of (call_at s i).last key) (sym (at_key_last key (call_at s i).last) ∙ h);
    amid = λ key. amid_first (call_at s i).incarnation (write_of (call_at s i).last key) (entry_at s.versions key i) (has_key key keys) (executed_entries block (view_of s) f i done key) (at_key_last key (call_at s i).last);
  }

  -- aborting a call keeps the invariant: what other tasks must still meet stays
  taken_facts : ViewInvariant block (view_of (with_task w (Marking i keys) (with_call i taken s)))
  taken_facts = others_kept block (view_of s) (view_of after) i w taken (Marking i keys) (record {
    calls = set_at s.calls i taken fresh i_in;
    tasks = set_at s.tasks w (Marking i keys) Idle w_in;
    entries = entries_stay (view_of s) i taken;
    execution = inl (omega arith);
    validation = inl (omega arith);
    within = f.named w i (ap named_by checks);
    owner = inr (ap owned_by checks, λ h. cc, λ h. cc);
    by_task = (refl, is_marked);
    by_status = (f.executed_limit i done, inr refl);
    grows = inr (record { same = refl; aborting = λ h. refl; checked = λ k h. inr (refl, is_unparked) });
    own_entries = λ ne. absurd (ne refl);
    recorded = f.recorded i;
  }) f (λ h. cc) (λ j k b ne h. let same : i ≡ j = cc in ne (sym same)) (inl (ap lowered_by checks)) (λ j read k. k)

-- a decision keeps the invariant
pub decide_kept : (block : Block) (workers w i n left : ℕ) (failed : Bool) (s : State) → Invariant block workers s → w < workers → task_at s w ≡ Validating i n left failed → (failed ≡ false → left ≡ 0) → Invariant block workers (after_decide w i n failed s)
unfolding after_decide
decide_kept block workers w i n left failed s h w_in checks last =
    let w_there : w < length s.tasks = let e = h.sized.tasks in omega (arith, e) in
    let i_there : i < length s.calls = let within = h.facts.named w i (ap named_by checks) in let e = h.sized.calls in omega (arith, within, e) in
    cond_both (failed && is_executed_at n (call_at s i)) _ _ (λ t. Invariant block workers t)
    (λ both. record {
      sized = resized block.count workers s _ (length-set s.calls i _) (length-set s.tasks w _) refl refl h.sized;
      facts = taken_facts block s w i n left failed h.facts checks w_there i_there (executed_at_says n (call_at s i) (and_parts failed (is_executed_at n (call_at s i)) both).1).0;
    })
    (λ not_both. record {
      sized = resized block.count workers s _ refl (length-set s.tasks w _) refl refl h.sized;
      facts = ends block s w i n left failed h.facts checks w_there (λ is. elim (and_cases failed (is_executed_at n (call_at s i)) not_both) [ inl stood ↦ (stood, last stood) | inr other ↦ cc ]);
    })

-- ---- finishing an abort

module _ (block : Block) (s : State) (w i : ℕ) (f : ViewInvariant block (view_of s)) (marks : task_at s w ≡ Marking i []) (w_in : w < length s.tasks) (i_in : i < length s.calls) where
  -- all its keys are marked
  all_marked : IsMarked (call_at s i) (λ key. entry_at s.versions key i) []
  all_marked = f.marking w i [] marks

  has_estimates : (key : List ℕ) → entry_at s.versions key i ≡ estimate_of (call_at s i) key
  has_estimates key = amid_end (estimate_of (call_at s i)) (λ k entry. IsUnmarkedEntry (call_at s i).incarnation entry) (λ k. entry_at s.versions k i) all_marked.amid key

  -- the call at its next incarnation, with this status
  abbrev again : Status → CallState
  again status = record (next_incarnation (call_at s i)) { status = status }

  -- the state in which the call is READY or run again
  abbrev resumed : Task → Status → State
  resumed task status = with_task w task (with_call i (again status) (record s { validation = min s.validation (i + 1) }))

  -- its next incarnation is within the limit
  below : (call_at s i).incarnation + 1 ≤ incarnation_limit
  below = let low = f.aborting_limit i all_marked.aborting in omega (arith, low)

  -- finishing an abort keeps the invariant, since higher calls are at or above the validation index
  resumes : (task : Task) (status : Status) → is_executed status ≡ false → TaskOwes block (view_of s) (entry_at s.versions) i (again status) task → StatusOwes (view_of s) s.execution i (again status) task status
      → ViewInvariant block (view_of (resumed task status))
  resumes task status open_ by_task by_status = others_kept block (view_of s) (view_of (resumed task status)) i w (again status) task (record {
    calls = set_at s.calls i (again status) fresh i_in;
    tasks = set_at s.tasks w task Idle w_in;
    entries = entries_stay (view_of s) i (again status);
    execution = inl (omega arith);
    validation = inl (omega arith);
    within = f.named w i (ap named_by marks);
    owner = inl (ap owned_by marks);
    by_task = by_task;
    by_status = by_status;
    grows = inl (omega arith);
    own_entries = λ _ key. has_estimates key ∙ ap (λ b. entry_by b ((call_at s i).incarnation + 1) (write_of (call_at s i).last key)) (sym open_);
    recorded = f.recorded i;
  }) f (λ h. let r : is_executed status ≡ true = ap is_executed h in cc) (λ j k b ne h. cc) (inr (omega arith)) (λ j read k. k)

  -- finishing an abort keeps the invariant, whether the call is run again at once or becomes READY
  aborted_facts : ViewInvariant block (view_of (after_finish_abort w i s))
  unfolding after_finish_abort
  aborted_facts = cond_both (nat_lt i s.execution) _ _ (λ t. ViewInvariant block (view_of t))
      (λ l. resumes (Running i [] None) Executing refl (refl, refl, λ b h. cc, tt) (refl, below))
      (λ l. resumes Idle Ready refl (λ h. cc) (not_lt_says i s.execution l, refl, below))

-- finishing an abort keeps the sizes
aborted_sized : (count workers w i : ℕ) (s : State) → IsStateSized count workers s → IsStateSized count workers (after_finish_abort w i s)
unfolding after_finish_abort
aborted_sized count workers w i s h = cond_both (nat_lt i s.execution) _ _ (λ t. IsStateSized count workers t)
    (λ _. resized count workers s _ (length-set s.calls i _) (length-set s.tasks w _) refl refl h)
    (λ _. resized count workers s _ (length-set s.calls i _) (length-set s.tasks w _) refl refl h)

-- finishing an abort keeps the invariant
pub abort_kept : (block : Block) (workers w i : ℕ) (s : State) → Invariant block workers s → w < workers → task_at s w ≡ Marking i [] → Invariant block workers (after_finish_abort w i s)
abort_kept block workers w i s h w_in marks = record {
  sized = aborted_sized block.count workers w i s h.sized;
  facts = aborted_facts block s w i h.facts marks (let e = h.sized.tasks in omega (arith, e))
      (let within = h.facts.named w i (ap named_by marks) in let e = h.sized.calls in omega (arith, within, e));
}
