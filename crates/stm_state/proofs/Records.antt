-- Recording a run, whose keys must then be moved, keeps the invariant.
use Rattle.std.proofs.Common.{◌≡◌, ◌<◌, ◌⊎◌, ◌&&◌, ◌||◌, not, ℕ, Bool, true, false, is_some, option_map, List, length, Option, None, Some, arith, refl, sym, ap, subst, inl, inr, length-set}
use Rattle.std.specs.FinMap.{get}
use Rattle.rv_ledger.specs.Change.{ContentChange}
use Rattle.rv_ledger.specs.declared.receipt.Receipt.{Receipt}
use Rattle.rv_step.specs.Replies.{replies_of}
use Rattle.rv_step.specs.declared.answer.StorageAnswer.{StorageAnswer}
use Rattle.mvmap.specs.Versions.{Entry, Stands, Estimate, entry_at}
use Rattle.stm_state.specs.declared.state.Status.TheVariants.{Executing}
use Rattle.stm_state.specs.declared.state.CallState.{CallState}
use Rattle.stm_state.specs.declared.state.Task.{Task}
use Rattle.stm_state.specs.declared.state.Task.TheVariants.{Idle, Running, Moving}
use Rattle.stm_state.specs.Limits.{incarnation_limit}
use Rattle.stm_state.specs.State.{State, fresh, call_at, task_at}
use Rattle.stm_state.specs.Steps.{Block, has_new_key, keys_to_move, after_record, recorded_run, write_of}
use Rattle.stm_state.specs.Parts.{has_key}
use Rattle.stm_state.proofs.Invariant.{view_of, ViewInvariant, IsBorneOut, Invariant, IsMoved, IsUnmovedEntry, lowered_by, named_by, owned_by, run_by, turned_by}
use Rattle.stm_state.proofs.Lists.{set_at}
use Rattle.stm_state.proofs.OneCallChanges.{StatusOwes, entries_stay, keeps_unchecked, unturned_run}
use Rattle.stm_state.proofs.SafeReads.{others_kept}
use Rattle.stm_state.proofs.Tests.{resized}
use Rattle.stm_state.proofs.Asks.{same_entries}
use Rattle.stm_state.proofs.Writes.{distinct_to_move, to_move, no_new_key}

-- an entry whose key must be moved, before the first key is moved
unmoved_first : (o old : Option ContentChange) (entry : Option Entry) (there new : Bool) → entry ≡ option_map (λ c. Estimate) old → there ≡ (is_some o || (not (is_some o) && is_some old)) → (new ≡ false → is_some o ≡ true → is_some old ≡ true) → there ≡ true
    → IsUnmovedEntry new entry
unmoved_first None None entry there new at moves no_new is = cc
unmoved_first None (Some y) entry there new at moves no_new is = inl at
unmoved_first (Some x) (Some y) entry there new at moves no_new is = inl at
unmoved_first (Some x) None entry there true at moves no_new is = inr (at, refl)
unmoved_first (Some x) None entry there false at moves no_new is = let r : false ≡ true = no_new refl refl in cc

-- an entry before the first key is moved: it is what the run wrote there, or its key must still be moved
amid_first : (n : ℕ) (o old : Option ContentChange) (entry : Option Entry) (there new : Bool) → entry ≡ option_map (λ c. Estimate) old → there ≡ (is_some o || (not (is_some o) && is_some old)) → (new ≡ false → is_some o ≡ true → is_some old ≡ true)
    → (entry ≡ option_map (λ c. Stands n c) o) ⊎ ((there ≡ true) × IsUnmovedEntry new entry)
amid_first n None None entry there new at moves no_new = inl at
amid_first n None (Some y) entry there new at moves no_new = inr (moves, unmoved_first None (Some y) entry there new at moves no_new moves)
amid_first n (Some x) old entry there new at moves no_new = inr (moves, unmoved_first (Some x) old entry there new at moves no_new moves)

module _ (block : Block) (s : State) (w i : ℕ) (answers : List StorageAnswer) (receipt : Receipt) (f : ViewInvariant block (view_of s)) (runs : task_at s w ≡ Running i answers None) (w_in : w < length s.tasks) (i_in : i < length s.calls)
    (less : (call_at s i).incarnation < incarnation_limit) (borne_out : block.borne_out i (replies_of answers) ≡ Some receipt) where
  -- the worker runs call i
  has_i : owned_by (task_at s w) ≡ Some i
  has_i = ap owned_by runs

  is_executing : (call_at s i).status ≡ Executing
  is_executing = f.running w i (ap run_by runs)

  -- the call with its run
  abbrev kept : CallState
  kept = record (call_at s i) { last = Some (recorded_run answers receipt) }

  -- the keys to move, and whether one of them is new
  abbrev keys : List (List ℕ)
  keys = keys_to_move (call_at s i).last receipt.writes

  abbrev new_key : Bool
  new_key = has_new_key (call_at s i).last receipt.writes

  -- the task to move them
  abbrev task : Task
  task = Moving i keys new_key

  -- the state after the record
  abbrev after : State
  after = after_record w i answers receipt s

  -- call i has estimates at the keys of its last run
  old_entries : (key : List ℕ) → entry_at s.versions key i ≡ option_map (λ c. Estimate) (write_of (call_at s i).last key)
  old_entries key = same_entries block (view_of s) f i (λ h. let r = is_executing in cc) (unturned_run block (view_of s) f i w has_i (ap turned_by runs)) key

  -- its entries are on their way to what the run wrote
  is_moved : IsMoved kept (λ key. entry_at s.versions key i) keys new_key
  is_moved = record {
    run = (recorded_run answers receipt, refl);
    below = omega (arith, less);
    amid = λ key. amid_first (call_at s i).incarnation (get receipt.writes key) (write_of (call_at s i).last key) (entry_at s.versions key i) (has_key key keys) new_key (old_entries key) (to_move key (call_at s i).last receipt.writes) (no_new_key (call_at s i).last receipt.writes key);
    distinct = distinct_to_move (call_at s i).last receipt.writes;
    unmoved = λ key. unmoved_first (get receipt.writes key) (write_of (call_at s i).last key) (entry_at s.versions key i) (has_key key keys) new_key (old_entries key) (to_move key (call_at s i).last receipt.writes) (no_new_key (call_at s i).last receipt.writes key);
  }

  -- a record keeps the invariant
  pub recorded_facts : ViewInvariant block (view_of (after_record w i answers receipt s))
  recorded_facts = others_kept block (view_of s) (view_of after) i w kept task (record {
    calls = set_at s.calls i kept fresh i_in;
    tasks = set_at s.tasks w task Idle w_in;
    entries = entries_stay (view_of s) i kept;
    execution = inl (omega arith);
    validation = inl (omega arith);
    within = f.named w i (ap named_by runs);
    owner = inl has_i;
    by_task = (refl, is_executing, is_moved);
    by_status = subst (StatusOwes (view_of s) s.execution i kept task) (sym is_executing) (f.unparked i (λ h. let r = is_executing in cc), f.limit i);
    grows = inr (keeps_unchecked (call_at s i) kept (λ h. let r = is_executing in cc) (λ h. let r = is_executing in cc) refl);
    own_entries = λ ne. absurd (ne refl);
    recorded = λ run h. let same : recorded_run answers receipt ≡ run = cc in subst (λ r. IsBorneOut block (view_of s) i r) same (record {
      answers = answers;
      reads = refl;
      borne_out = borne_out;
      right = f.answered w i answers None runs;
    });
  }) f (λ h. let r = is_executing in cc) (λ j left failed ne h. cc) (inl (ap lowered_by runs)) (λ j read k. k)

-- recording keeps the invariant
pub record_kept : (block : Block) (workers w i : ℕ) (answers : List StorageAnswer) (receipt : Receipt) (s : State) → Invariant block workers s → w < workers → task_at s w ≡ Running i answers None → (call_at s i).incarnation < incarnation_limit → block.borne_out i (replies_of answers) ≡ Some receipt
    → Invariant block workers (after_record w i answers receipt s)
record_kept block workers w i answers receipt s h w_in runs less borne_out = record {
  sized = resized block.count workers s _ (length-set s.calls i _) (length-set s.tasks w _) refl refl h.sized;
  facts = recorded_facts block s w i answers receipt h.facts runs (let e = h.sized.tasks in omega (arith, e))
      (let within = h.facts.named w i (ap named_by runs) in let e = h.sized.calls in omega (arith, within, e)) less borne_out;
}
