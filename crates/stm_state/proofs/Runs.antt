-- A run that is answered, is blocked, starts again or is parked keeps the invariant.
use Rattle.std.proofs.Common.{◌≡◌, ◌<◌, ◌≢◌, ◌++◌, ℕ, List, [], ◌∷◌, length, Option, None, Some, arith, refl, ap, inl, inr, length-set}
use Rattle.std.specs.List.{AllByRecursion}
use Rattle.std.specs.FinMap.{get}
use Rattle.std.proofs.lemmas.Bool.{cond_both}
use Rattle.read_set.specs.Origin.{named}
use Rattle.read_set.specs.declared.origin.Version.{Version}
use Rattle.rv_step.specs.declared.answer.StorageAnswer.{StorageAnswer}
use Rattle.mvmap.specs.Versions.{entry_at}
use Rattle.mvmap.specs.Reading.{blocker, origin_in, reading}
use Rattle.mvmap.proofs.Readings.{StandsAmong, blocked_at, named_stand}
use Rattle.stm_state.specs.declared.state.Status.TheVariants.{Executing, Executed, Aborting}
use Rattle.stm_state.specs.declared.state.CallState.{CallState}
use Rattle.stm_state.specs.declared.state.Task.TheVariants.{Idle, Running}
use Rattle.stm_state.specs.Limits.{incarnation_limit}
use Rattle.stm_state.specs.State.{State, fresh, call_at, task_at, with_call, with_task, is_executed}
use Rattle.stm_state.specs.Steps.{Block, answered_by, given, after_read_key, after_park}
use Rattle.stm_state.proofs.Invariant.{view_of, ViewInvariant, IsKnown, IsRightAnswer, Invariant, IsUnturned, lowered_by, named_by, owned_by, run_by, turned_by}
use Rattle.stm_state.proofs.Lists.{all_append, stays_at, set_at}
use Rattle.stm_state.proofs.OneCallChanges.{entries_stay, keeps_itself, keeps_unchecked, still_executing, unturned_run}
use Rattle.stm_state.proofs.Origins.{made_of_changes}
use Rattle.stm_state.proofs.SafeReads.{others_kept}
use Rattle.stm_state.proofs.Tests.{not_executed_says, resized}
use Rattle.stm_state.proofs.Asks.{same_entries}

module _ (block : Block) (s : State) (w i : ℕ) (answers : List StorageAnswer) (waits : Option ℕ) (f : ViewInvariant block (view_of s)) (runs : task_at s w ≡ Running i answers waits) (w_in : w < length s.tasks) where
  is_executing : (call_at s i).status ≡ Executing
  is_executing = f.running w i (ap run_by runs)

  -- the worker owns call i, and no worker turns its keys
  has_i : owned_by (task_at s w) ≡ Some i
  has_i = ap owned_by runs

  is_unturned : IsUnturned (view_of s) i
  is_unturned = unturned_run block (view_of s) f i w has_i (ap turned_by runs)

  -- the run is answered, is blocked or starts again
  goes : (xs : List StorageAnswer) (o : Option ℕ) → AllByRecursion (IsRightAnswer block (view_of s) i) xs → ((b : ℕ) → o ≡ Some b → b < i) → ViewInvariant block (view_of (with_task w (Running i xs o) s))
  goes xs o right low = others_kept block (view_of s) (view_of (with_task w (Running i xs o) s)) i w (call_at s i) (Running i xs o) (record {
    calls = stays_at (call_at s) i;
    tasks = set_at s.tasks w (Running i xs o) Idle w_in;
    entries = entries_stay (view_of s) i (call_at s i);
    execution = inl (omega arith);
    validation = inl (omega arith);
    within = f.named w i (ap named_by runs);
    owner = inl has_i;
    by_task = (refl, is_executing, low, right);
    by_status = still_executing block (view_of s) f i (Running i xs o) is_executing;
    grows = inr (keeps_itself (call_at s i));
    own_entries = λ _ key. f.entries i key is_unturned;
    recorded = f.recorded i;
  }) f (λ h. let r = is_executing in cc) (λ j left failed ne h. cc) (inl (ap lowered_by runs)) (λ j read k. k)

  -- the answers that the run got so far are right
  right_so_far : AllByRecursion (IsRightAnswer block (view_of s) i) answers
  right_so_far = f.answered w i answers waits runs

  -- versions that stand are known
  known_all : (key : List ℕ) (versions : List Version) → AllByRecursion (StandsAmong (entry_at s.versions key) i) versions → AllByRecursion (IsKnown (view_of s) i key) versions
  known_all key [] h = tt
  known_all key (version ∷ versions) h = ((h.0.0, inl h.0.1), known_all key versions h.1)

  -- the answer that the run gets is right
  given_right : (key : List ℕ) → IsRightAnswer block (view_of s) i (given block.base key (reading s.versions key i))
  given_right key = record {
    known = known_all key (named (origin_in (reading s.versions key i))) (named_stand (entry_at s.versions key) i);
    value_is = λ changes stand. made_of_changes (entry_at s.versions key) i (get block.base key) changes stand;
  }

  -- a read keeps the invariant, whether an estimate is met or not
  seen_kept_by : (key : List ℕ) (o : Option ℕ) → blocker (reading s.versions key i) ≡ o → ViewInvariant block (view_of (with_task w (answered_by block.base key i answers (reading s.versions key i) o) s))
  seen_kept_by key None h = goes (answers ++ given block.base key (reading s.versions key i) ∷ []) None
      (all_append (IsRightAnswer block (view_of s) i) answers (given block.base key (reading s.versions key i) ∷ []) right_so_far (given_right key, tt)) (λ b k. cc)
  seen_kept_by key (Some b) h = goes answers (Some b) right_so_far (λ x k. let same : b ≡ x = cc in let low = (blocked_at (entry_at s.versions key) i b h).0 in omega (arith, same, low))

  -- the call, parked on call b
  abbrev waiting : ℕ → CallState
  waiting b = record (call_at s i) { status = Aborting; parked = Some b }

  abbrev parked_state : ℕ → State
  parked_state b = with_task w Idle (with_call i (waiting b) s)

  -- a call may be parked on a lower call that is not EXECUTED
  parks : (b : ℕ) → b < i → (call_at s b).status ≢ Executed → (call_at s i).incarnation < incarnation_limit → i < length s.calls → ViewInvariant block (view_of (parked_state b))
  parks b low not_done less i_in = others_kept block (view_of s) (view_of (parked_state b)) i w (waiting b) Idle (record {
    calls = set_at s.calls i (waiting b) fresh i_in;
    tasks = set_at s.tasks w Idle Idle w_in;
    entries = entries_stay (view_of s) i (waiting b);
    execution = inl (omega arith);
    validation = inl (omega arith);
    within = f.named w i (ap named_by runs);
    owner = inl has_i;
    by_task = λ h. cc;
    by_status = (omega (arith, less), inl (b, refl, low, not_done));
    grows = inr (keeps_unchecked (call_at s i) (waiting b) (λ h. let r = is_executing in cc) (λ h. let r = is_executing in cc) refl);
    own_entries = λ _. same_entries block (view_of s) f i (λ h. let r = is_executing in cc) is_unturned;
    recorded = f.recorded i;
  }) f (λ h. cc) (λ j left failed ne h. cc) (inl (ap lowered_by runs)) (λ j read k. k)

-- a read keeps the invariant
pub read_kept : (block : Block) (workers w i : ℕ) (answers : List StorageAnswer) (key : List ℕ) (s : State) → Invariant block workers s → w < workers → task_at s w ≡ Running i answers None → Invariant block workers (after_read_key block.base key w i answers s)
read_kept block workers w i answers key s h w_in runs = record {
  sized = resized block.count workers s _ refl (length-set s.tasks w _) refl refl h.sized;
  facts = seen_kept_by block s w i answers None h.facts runs (let e = h.sized.tasks in omega (arith, e)) key (blocker (reading s.versions key i)) refl;
}

-- parking keeps the invariant, whether the call is parked or its run starts again
pub park_kept : (block : Block) (workers w i b : ℕ) (answers : List StorageAnswer) (s : State) → Invariant block workers s → w < workers → task_at s w ≡ Running i answers (Some b) → (call_at s i).incarnation < incarnation_limit → Invariant block workers (after_park w i b s)
unfolding after_park
park_kept block workers w i b answers s h w_in runs less =
    let w_there : w < length s.tasks = let e = h.sized.tasks in omega (arith, e) in
    let i_there : i < length s.calls = let within = h.facts.named w i (ap named_by runs) in let e = h.sized.calls in omega (arith, within, e) in
    cond_both (is_executed (call_at s b).status) _ _ (λ t. Invariant block workers t)
    (λ _. record {
      sized = resized block.count workers s _ refl (length-set s.tasks w _) refl refl h.sized;
      facts = goes block s w i answers (Some b) h.facts runs w_there [] None tt (λ x k. cc);
    })
    (λ not_done. record {
      sized = resized block.count workers s _ (length-set s.calls i _) (length-set s.tasks w _) refl refl h.sized;
      facts = parks block s w i answers (Some b) h.facts runs w_there b (h.facts.blocked w i b answers runs) (not_executed_says (call_at s b).status not_done) less i_there;
    })
