-- One worker on a block: the state of each of its calls, and the result of its next step, for all keys that its runs read.
use Rattle.std.proofs.Common.{◌≡◌, ◌<◌, ◌≢◌, ◌+◌, ◌-◌, ◌&&◌, ◌==◌, nat_lt, min, ℕ, zero, suc, Bool, true, false, cond, List, [], ◌∷◌, ◌++◌, length, map, get_or, set, slice_get, Option, None, Some, is_some, arith, refl, sym, ap, subst, ◌∙◌, inl, inr}
use Rattle.std.specs.Cmp.Derive.{both_true}
use Rattle.std.specs.List.{list_all}
use Rattle.std.specs.FinMap.{get}
use Rattle.std.proofs.lemmas.Bool.{cases_eq, cases_lt, and_parts, cond-true, cond-false}
use Rattle.std.proofs.lemmas.Grind.{get_or-set_at}
use Rattle.std.proofs.lemmas.List.{get_or-set_other, map-append}
use Rattle.std.proofs.lemmas.List.Folds.{list_all-append}
use Rattle.rv_ledger.specs.Key.{Storage}
use Rattle.rv_ledger.specs.declared.outcome.Counts.{Counts}
use Rattle.rv_ledger.specs.declared.receipt.Receipt.{Receipt}
use Rattle.read_set.specs.declared.Read.{Read}
use Rattle.rv_step.specs.declared.answer.StorageAnswer.{StorageAnswer}
use Rattle.mvmap.specs.Versions.{Versions, entry_at}
use Rattle.mvmap.specs.Reading.{Visible, blocker, visible_below, is_origin, stands, value_seen}
use Rattle.mvmap.proofs.Readings.{is_blocked, blocked_at, seen_same}
use Rattle.stm_state.specs.declared.state.Status.{Status}
use Rattle.stm_state.specs.declared.state.Status.TheVariants.{Ready, Executing, Executed}
use Rattle.stm_state.specs.declared.state.CallState.{CallState}
use Rattle.stm_state.specs.declared.state.Recorded.{Recorded}
use Rattle.stm_state.specs.declared.state.Task.{Task}
use Rattle.stm_state.specs.declared.state.Task.TheVariants.{Idle, Running, Moving, Validating}
use Rattle.stm_state.specs.State.{State, fresh, start_state, call_at, task_at, with_call, with_task, is_ready, is_executed, is_aborting, is_idle, is_done}
use Rattle.stm_state.specs.Steps.{Block, read_of, recorded_reads, counted, one_step, one_asking, one_execution, ask_validation, ask_execution, after_ask, count_done, answered_by, answered_with, given, is_some_of, is_parked_on, resume_if_parked, least_parked_call, resume_dependents, to_validate, recorded_run, has_new_key, keys_to_move, after_record, after_move_key, after_finish_execution, is_executed_at, read_stands, next_stands, after_check_read, after_decide, version_of, write_of}
use Rattle.stm_state.proofs.Invariant.{view_of, ViewInvariant, Invariant}
use Rattle.stm_state.proofs.Tests.{equal_itself, lt_is, not_lt_is}
use Rattle.stm_state.proofs.Origins.{own_origin}
use Rattle.stm_state.proofs.Asks.{executed_entries}
use Rattle.stm_state.proofs.Writes.{changed_other}
use Rattle.stm_state.proofs.Lists.{replicated, all_same}
use Rattle.stm_state.proofs.InvariantKept.{start_kept}
use Rattle.stm_state.proofs.Serials.{IsOver, over_at_done, no_estimate}

-- ---- the state of each call

-- a call that was run once
pub record IsRunOnce (c : CallState) : Type 0 where
  pub status : c.status ≡ Executed
  pub incarnation : c.incarnation ≡ 0

-- a call that is run for the first time
abbrev pub begun : CallState
begun = record { status = Executing; incarnation = 0; parked = None; last = None }

-- a call whose first run is recorded, and the task to move the keys of that run
abbrev pub kept : Recorded → CallState
kept run = record { status = Executing; incarnation = 0; parked = None; last = Some run }

abbrev pub first_move : ℕ → Receipt → Task
first_move d receipt = Moving d (keys_to_move None receipt.writes) (has_new_key None receipt.writes)

-- the calls below m were run once, call m is `own`, and the calls above it are as in the start state
pub record Order (m : ℕ) (own : CallState) (calls : List CallState) : Type 0 where
  pub below : (j : ℕ) → j < m → IsRunOnce (get_or calls j fresh)
  pub here : get_or calls m fresh ≡ own
  pub above : (j : ℕ) → m < j → get_or calls j fresh ≡ fresh

-- the calls are in this order, and the indices and the worker's task are these
pub record Stage (block : Block) (m : ℕ) (own : CallState) (execution validation : ℕ) (task : Task) (s : State) : Type 0 where
  pub inv : Invariant block 1 s
  pub runs_from : s.execution ≡ execution
  pub checks_from : s.validation ≡ validation
  pub does : task_at s 0 ≡ task
  pub calls : Order m own s.calls

module _ {m i : ℕ} {own after set_to : CallState} {calls : List CallState} (h : Order m own calls) (at : i ≡ m) (within : m < length calls) (is : set_to ≡ after) where
  same_else : (j : ℕ) → j ≢ m → get_or (set calls i set_to) j fresh ≡ get_or calls j fresh
  same_else j ne = get_or-set_other calls i j set_to fresh (λ e. ne (e ∙ at))

  same_here : get_or (set calls i set_to) m fresh ≡ after
  same_here = get_or-set_at calls i m set_to fresh (sym at) (omega (arith, at, within)) ∙ is

  -- call m is `after` now
  set_here : Order m after (set calls i set_to)
  set_here = record {
    below = λ j l. subst (λ x. IsRunOnce x) (sym (same_else j (λ e. omega (arith, l, e)))) (h.below j l);
    here = same_here;
    above = λ j l. same_else j (λ e. omega (arith, l, e)) ∙ h.above j l;
  }

  -- if `after` was run once, the calls up to m were run once now
  set_done : IsRunOnce after → Order (m + 1) fresh (set calls i set_to)
  set_done once = record {
    below = λ j l. elim (cases_eq j m) [
      | inl e ↦ subst (λ x. IsRunOnce (get_or (set calls i set_to) x fresh)) (sym e) (subst (λ x. IsRunOnce x) (sym same_here) once)
      | inr ne ↦ subst (λ x. IsRunOnce x) (sym (same_else j ne)) (h.below j (omega (arith, l, ne)))
    ];
    here = same_else (m + 1) (λ e. omega (arith, e)) ∙ h.above (m + 1) (omega arith);
    above = λ j l. same_else j (λ e. omega (arith, l, e)) ∙ h.above j (omega (arith, l));
  }

-- the stage of the start state
pub first_stage : (block : Block) → Stage block 0 fresh 0 0 Idle (start_state block.count 1)
first_stage block = record {
  inv = start_kept block 1;
  runs_from = refl;
  checks_from = refl;
  does = replicated 1 0 Idle;
  calls = record { below = λ j l. absurd (omega (arith, l)); here = replicated block.count 0 fresh; above = λ j l. replicated block.count j fresh };
}

-- if call m has not been run, each call is at incarnation 0
pub all_first : (block : Block) (m e v : ℕ) (task : Task) (s : State) → Stage block m fresh e v task s → (i : ℕ) → (call_at s i).incarnation ≡ 0
all_first block m e v task s now i = elim (cases_lt i m) [
  | inl low ↦ (now.calls.below i low).incarnation
  | inr high ↦ elim (cases_eq i m) [
    | inl is ↦ ap (λ (x : CallState). x.incarnation) (ap (call_at s) is ∙ now.calls.here)
    | inr ne ↦ ap (λ (x : CallState). x.incarnation) (now.calls.above i (omega (arith, high, ne)))
  ]
]

-- ---- results of tests

-- if workers cannot be done, `is_done` is false
pub not_done : (block : Block) (workers : ℕ) (s : State) → Invariant block workers s → (IsOver block s → ⊥) → is_done s ≡ false
not_done block workers s inv never = go (is_done s) refl
  where
    go : (b : Bool) → is_done s ≡ b → b ≡ false
    go true h = absurd (never (over_at_done block workers s inv h))
    go false h = refl

-- if the only task is Idle, all tasks are
one_idle : (tasks : List Task) → length tasks ≡ 1 → get_or tasks 0 Idle ≡ Idle → list_all is_idle tasks ≡ true
one_idle [] size h = refl
one_idle (task ∷ []) size h = ap (λ x. is_idle x && true) h
one_idle (task ∷ other ∷ tasks) size h = absurd (omega (arith, size))

-- one worker is done if both indices are past the last call and it has no task
pub is_over : (block : Block) (s : State) → Invariant block 1 s → s.execution ≡ block.count → s.validation ≡ block.count → task_at s 0 ≡ Idle → is_done s ≡ true
unfolding is_done
is_over block s inv runs checks does =
    let n = inv.sized.calls in
    both_true (both_true (ap (λ x. x == length s.calls) (runs ∙ sym n) ∙ equal_itself (length s.calls)) (ap (λ x. x == length s.calls) (checks ∙ sym n) ∙ equal_itself (length s.calls)))
    (one_idle s.tasks inv.sized.tasks does)

-- a call that is not ABORTING is parked on no call
calm : (i : ℕ) (c : CallState) (st : Status) → c.status ≡ st → is_aborting st ≡ false → is_parked_on i c ≡ false
calm i c st h k = ap (λ x. is_aborting x && is_some_of c.parked i) h ∙ ap (λ b. b && is_some_of c.parked i) k

-- if no call is parked on call i, all calls stay as they are
none_readied : (i : ℕ) (calls : List CallState) → ((j : ℕ) → is_parked_on i (get_or calls j fresh) ≡ false) → map (resume_if_parked i) calls ≡ calls
none_readied i [] h = refl
none_readied i (c ∷ calls) h =
    ap (λ x. x ∷ map (resume_if_parked i) calls) (cond-false (is_parked_on i c) _ _ (h 0)) ∙ ap (λ xs. c ∷ xs) (none_readied i calls (λ j. h (suc j)))

none_lowered : (i x p : ℕ) (calls : List CallState) → ((j : ℕ) → is_parked_on i (get_or calls j fresh) ≡ false) → least_parked_call i x p calls ≡ x
none_lowered i x p [] h = refl
none_lowered i x p (c ∷ calls) h = none_lowered i (cond (is_parked_on i c) (min x p) x) (p + 1) calls (λ j. h (suc j)) ∙ cond-false (is_parked_on i c) (min x p) x (h 0)

none_resumed : (i : ℕ) (s : State) → ((j : ℕ) → is_parked_on i (call_at s j) ≡ false) → resume_dependents i s ≡ s
unfolding resume_dependents
none_resumed i s h =
    ap (λ calls. record s { calls = calls; execution = least_parked_call i s.execution 0 s.calls }) (none_readied i s.calls h)
    ∙ ap (λ e. record s { execution = e }) (none_lowered i s.execution 0 s.calls h)

-- ---- reads that stand

-- whether all reads of a call stand
abbrev pub all_stand : ℕ → State → Bool
all_stand i s = list_all (stands s.versions i) (recorded_reads (call_at s i).last)

-- if all reads of a call stand, the read at each place does
pub each_stands : (versions : Versions) (i : ℕ) (reads : List Read) (place : ℕ) → list_all (stands versions i) reads ≡ true → read_stands versions i (slice_get reads place) ≡ true
each_stands versions i [] place h = refl
each_stands versions i (read ∷ reads) zero h = (and_parts (stands versions i read) (list_all (stands versions i) reads) h).0
each_stands versions i (read ∷ reads) (suc place) h = each_stands versions i reads place (and_parts (stands versions i read) (list_all (stands versions i) reads) h).1

-- ---- the answers of a run

-- an answer from what is seen, if no estimate blocks it
pub record Answered (store : Storage) (key : List ℕ) (i : ℕ) (answers : List StorageAnswer) (seen : Visible) : Type 0 where
  pub answer : StorageAnswer
  pub task : answered_with store key i answers seen ≡ Running i (answers ++ answer ∷ []) None
  pub at : answer.key ≡ key
  pub value : answer.value ≡ value_seen (get store key) seen
  pub stand : is_origin answer.origin seen ≡ true

unblocked : (o : Option ℕ) → is_some o ≡ false → o ≡ None
unblocked None h = refl
unblocked (Some b) h = cc

pub answered_here : (store : Storage) (key : List ℕ) (i : ℕ) (answers : List StorageAnswer) (seen : Visible) → is_blocked seen ≡ false → Answered store key i answers seen
answered_here store key i answers seen h =
    let none : blocker seen ≡ None = unblocked (blocker seen) h in
    record { answer = given store key seen; task = ap (answered_by store key i answers seen) none; at = refl; value = refl; stand = own_origin seen none }

module _ (block : Block) (s : State) where
  -- if the calls below d were run once, no read of call d is blocked
  pub clear_below : ViewInvariant block (view_of s) → (d : ℕ) → ((j : ℕ) → j < d → IsRunOnce (call_at s j)) → (key : List ℕ) → is_blocked (visible_below (entry_at s.versions key) d) ≡ false
  clear_below f d below key = go (blocker (visible_below (entry_at s.versions key) d)) refl
    where
      go : (o : Option ℕ) → blocker (visible_below (entry_at s.versions key) d) ≡ o → is_some o ≡ false
      go None e = refl
      go (Some b) e =
          let from = blocked_at (entry_at s.versions key) d b e in
          absurd (no_estimate (write_of (call_at s b).last key) (call_at s b).incarnation (sym (executed_entries block (view_of s) f b (below b from.0).status key) ∙ from.1))

  -- the worker's task after it is replaced
  pub new_task : Invariant block 1 s → (task : Task) → get_or (set s.tasks 0 task) 0 Idle ≡ task
  new_task inv task = get_or-set_at s.tasks 0 0 task Idle refl (let one = inv.sized.tasks in omega (arith, one))

  -- a step that changes only the worker's task
  pub task_stage : (m : ℕ) (own : CallState) (e v : ℕ) (old task : Task) (add : Counts → Counts) → Stage block m own e v old s → Invariant block 1 (counted add 0 (with_task 0 task s)) → Stage block m own e v task (counted add 0 (with_task 0 task s))
  task_stage m own e v old task add now inv = record { inv = inv; runs_from = now.runs_from; checks_from = now.checks_from; does = new_task now.inv task; calls = now.calls }

  -- an `Ask` step that is answered Done
  pub told_stage : (m : ℕ) (own : CallState) (e v : ℕ) (task : Task) → Stage block m own e v task s → Invariant block 1 (counted one_asking 0 (count_done 0 s)) → Stage block m own e v task (counted one_asking 0 (count_done 0 s))
  told_stage m own e v task now inv = record { inv = inv; runs_from = now.runs_from; checks_from = now.checks_from; does = now.does; calls = now.calls }

  -- ---- asking for the execution of call d

  -- the state in which the worker runs the call at the execution index
  abbrev pub to_run : State
  to_run = with_task 0 (Running s.execution [] None) (with_call s.execution (record (call_at s s.execution) { status = Executing }) (record s { execution = s.execution + 1 }))

  module _ (d : ℕ) (now : Stage block d fresh d d Idle s) (within : d < block.count) where
    run_over : is_done s ≡ false
    run_over = not_done block 1 s now.inv (λ o. let e = o.execution in let r = now.runs_from in omega (arith, e, r, within))

    call_is : call_at s s.execution ≡ fresh
    call_is = ap (call_at s) now.runs_from ∙ now.calls.here

    pub run_asked : after_ask 0 s ≡ to_run
    unfolding ask_execution
    run_asked =
        let e = now.runs_from in let v = now.checks_from in let n = now.inv.sized.calls in
        cond-false (is_done s) _ _ run_over
        ∙ cond-false (nat_lt s.validation s.execution) _ _ (not_lt_is s.validation s.execution (omega (arith, e, v)))
        ∙ cond-true (nat_lt s.execution (length s.calls)) _ _ (lt_is s.execution (length s.calls) (omega (arith, e, n, within)))
        ∙ cond-true (is_ready (call_at s s.execution).status) _ _ (ap (λ (x : CallState). is_ready x.status) call_is)

    pub run_stage : Invariant block 1 (counted one_asking 0 to_run) → Stage block d begun (d + 1) d (Running d [] None) (counted one_asking 0 to_run)
    run_stage inv = record {
      inv = inv;
      runs_from = ap (λ x. x + 1) now.runs_from;
      checks_from = now.checks_from;
      does = new_task now.inv (Running s.execution [] None) ∙ ap (λ i. Running i [] None) now.runs_from;
      calls = set_here now.calls now.runs_from (let n = now.inv.sized.calls in omega (arith, n, within)) (ap (λ (x : CallState). record x { status = Executing }) call_is);
    }

  -- ---- a read

  -- the read of one more answer stands
  pub answer_stands : (store : Storage) (key : List ℕ) (d : ℕ) (answers : List StorageAnswer) → list_all (stands s.versions d) (map read_of answers) ≡ true
      → (told : Answered store key d answers (visible_below (entry_at s.versions key) d)) → list_all (stands s.versions d) (map read_of (answers ++ told.answer ∷ [])) ≡ true
  answer_stands store key d answers stand told =
      ap (list_all (stands s.versions d)) (map-append read_of answers (told.answer ∷ []))
      ∙ list_all-append (stands s.versions d) (map read_of answers) (read_of told.answer ∷ [])
      ∙ both_true stand (both_true (ap (λ k. is_origin told.answer.origin (visible_below (entry_at s.versions k) d)) told.at ∙ told.stand) refl)

  -- ---- the record of call d

  module _ (d : ℕ) (answers : List StorageAnswer) (receipt : Receipt) (now : Stage block d begun (d + 1) d (Running d answers None) s) (within : d < block.count) where
    abbrev pub recorded_state : State
    recorded_state = after_record 0 d answers receipt s

    -- the run is kept, and its keys must be moved
    pub record_stage : Invariant block 1 (counted one_execution 0 recorded_state) → Stage block d (kept (recorded_run answers receipt)) (d + 1) d (first_move d receipt) (counted one_execution 0 recorded_state)
    record_stage inv = record {
      inv = inv;
      runs_from = now.runs_from;
      checks_from = now.checks_from;
      does = new_task now.inv (Moving d (keys_to_move (call_at s d).last receipt.writes) (has_new_key (call_at s d).last receipt.writes)) ∙ ap (λ (x : CallState). Moving d (keys_to_move x.last receipt.writes) (has_new_key x.last receipt.writes)) now.calls.here;
      calls = set_here now.calls refl (let n = now.inv.sized.calls in omega (arith, n, within)) (ap (λ (x : CallState). record x { last = Some (recorded_run answers receipt) }) now.calls.here);
    }

  -- ---- a key of call d is moved

  module _ (d : ℕ) (run : Recorded) (key : List ℕ) (keys : List (List ℕ)) (new : Bool) (now : Stage block d (kept run) (d + 1) d (Moving d (key ∷ keys) new) s) where
    abbrev pub after_move : State
    after_move = after_move_key 0 d key keys new s

    -- what call d sees is as before
    pub moved_seen : (other : List ℕ) → visible_below (entry_at after_move.versions other) d ≡ visible_below (entry_at s.versions other) d
    moved_seen other = seen_same (entry_at after_move.versions other) (entry_at s.versions other) d (λ j l. changed_other s.versions key d (version_of (call_at s d) key) other j (λ e. omega (arith, l, e)))

    -- so its reads still stand
    pub moved_stands : (reads : List Read) → list_all (stands s.versions d) reads ≡ true → list_all (stands after_move.versions d) reads ≡ true
    moved_stands reads stand = all_same (stands after_move.versions d) (stands s.versions d) (λ read. ap (is_origin read.origin) (moved_seen read.key)) reads ∙ stand

    pub moved_stage : Invariant block 1 (counted one_step 0 after_move) → Stage block d (kept run) (d + 1) d (Moving d keys new) (counted one_step 0 after_move)
    moved_stage inv = record { inv = inv; runs_from = now.runs_from; checks_from = now.checks_from; does = new_task now.inv (Moving d keys new); calls = now.calls }

  -- ---- the execution of call d is finished

  module _ (d : ℕ) (run : Recorded) (new : Bool) (now : Stage block d (kept run) (d + 1) d (Moving d [] new) s) (within : d < block.count) where
    abbrev done_call : CallState
    done_call = record (call_at s d) { status = Executed }

    abbrev pub finished : State
    finished = with_call d done_call s

    -- so the call was run once
    done_is : done_call ≡ record { status = Executed; incarnation = 0; parked = None; last = Some run }
    done_is = ap (λ (x : CallState). record x { status = Executed }) now.calls.here

    done_calls : Order (d + 1) fresh finished.calls
    done_calls = set_done now.calls refl (let n = now.inv.sized.calls in omega (arith, n, within)) done_is (record { status = refl; incarnation = refl })

    -- the run is still kept
    pub done_last : (call_at finished d).last ≡ Some run
    done_last = ap (λ (x : CallState). x.last) (same_here now.calls refl (let n = now.inv.sized.calls in omega (arith, n, within)) done_is)

    none_on : (j : ℕ) → is_parked_on d (call_at finished j) ≡ false
    none_on j = elim (cases_lt d j) [
      | inl high ↦ elim (cases_eq j (d + 1)) [
        | inl e ↦ calm d (call_at finished j) Ready (ap (λ (x : CallState). x.status) (ap (call_at finished) e ∙ done_calls.here)) refl
        | inr ne ↦ calm d (call_at finished j) Ready (ap (λ (x : CallState). x.status) (done_calls.above j (omega (arith, high, ne)))) refl
      ]
      | inr low ↦ calm d (call_at finished j) Executed (done_calls.below j (omega (arith, low))).status refl
    ]

    pub executed_is : after_finish_execution 0 d new s ≡ with_task 0 Idle finished
    unfolding to_validate
    executed_is =
        ap (to_validate 0 d new (Validating d (call_at s d).incarnation (length (recorded_reads (call_at s d).last)) false)) (none_resumed d finished none_on)
        ∙ cond-false (nat_lt d s.validation) _ _ (let v = now.checks_from in not_lt_is d s.validation (omega (arith, v)))

    -- its reads still stand
    pub finished_stands : list_all (stands s.versions d) run.reads ≡ true → all_stand d finished ≡ true
    finished_stands stand = ap (λ last. list_all (stands s.versions d) (recorded_reads last)) done_last ∙ stand

    pub finish_stage : Invariant block 1 (counted one_step 0 (with_task 0 Idle finished)) → Stage block (d + 1) fresh (d + 1) d Idle (counted one_step 0 (with_task 0 Idle finished))
    finish_stage inv = record { inv = inv; runs_from = now.runs_from; checks_from = now.checks_from; does = new_task now.inv Idle; calls = done_calls }

  -- ---- asking for the validation of call d

  -- the state in which the worker validates the call at the validation index
  abbrev pub to_check : State
  to_check = with_task 0 (Validating s.validation (call_at s s.validation).incarnation (length (recorded_reads (call_at s s.validation).last)) false) (record s { validation = s.validation + 1 })

  module _ (d : ℕ) (now : Stage block (d + 1) fresh (d + 1) d Idle s) (within : d < block.count) where
    is_there : call_at s s.validation ≡ call_at s d
    is_there = ap (call_at s) now.checks_from

    check_over : is_done s ≡ false
    check_over = not_done block 1 s now.inv (λ o. let v = o.validation in let r = now.checks_from in omega (arith, v, r, within))

    pub check_asked : after_ask 0 s ≡ to_check
    unfolding ask_validation
    check_asked =
        let e = now.runs_from in let v = now.checks_from in
        cond-false (is_done s) _ _ check_over
        ∙ cond-true (nat_lt s.validation s.execution) _ _ (lt_is s.validation s.execution (omega (arith, e, v)))
        ∙ cond-true (is_executed (call_at s s.validation).status) _ _ (ap (λ (x : CallState). is_executed x.status) is_there ∙ ap is_executed (now.calls.below d (omega arith)).status)

    pub check_stage : Invariant block 1 (counted one_asking 0 to_check) → Stage block (d + 1) fresh (d + 1) (d + 1) (Validating d 0 (length (recorded_reads (call_at s d).last)) false) (counted one_asking 0 to_check)
    check_stage inv = record {
      inv = inv;
      runs_from = now.runs_from;
      checks_from = ap (λ x. x + 1) now.checks_from;
      does = new_task now.inv (Validating s.validation (call_at s s.validation).incarnation (length (recorded_reads (call_at s s.validation).last)) false) ∙ ap (λ i. Validating i (call_at s i).incarnation (length (recorded_reads (call_at s i).last)) false) now.checks_from ∙ ap (λ n. Validating d n (length (recorded_reads (call_at s d).last)) false) (now.calls.below d (omega arith)).incarnation;
      calls = now.calls;
    }

  -- ---- the validation of call d

  module _ (d left : ℕ) (now : Stage block (d + 1) fresh (d + 1) (d + 1) (Validating d 0 (suc left) false) s) (stand : all_stand d s ≡ true) where
    -- the call is EXECUTED at incarnation 0
    at_zero : is_executed_at 0 (call_at s d) ≡ true
    at_zero = let done = now.calls.below d (omega arith) in both_true (ap is_executed done.status) (ap (λ n. n == 0) done.incarnation)

    -- each read that is checked stands
    pub check_stands : after_check_read 0 d 0 left s ≡ with_task 0 (Validating d 0 left false) s
    unfolding after_check_read
    check_stands =
        cond-true (is_executed_at 0 (call_at s d)) _ _ at_zero
        ∙ cond-true (next_stands d (suc left) s) _ _ (each_stands s.versions d (recorded_reads (call_at s d).last) (length (recorded_reads (call_at s d).last) - suc left) stand)

-- if every read stood, a decision aborts nothing
pub none_taken : (d n : ℕ) (s : State) → after_decide 0 d n false s ≡ with_task 0 Idle s
unfolding after_decide
none_taken d n s = refl
