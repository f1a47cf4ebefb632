-- One worker on a job, step by step: it goes through the rounds of all calls, and is then answered Done.
use Rattle.std.proofs.Common.{◌≡◌, ◌≢◌, ◌<◌, ◌≤◌, ◌+◌, ◌-◌, ◌*◌, nat_lt, nat_le, ℕ, zero, suc, Bool, false, true, option_map, List, [], ◌∷◌, ◌++◌, length, drop, get_or, replicate, slice_get, Option, None, Some, Result, Ok, Err, if◌then◌else◌, arith, refl, sym, ap, subst, ◌∙◌, inl, inr, append_assoc, append-nil, drop_of_length-le}
use Rattle.std.specs.FinMap.{get, entries, len, len-entries}
use Rattle.std.proofs.lemmas.Bool.{cases_lt, cond-false}
use Rattle.std.proofs.lemmas.List.{drop_more, get_or_past, length-append, length-map, map-append}
use Rattle.rv_ledger.specs.Key.{Storage, WriteMap}
use Rattle.rv_ledger.specs.Call.{Invocation}
use Rattle.rv_ledger.specs.declared.outcome.Counts.{Counts}
use Rattle.rv_ledger.specs.declared.receipt.Receipt.{Receipt}
use Rattle.rv_step.specs.Moment.{Reply}
use Rattle.rv_step.specs.Chain.{AreFrom, borne_out, ends}
use Rattle.rv_ledger.specs.Applied.{apply_writes}
use Rattle.rv_step.specs.Fold.{store_after, store_after_call, store_before}
use Rattle.rv_step.specs.Replies.{reply_of, replies_of}
use Rattle.rv_step.specs.declared.answer.StorageAnswer.{StorageAnswer}
use Rattle.rv_step.proofs.Askings.{chain_asks}
use Rattle.rv_step.proofs.Receipts.{one_receipt_lem}
use Rattle.mvmap.specs.Versions.{Versions, Stands, entry_at}
use Rattle.mvmap.specs.Reading.{visible_below, value_seen}
use Rattle.stm_state.specs.declared.state.Status.TheVariants.{Executed}
use Rattle.stm_state.specs.declared.state.CallState.{CallState}
use Rattle.stm_state.specs.declared.state.Recorded.{Recorded}
use Rattle.stm_state.specs.declared.state.Task.{Task}
use Rattle.stm_state.specs.declared.state.Task.TheVariants.{Idle, Running, Validating}
use Rattle.stm_state.specs.Limits.{record_limit, incarnation_limit}
use Rattle.stm_state.specs.State.{State, start_state, call_at, with_task, is_done}
use Rattle.stm_state.specs.Steps.{Block, Limit, read_of, recorded_reads, counted, one_step, one_asking, one_execution, one_validation, count_done, keys_of, keys_to_move, record_within, step_with, write_of}
use Rattle.stm_state.specs.Done.{borne_out_by, block_of}
use Rattle.stm_state.specs.Drive.{DriveRefusal, NotDone, due_step_of_run, asked_at, due_step, due_result, continue_drive, driven}
use Rattle.stm_state.proofs.Invariant.{view_of, Invariant}
use Rattle.stm_state.specs.OneWorker.{Work, no_work, IsWork, rounds, MeetsNoEstimate, HoldsAfter, NeverMeetsEstimate, OneWorkerDid, HasOneWorkerCounts}
use Rattle.stm_state.proofs.Tests.{not_lt_is, not_le_is}
use Rattle.stm_state.proofs.Asks.{executed_entries}
use Rattle.stm_state.proofs.InvariantKept.{worker_kept}
use Rattle.stm_state.proofs.Serials.{seen_after}
use Rattle.rv_step.proofs.WriteLimit.{ends_few}
use Rattle.stm_state.proofs.Rounds.{Stage, not_done, answered_here, clear_below, to_run, run_asked, recorded_state, after_move, moved_seen, finished, done_last, executed_is, to_check, check_asked, check_stands, none_taken}
use Rattle.stm_state.proofs.OneWorkerPhases.{call_there, Comes, Rests, Runs, Moves, Waits, Checks, within_block, first, begins, told_asked, told_so, over, did_all, reads_on, records_on, moves_on, finishes_on, waits_on, checks_on, decides_on}

-- ---- what each call takes

-- the work of a call: the numbers of its reads and of its writes
abbrev work_of : Invocation → Storage → Work
work_of call store = record { reads = length (one_receipt_lem call store).some_answers.0; writes = len (ends call store).writes }

-- the work of each call
abbrev works_in_order : List Invocation → Storage → List Work
works_in_order [] store = []
works_in_order (call ∷ calls) store = work_of call store ∷ works_in_order calls (store_after_call call store)

sized_works : (calls : List Invocation) (store : Storage) → length (works_in_order calls store) ≡ length calls
sized_works [] store = refl
sized_works (call ∷ calls) store = ap suc (sized_works calls (store_after_call call store))

each_work : (calls : List Invocation) (store : Storage) (i : ℕ) (call : Invocation) → slice_get calls i ≡ Some call → IsWork call (store_before calls i store) (get_or (works_in_order calls store) i no_work)
unfolding store_after
each_work [] store i call h = cc
each_work (c ∷ calls) store zero call h =
    let some = (one_receipt_lem c store).some_answers in
    let same : c ≡ call = cc in
    subst (λ x. IsWork x store (work_of c store)) same (record { replies = some.0; size = refl; from = some.1; borne_out = some.2; writes = refl })
each_work (c ∷ calls) store (suc i) call h = each_work calls (store_after_call c store) i call h

-- the storage before the next call
store_next : (calls : List Invocation) (store : Storage) (j : ℕ) (call : Invocation) → slice_get calls j ≡ Some call → store_before calls (suc j) store ≡ apply_writes (store_before calls j store) (ends call (store_before calls j store)).writes
unfolding store_after
store_next [] store j call h = cc
store_next (c ∷ calls) store zero call h = let same : c ≡ call = cc in ap (λ x. store_after_call x store) same
store_next (c ∷ calls) store (suc j) call h = store_next calls (store_after_call c store) j call h

-- a first run moves exactly the keys that it wrote
first_keys : (writes : WriteMap) → length (keys_to_move None writes) ≡ len writes
first_keys writes = ap length (append-nil (keys_of (entries writes))) ∙ length-map (entries writes) (λ write. write.0) ∙ sym (len-entries writes)

-- no run is blocked, if the one worker's run is not
unblocked : {block : Block} {m e v : ℕ} {own : CallState} {task : Task} {s : State} → Stage block m own e v task s → ((i b : ℕ) (answers : List StorageAnswer) → task ≢ Running i answers (Some b)) → MeetsNoEstimate s
unblocked now never zero i b answers h = never i b answers (sym now.does ∙ h)
unblocked {s = s} now never (suc w) i b answers h = let idle = get_or_past s.tasks (suc w) Idle (let one = now.inv.sized.tasks in omega (arith, one)) in cc

-- ---- the phase of the worker, and the number of steps that are left

module _ (calls : List Invocation) (store : Storage) where
  abbrev block : Block
  block = block_of calls store

  -- the storage before call d, and the receipt of the call on it
  abbrev before_call : ℕ → Storage
  before_call d = store_before calls d store

  abbrev in_order : ℕ → Invocation → Receipt
  in_order d call = ends call (before_call d)

  -- what call d sees is the storage before it
  abbrev Sees : ℕ → Versions → Type 0
  Sees d versions = (key : List ℕ) → value_seen (get store key) (visible_below (entry_at versions key) d) ≡ get (before_call d) key

  -- the number of steps for call d and the calls after it
  abbrev rounds_from : ℕ → ℕ
  rounds_from d = rounds (drop d (works_in_order calls store))

  -- n steps are left: what the worker does at call d, and the rounds of the later calls
  data Left (n steps told : ℕ) (s : State) : Type 0 where
    rests : {d : ℕ} → Rests block d steps told s → Sees d s.versions → s.record_count ≤ 256 * d → n ≡ rounds_from d → Left n steps told s
    -- the remaining replies bear the call's receipt out
    runs : {d : ℕ} {answers : List StorageAnswer} (call : Invocation) (rest : List Reply) → Runs block d steps told answers s → Sees d s.versions → s.record_count ≤ 256 * d
        → slice_get calls d ≡ Some call → AreFrom (before_call d) rest → borne_out call (replies_of answers ++ rest) ≡ Some (in_order d call) → n ≡ 4 + 2 * length rest + length answers + len (in_order d call).writes + rounds_from (d + 1) → Left n steps told s
    moves : {d : ℕ} {run : Recorded} {keys : List (List ℕ)} {new : Bool} (call : Invocation) → Moves block d steps told run keys new s → Sees d s.versions → s.record_count ≤ 256 * (d + 1)
        → slice_get calls d ≡ Some call → run.receipt ≡ in_order d call → n ≡ 3 + length keys + length run.reads + rounds_from (d + 1) → Left n steps told s
    waits : {d : ℕ} → Waits block d steps told s → Sees (d + 1) s.versions → s.record_count ≤ 256 * (d + 1) → n ≡ 2 + length (recorded_reads (call_at s d).last) + rounds_from (d + 1) → Left n steps told s
    checks : {d left : ℕ} → Checks block d steps told left s → Sees (d + 1) s.versions → s.record_count ≤ 256 * (d + 1) → n ≡ 1 + left + rounds_from (d + 1) → Left n steps told s

  -- the next call sees the storage before it, once call d is EXECUTED and its run was borne out
  sees_next : (d : ℕ) (call : Invocation) (run : Recorded) (t : State) → Invariant block 1 t → (call_at t d).status ≡ Executed → (call_at t d).last ≡ Some run → slice_get calls d ≡ Some call → run.receipt ≡ in_order d call
      → Sees d t.versions → Sees (d + 1) t.versions
  sees_next d call run t inv done last there ends_so sees = subst (λ n. Sees n t.versions) (let e : suc d ≡ d + 1 = omega arith in e) (λ key.
      let n = (call_at t d).incarnation in
      let own : entry_at t.versions key d ≡ option_map (λ c. Stands n c) (get (in_order d call).writes key) =
      executed_entries block (view_of t) inv.facts d done key ∙ ap (λ x. option_map (λ c. Stands n c) (write_of x key)) last ∙ ap (λ (r : Receipt). option_map (λ c. Stands n c) (get r.writes key)) ends_so in
      seen_after (get store key) t.versions key d n (before_call d) (in_order d call).writes own (sees key) ∙ ap (λ b. get b key) (sym (store_next calls store d call there)))

  -- the steps that are left from a call of the job on, and past the last call
  rounds_here : (d : ℕ) → d < length calls → rounds_from d ≡ 5 + 2 * (get_or (works_in_order calls store) d no_work).reads + (get_or (works_in_order calls store) d no_work).writes + rounds_from (d + 1)
  rounds_here d within = ap rounds (drop_more (works_in_order calls store) d no_work (let size = sized_works calls store in omega (arith, within, size)))

  rounds_past : (d : ℕ) → length calls ≤ d → rounds_from d ≡ 0
  rounds_past d past = ap rounds (drop_of_length-le (works_in_order calls store) (let size = sized_works calls store in omega (arith, past, size)))

  -- ---- the step that is due

  -- the step is made, and one step less is left; if none is left, it is answered Done
  record Next (n steps told : ℕ) (s : State) : Type 0 where
    t : State
    due : due_result calls store 0 s ≡ Some (Ok t)
    more : ℕ
    left : Left (n - 1) (steps + 1) more t
    told_is : more + n ≡ told + 1 + (n - 1)

  -- equal states give equal results
  same : (add : Counts → Counts) {u v : State} → u ≡ v → ◌≡◌ {A = Option (Result State Limit)} (Some (Ok (counted add 0 u))) (Some (Ok (counted add 0 v)))
  same add e = ap (λ u. Some (Ok (counted add 0 u))) e

  module _ {n steps told : ℕ} {s : State} where
    -- a step of the task that the worker has
    goes : {m e v : ℕ} {own : CallState} {task : Task} → Stage block m own e v task s → (more : ℕ) (add : Counts → Counts) (u : State) → step_with block 0 task (due_step calls task) s ≡ Some (Ok (counted add 0 u))
        → Comes block (Left (n - 1) (steps + 1) more) add u → more + n ≡ told + 1 + (n - 1) → Next n steps told s
    goes now more add u k h told_is =
        let due : due_result calls store 0 s ≡ Some (Ok (counted add 0 u)) = ap (λ x. step_with block 0 x (due_step calls x) s) now.does ∙ k in
        record { t = counted add 0 u; due = due; more = more; left = h (worker_kept block 1 0 s _ now.inv (omega arith) _ due); told_is = told_is }

    -- the step that is due in each phase
    next : length calls ≤ 1024 → Left n steps told s → Next n steps told s
    next short (rests {d = d} h sees room e) = elim (cases_lt d (length calls)) [
      | inl low ↦
          let there = call_there calls d low in
          let takes = each_work calls store d there.0 there.1 in
          let here = rounds_here d low in let size = takes.size in let writes = takes.writes in
          goes h.now told one_asking (to_run block s) (same one_asking (run_asked block s d h.now low))
          (λ inv. runs there.0 takes.replies (begins h low inv) sees room there.1 takes.from takes.borne_out (omega (arith, e, size, writes, here))) (omega (arith, e, here))
      | inr high ↦
          let none = rounds_past d high in
          goes h.now (told + 1) one_asking (count_done 0 s) (same one_asking (told_asked h high)) (λ inv. rests (told_so h high inv) sees room (omega (arith, e, none))) (omega (arith, e, none))
    ]
    next short (runs {d = d} {answers = answers} call (reply ∷ rest) h sees room there from bears e) =
        let a = answered_here store reply.0 d answers (visible_below (entry_at s.versions reply.0) d) (clear_below block s h.now.inv.facts d h.now.calls.below reply.0) in
        let all = answers ++ a.answer ∷ [] in
        let asks : asked_at (slice_get calls d) (replies_of answers) ≡ Some reply.0 = ap (λ o. asked_at o (replies_of answers)) there ∙ chain_asks call (replies_of answers) (reply ∷ rest) _ bears in
        let is_reply : reply_of a.answer ≡ reply = ap (λ k. (k, a.answer.value)) a.at ∙ ap (λ v. (reply.0, v)) (a.value ∙ sees reply.0 ∙ sym from.0) in
        let replies : replies_of all ++ rest ≡ replies_of answers ++ reply ∷ rest =
        ap (λ xs. xs ++ rest) (map-append reply_of answers (a.answer ∷ [])) ∙ append_assoc (replies_of answers) (reply_of a.answer ∷ []) rest ∙ ap (λ x. replies_of answers ++ x ∷ rest) is_reply in
        let longer = length-append answers (a.answer ∷ []) in
        goes h.now told one_step (with_task 0 (Running d all None) s)
        (ap (λ o. step_with block 0 (Running d answers None) (due_step_of_run o) s) asks ∙ same one_step (ap (λ (task : Task). with_task 0 task s) a.task))
        (λ inv. runs call rest (reads_on reply.0 h a inv) sees room there from.1 (ap (borne_out call) replies ∙ bears) (omega (arith, e, longer))) (omega (arith, e))
    next short (runs {d = d} {answers = answers} call [] h sees room there from bears e) =
        let within = within_block h.now in
        let receipt : Receipt = in_order d call in
        let borne : borne_out call (replies_of answers) ≡ Some receipt = ap (borne_out call) (sym (append-nil (replies_of answers))) ∙ bears in
        let ended : asked_at (slice_get calls d) (replies_of answers) ≡ None = ap (λ o. asked_at o (replies_of answers)) there ∙ chain_asks call (replies_of answers) [] receipt bears in
        let few = ends_few call (before_call d) in
        let new = ap (λ (x : CallState). x.incarnation) h.now.calls.here in
        let keys = first_keys receipt.writes in let reads = length-map answers read_of in
        goes h.now told one_execution (recorded_state block s d answers receipt h.now within)
        (ap (λ o. step_with block 0 (Running d answers None) (due_step_of_run o) s) ended
        ∙ ap (λ o. record_within d answers 0 o s) (ap (λ o. borne_out_by o (replies_of answers)) there ∙ borne)
        ∙ cond-false (nat_lt record_limit (s.record_count + len receipt.writes)) _ _ (not_lt_is record_limit (s.record_count + len receipt.writes) (omega (arith, few, room, within, short)))
        ∙ cond-false (nat_le incarnation_limit (call_at s d).incarnation) _ _ (not_le_is incarnation_limit (call_at s d).incarnation (omega (arith, new))))
        (λ inv. moves call (records_on receipt h within inv) sees (omega (arith, few, room)) there refl (omega (arith, e, keys, reads))) (omega (arith, e))
    next short (moves {d = d} {run = run} {keys = key ∷ keys} {new = new} call h sees room there ends_so e) =
        goes h.now told one_step (after_move block s d run key keys new h.now) refl
        (λ inv. moves call (moves_on h inv) (λ k. ap (value_seen (get store k)) (moved_seen block s d run key keys new h.now k) ∙ sees k) room there ends_so (omega (arith, e))) (omega (arith, e))
    next short (moves {d = d} {run = run} {keys = []} {new = new} call h sees room there ends_so e) =
        let within = within_block h.now in
        let last = done_last block s d run new h.now within in
        let reads = ap (λ o. length (recorded_reads o)) last in
        goes h.now told one_step (with_task 0 Idle (finished block s d run new h.now within)) (same one_step (executed_is block s d run new h.now within))
        (λ inv. let w = finishes_on h within inv in waits w (sees_next d call run _ inv (w.now.calls.below d (omega arith)).status last there ends_so sees) room (omega (arith, e, reads))) (omega (arith, e))
    next short (waits {d = d} h sees room e) =
        let within = within_block h.now in
        goes h.now told one_asking (to_check block s) (same one_asking (check_asked block s d h.now within)) (λ inv. checks (waits_on h within inv) sees room (omega (arith, e))) (omega (arith, e))
    next short (checks {d = d} {left = suc left} h sees room e) =
        goes h.now told one_step (with_task 0 (Validating d 0 left false) s) (same one_step (check_stands block s d left h.now h.stand)) (λ inv. checks (checks_on h inv) sees room (omega (arith, e))) (omega (arith, e))
    next short (checks {d = d} {left = zero} h sees room e) = goes h.now told one_validation (with_task 0 Idle s) (same one_validation (none_taken d 0 s)) (λ inv. rests (decides_on h inv) sees room (omega (arith, e))) (omega (arith, e))

    -- ---- whether workers are done

    -- if a step is left, workers are not done
    not_yet : 0 < n → Left n steps told s → is_done s ≡ false
    not_yet some (rests {d = d} h sees room e) = not_done block 1 s h.now.inv (λ o. let runs = h.now.runs_from in let all = o.execution in let none = rounds_past d (omega (arith, runs, all)) in omega (arith, some, e, none))
    not_yet some (runs call rest h sees room there from bears e) = not_done block 1 s h.now.inv (λ o. let idle = o.idle 0 in let does = h.now.does in cc)
    not_yet some (moves call h sees room there ends_so e) = not_done block 1 s h.now.inv (λ o. let idle = o.idle 0 in let does = h.now.does in cc)
    not_yet some (waits h sees room e) = not_done block 1 s h.now.inv (λ o. let runs = h.now.runs_from in let checks = h.now.checks_from in let p = o.execution in let q = o.validation in omega (arith, runs, checks, p, q))
    not_yet some (checks h sees room e) = not_done block 1 s h.now.inv (λ o. let idle = o.idle 0 in let does = h.now.does in cc)

    -- if no step is left, workers are done
    ended : n ≡ 0 → Left n steps told s → (is_done s ≡ true) × OneWorkerDid (length calls) steps (2 * length calls + told) told s
    ended none (rests {d = d} h sees room e) = elim (cases_lt d (length calls)) [
      | inl low ↦ let here = rounds_here d low in absurd (omega (arith, none, e, here))
      | inr high ↦ (over h high, did_all h high)
    ]
    ended none (runs call rest h sees room there from bears e) = absurd (omega (arith, none, e))
    ended none (moves call h sees room there ends_so e) = absurd (omega (arith, none, e))
    ended none (waits h sees room e) = absurd (omega (arith, none, e))
    ended none (checks h sees room e) = absurd (omega (arith, none, e))

    -- no run is blocked
    free : Left n steps told s → MeetsNoEstimate s
    free (rests h sees room e) = unblocked h.now (λ i b answers q. cc)
    free (runs call rest h sees room there from bears e) = unblocked h.now (λ i b others q. cc)
    free (moves call h sees room there ends_so e) = unblocked h.now (λ i b answers q. cc)
    free (waits h sees room e) = unblocked h.now (λ i b answers q. cc)
    free (checks h sees room e) = unblocked h.now (λ i b answers q. cc)

  -- ---- lists of steps

  -- k steps of the one worker from a state on
  abbrev alone : ℕ → State → Result State DriveRefusal
  alone k s = driven calls store 1 (replicate k 0) s

  used_up : (s : State) {b : Bool} → is_done s ≡ b → alone 0 s ≡ (if b then Ok s else Err NotDone)
  unfolding driven
  used_up s e = ap (λ b. if b then Ok s else Err NotDone) e

  one_step_on : (k : ℕ) (s t : State) → due_result calls store 0 s ≡ Some (Ok t) → alone (suc k) s ≡ alone k t
  unfolding driven
  one_step_on k s t e = ap (continue_drive (λ u. driven calls store 1 (replicate k 0) u)) e

  module _ (short : length calls ≤ 1024) where
    -- after fewer steps than are left, the worker is not done
    early : (k : ℕ) {n steps told : ℕ} {s : State} → k < n → Left n steps told s → alone k s ≡ Err NotDone
    early zero {s = s} l h = used_up s (not_yet l h)
    early (suc k) {s = s} l h = let x = next short h in one_step_on k s x.t x.due ∙ early k (omega (arith, l)) x.left

    -- after at least as many, the worker is done
    late : (k : ℕ) {n steps told : ℕ} {s : State} → n ≤ k → Left n steps told s → (t : State) × (more : ℕ) × (alone k s ≡ Ok t) × OneWorkerDid (length calls) (steps + k) (2 * length calls + more) more t × (more + n ≡ told + k)
    late zero {steps = steps} {told = told} {s = s} l h =
        let end = ended (omega (arith, l)) h in
        let all : steps ≡ steps + 0 = omega arith in (s, told, used_up s end.0, subst (λ x. OneWorkerDid (length calls) x (2 * length calls + told) told s) all end.1, omega (arith, l))
    late (suc k) {steps = steps} {s = s} l h =
        let x = next short h in
        let rest = late k (omega (arith, l)) x.left in
        let all : steps + 1 + k ≡ steps + suc k = omega arith in
        let told_one = x.told_is in let told_rest = rest.4 in
        (rest.0, rest.1, one_step_on k s x.t x.due ∙ rest.2, subst (λ y. OneWorkerDid (length calls) y (2 * length calls + rest.1) rest.1 rest.0) all rest.3, omega (arith, told_one, told_rest))

    -- no run is blocked on the way
    never_blocked : (k : ℕ) {n steps told : ℕ} {s : State} → Left n steps told s → NeverMeetsEstimate calls store (replicate k 0) s
    unfolding NeverMeetsEstimate
    never_blocked zero h = free h
    never_blocked (suc k) h = let x = next short h in (free h, subst (λ o. HoldsAfter (λ u. NeverMeetsEstimate calls store (replicate k 0) u) o) (sym x.due) (never_blocked k x.left))

    -- in the start state the rounds of all calls are left
    at_start : Left (rounds (works_in_order calls store)) 0 0 (start_state (length calls) 1)
    unfolding visible_below store_after
    at_start = rests (first block) (λ key. refl) (omega arith) refl

    -- one worker's counts
    pub counts_alone : HasOneWorkerCounts calls store
    counts_alone = record {
      works = works_in_order calls store;
      are_works = record { size = sized_works calls store; each = each_work calls store };
      before = λ k l. early k l at_start;
      after = λ k l.
          let rest = late k l at_start in
          let told = rest.4 in
          let told_is : rest.1 ≡ k - rounds (works_in_order calls store) = omega (arith, told) in
          let asks_are : 2 * length calls + rest.1 ≡ 2 * length calls + k - rounds (works_in_order calls store) = omega (arith, told) in
          let steps_are : 0 + k ≡ k = omega arith in (
            rest.0,
            rest.2,
            subst (λ x. OneWorkerDid (length calls) k (2 * length calls + k - rounds (works_in_order calls store)) x rest.0) told_is
                (subst (λ x. OneWorkerDid (length calls) k x rest.1 rest.0) asks_are (subst (λ x. OneWorkerDid (length calls) x (2 * length calls + rest.1) rest.1 rest.0) steps_are rest.3)),
          );
      free = λ k. never_blocked k at_start;
    }
