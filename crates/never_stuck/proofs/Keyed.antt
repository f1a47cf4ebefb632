-- If a run was answered a key that its call does not ask for, its answers bear out no receipt.
use Rattle.std.proofs.Common.{◌≡◌, ◌≢◌, ◌<◌, ◌++◌, ◌+◌, ℕ, false, List, [], ◌∷◌, length, None, Some, Ok, length-set, arith, sym, ap, subst, ◌∙◌}
use Rattle.std.proofs.lemmas.Bool.{false_from_ne_true}
use Rattle.std.proofs.lemmas.List.{get_or-set_same, length-replicate}
use Rattle.rv_ledger.specs.Key.{Storage}
use Rattle.rv_ledger.specs.Call.{Invocation}
use Rattle.rv_ledger.specs.declared.receipt.Receipt.{Receipt}
use Rattle.rv_step.specs.Asked.{asked_by}
use Rattle.rv_step.specs.Chain.{borne_out}
use Rattle.rv_step.specs.Replies.{replies_of}
use Rattle.rv_step.specs.declared.answer.StorageAnswer.{StorageAnswer}
use Rattle.rv_step.proofs.Askings.{chain_asks}
use Rattle.mvmap.specs.Reading.{reading}
use Rattle.stm_state.specs.declared.state.Status.TheVariants.{Executing}
use Rattle.stm_state.specs.declared.state.CallState.{CallState}
use Rattle.stm_state.specs.declared.state.Task.TheVariants.{Idle, Running}
use Rattle.stm_state.specs.State.{State, start_state, fresh, call_at, task_at, with_call, with_task, is_done}
use Rattle.stm_state.specs.Steps.{Block, Step, Ask, ReadKey, counted, one_asking, one_step, answered_with, step_with, worker_step}
use Rattle.stm_state.specs.Done.{Reached, started, stepped, block_of}
use Rattle.stm_state.proofs.StepsByTask.{IsMade, by_ask, by_read, by_park, by_record, by_move, by_finish, by_check, by_decide, by_mark, by_abort, made}
use Rattle.stm_state.proofs.Lists.{replicated}
use Rattle.stm_state.proofs.Tests.{idle_at_done}
use Rattle.stm_state.proofs.Walks.{walk_first, walk_none}
use Rattle.stm_state.proofs.InvariantKept.{start_kept}
use Rattle.never_stuck.specs.Astray.{KeyedListsGoAstray, NeverEnds}
use Rattle.never_stuck.proofs.RunReads.{ReadOutcome, answers_run, blocks_run, read_outcome, blocker_lower}
use Rattle.never_stuck.proofs.IdleStates.{asks_run}

-- worker 0 runs call 0, whose first answer was to this key
record IsAstray (key : List ℕ) (s : State) : Type 0 where
  first : StorageAnswer
  rest : List StorageAnswer
  task : task_at s 0 ≡ Running 0 (first ∷ rest) None
  key_is : first.key ≡ key
  there : 0 < length s.tasks

-- workers are not done there
not_done : (key : List ℕ) (s : State) → IsAstray key s → is_done s ≡ false
not_done key s h = false_from_ne_true (is_done s) (λ done. let idle = idle_at_done s done 0 in let runs = h.task in cc)

module _ (call : Invocation) (store : Storage) (key : List ℕ) (never : asked_by call [] ≢ Some key) where
  abbrev one_call : Block
  one_call = block_of (call ∷ []) store

  -- no receipt is borne out
  not_borne : (first : StorageAnswer) (rest : List StorageAnswer) (receipt : Receipt) → first.key ≡ key → borne_out call (replies_of (first ∷ rest)) ≡ Some receipt → ⊥
  not_borne first rest receipt is borne = never (chain_asks call [] (replies_of (first ∷ rest)) receipt borne ∙ ap Some is)

  -- a run of call 0 is the one that goes astray
  same_run : (i : ℕ) (answers : List StorageAnswer) (first : StorageAnswer) (rest : List StorageAnswer) → Running 0 (first ∷ rest) None ≡ Running i answers None → (i ≡ 0) × (answers ≡ first ∷ rest)
  same_run i answers first rest h = (cc, cc)

  -- a read by call 0
  reads_on : (s : State) (first : StorageAnswer) (rest : List StorageAnswer) (other : List ℕ) → first.key ≡ key → 0 < length s.tasks → ReadOutcome store other 0 (first ∷ rest) (reading s.versions other 0)
      → IsAstray key (counted one_step 0 (with_task 0 (answered_with store other 0 (first ∷ rest) (reading s.versions other 0)) s))
  reads_on s first rest other is there (answers_run answered) = record {
    first = first;
    rest = rest ++ answered.answer ∷ [];
    task = get_or-set_same s.tasks 0 (answered_with store other 0 (first ∷ rest) (reading s.versions other 0)) Idle there ∙ answered.task;
    key_is = is;
    there = let size = length-set s.tasks 0 (answered_with store other 0 (first ∷ rest) (reading s.versions other 0)) in omega (arith, size, there);
  }
  reads_on s first rest other is there (blocks_run b seen waits) = let less = blocker_lower s.versions other 0 b seen in absurd (omega (arith, less))

  -- each step leaves the run astray
  still_astray : (s : State) (step : Step) (t : State) → IsAstray key s → IsMade one_call 0 s step t → IsAstray key t
  still_astray s step t h (by_ask at) = let runs = h.task in cc
  still_astray s step t h (by_read i answers other at) =
      let same = same_run i answers h.first h.rest (sym h.task ∙ at) in
      subst (λ x. IsAstray key (counted one_step 0 (with_task 0 (answered_with store other x answers (reading s.versions other x)) s))) (sym same.0)
      (subst (λ x. IsAstray key (counted one_step 0 (with_task 0 (answered_with store other 0 x (reading s.versions other 0)) s))) (sym same.1)
      (reads_on s h.first h.rest other h.key_is h.there (read_outcome store other 0 (h.first ∷ h.rest) (reading s.versions other 0))))
  still_astray s step t h (by_park i b answers at below) = let runs = h.task in cc
  still_astray s step t h (by_record i answers receipt at bears below) =
      let same = same_run i answers h.first h.rest (sym h.task ∙ at) in
      absurd (not_borne h.first h.rest receipt h.key_is (subst (λ x. one_call.borne_out x (replies_of (h.first ∷ h.rest)) ≡ Some receipt) same.0 (subst (λ x. one_call.borne_out i (replies_of x) ≡ Some receipt) same.1 bears)))
  still_astray s step t h (by_move i other keys new at) = let runs = h.task in cc
  still_astray s step t h (by_finish i new at) = let runs = h.task in cc
  still_astray s step t h (by_check i n left at) = let runs = h.task in cc
  still_astray s step t h (by_decide i n left failed at last) = let runs = h.task in cc
  still_astray s step t h (by_mark i other keys at) = let runs = h.task in cc
  still_astray s step t h (by_abort i at) = let runs = h.task in cc

  -- so no list leads to the end
  never_ends : (s : State) → IsAstray key s → NeverEnds one_call 1 s
  never_ends s h [] t within comes = subst (λ x. is_done x ≡ false) (walk_none one_call s t comes) (not_done key s h)
  never_ends s h (entry ∷ entries) t within comes =
      let next = walk_first one_call entry entries s t comes in
      let worker : entry.0 ≡ 0 = let less = within.0 in omega (arith, less) in
      never_ends next.state (still_astray s entry.1 next.state h (made one_call 0 s next.state entry.1 (subst (λ x. worker_step one_call x entry.1 s ≡ Some (Ok next.state)) worker next.step))) entries t within.1 next.rest

  -- ---- how it goes astray

  -- the start state of the block
  abbrev first_state : State
  first_state = start_state one_call.count 1

  one_worker : 0 < length first_state.tasks
  one_worker = let size = length-replicate 1 Idle in omega (arith, size)

  -- worker 0 runs call 0
  abbrev running : State
  running = counted one_asking 0 (with_task 0 (Running 0 [] None) (with_call 0 (record (call_at first_state 0) { status = Executing }) (record first_state { execution = 0 + 1 })))

  asks : worker_step one_call 0 Ask first_state ≡ Some (Ok running)
  asks = ap (λ task. step_with one_call 0 task Ask first_state) (replicated 1 0 Idle)
      ∙ ap (λ u. Some (Ok (counted one_asking 0 u))) (asks_run one_call 1 first_state (start_kept one_call 1) 0 (omega arith) (omega arith) (ap (λ (c : CallState). c.status) (replicated 1 0 fresh)))

  running_is : task_at running 0 ≡ Running 0 [] None
  running_is = get_or-set_same first_state.tasks 0 (Running 0 [] None) Idle one_worker

  -- and reads the key
  abbrev astray : State
  astray = counted one_step 0 (with_task 0 (answered_with store key 0 [] (reading running.versions key 0)) running)

  reads : worker_step one_call 0 (ReadKey key) running ≡ Some (Ok astray)
  reads = ap (λ task. step_with one_call 0 task (ReadKey key) running) running_is

  goes_astray : ReadOutcome store key 0 [] (reading running.versions key 0) → IsAstray key astray
  goes_astray (answers_run answered) = record {
    first = answered.answer;
    rest = [];
    task = get_or-set_same running.tasks 0 (answered_with store key 0 [] (reading running.versions key 0)) Idle (let size = length-set first_state.tasks 0 (Running 0 [] None) in let one = one_worker in omega (arith, size, one)) ∙ answered.task;
    key_is = answered.at;
    there = let size = length-set first_state.tasks 0 (Running 0 [] None) in let again = length-set running.tasks 0 (answered_with store key 0 [] (reading running.versions key 0)) in let one = one_worker in omega (arith, size, again, one);
  }
  goes_astray (blocks_run b seen waits) = let less = blocker_lower running.versions key 0 b seen in absurd (omega (arith, less))

  astray_reached : Reached one_call 1 astray
  astray_reached = stepped 0 (ReadKey key) (stepped 0 Ask started (omega arith) asks) (omega arith) reads

pub keyed_lists_go_astray : KeyedListsGoAstray
keyed_lists_go_astray call store key never = (
  astray call store key never,
  astray_reached call store key never,
  never_ends call store key never (astray call store key never) (goes_astray call store key never (read_outcome store key 0 [] (reading (running call store key never).versions key 0))),
)
