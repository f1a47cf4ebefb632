-- The work of a list of steps is bounded by its incarnations.
use Rattle.std.proofs.Common.{◌≡◌, ◌<◌, ◌≤◌, ◌+◌, ◌*◌, ◌/◌, ℕ, zero, suc, true, false, if◌then◌else◌, List, length, slice_get, Option, None, Some, Ok, arith, refl, sym, ap, subst, ◌∙◌}
use Rattle.std.proofs.lemmas.List.{length-map}
use Rattle.rv_ledger.specs.Key.{Storage}
use Rattle.rv_ledger.specs.Call.{Invocation}
use Rattle.rv_step.specs.Replies.{reply_of, replies_of}
use Rattle.rv_step.specs.declared.answer.StorageAnswer.{StorageAnswer}
use Rattle.stm_state.specs.declared.state.CallState.{CallState}
use Rattle.stm_state.specs.declared.state.Task.TheVariants.{Idle}
use Rattle.stm_state.specs.State.{State, fresh, start_state, call_at, task_at}
use Rattle.stm_state.specs.Steps.{Step, ReadKey}
use Rattle.stm_state.specs.Done.{Reached, started, stepped, block_of}
use Rattle.stm_state.specs.Drive.{DrivenTo, at_start, made_step, due_result, due_step, due_step_of_run, asked_at}
use Rattle.stm_state.proofs.Invariant.{Invariant}
use Rattle.stm_state.proofs.Lists.{replicated}
use Rattle.stm_state.proofs.StepsByTask.{made}
use Rattle.stm_state.proofs.InvariantKept.{invariant_kept}
use Rattle.stm_state.proofs.DueSteps.{reached_where_led}
use Rattle.never_stuck.specs.Far.{HasAtMostGas}
use Rattle.never_stuck.proofs.UnstuckGoals.{Setting}
use Rattle.never_stuck.proofs.Bounded.{asks_early}
use Rattle.never_stuck.proofs.Sizes.{borne_small}
use Rattle.always_ends.specs.Work.{HasAtMost, WorksButReadsTo, at_start, went_on, WorksTo, begun, goes_on, incarnations, work_of, work_but_reads, work_by_incarnation}
use Rattle.always_ends.specs.Laws.{WorkButReadsIsBounded}
use Rattle.always_ends.proofs.Sums.{sum_to, sum_le, sum_same, sum_times, sum_list}
use Rattle.always_ends.proofs.Measure.{Bounds, check, ready, cost, cost_is, cost_told, stage, task_left, is_executed_in, left, brought, Uses, indices_most}
use Rattle.always_ends.proofs.UsedUp.{counts_all, made_uses, work_in}

-- ---- the start

-- what is kept with n calls, and with both indices, is no more than n incarnations bring
enough : (n r c : ℕ) → n * r + (c * n + n) ≤ n * (r + (c * n + n))
enough zero r c = omega arith
enough (suc n) r c = omega arith

module _ (b : Bounds) where
  fresh_at : (j : ℕ) → call_at (start_state b.block.count b.workers) j ≡ fresh
  fresh_at j = replicated b.block.count j fresh

  idle_at : (x : ℕ) → task_at (start_state b.block.count b.workers) x ≡ Idle
  idle_at x = replicated b.workers x Idle

  pub start_left : left b (start_state b.block.count b.workers) ≤ b.block.count * cost b
  start_left =
      let first = start_state b.block.count b.workers in
      let calls = sum_le b.block.count (λ j. stage b (call_at first j).status) (λ j. ready b) (λ j less. let e = ap (λ (c : CallState). stage b c.status) (fresh_at j) in omega (arith, e)) in
      let all = sum_same b.block.count (ready b) in
      let tasks = sum_le b.workers (λ x. task_left b (is_executed_in b first) (task_at first x)) (λ x. 0) (λ x less. let e = ap (task_left b (is_executed_in b first)) (idle_at x) in omega (arith, e)) in
      let none = sum_same b.workers 0 in
      let most = indices_most b 0 0 in
      let kept = cost_is b in
      let bound = enough b.block.count (ready b) (check b) in
      let total = ap (λ c. b.block.count * c) kept in
      omega (arith, calls, all, tasks, none, most, bound, total)

  -- ---- lists

  -- a list of steps, with its work and what is left after it
  pub step_used : (w : ℕ) (step : Step) (work more : ℕ) (s t : State) → more ≡ work_in b step s → Uses b (work_in b step s) s t → work + left b s ≤ b.block.count * cost b + brought b s → work + more + left b t ≤ b.block.count * cost b + brought b t
  step_used w step work more s t same used h = omega (arith, same, used, h)

  -- what the incarnations of a state brought
  pub brought_is : (s : State) → length s.calls ≡ b.block.count → brought b s ≡ cost b * incarnations s
  brought_is s size =
      sum_times b.block.count (cost b) (λ j. (call_at s j).incarnation)
      ∙ ap (λ n. cost b * sum_to n (λ j. (call_at s j).incarnation)) (sym size)
      ∙ ap (λ n. cost b * n) (sym (sum_list (λ (c : CallState). c.incarnation) fresh s.calls))

  bounded : (work : ℕ) (s : State) → length s.calls ≡ b.block.count → work + left b s ≤ b.block.count * cost b + brought b s → work ≤ (b.block.count + incarnations s) * work_by_incarnation b.workers b.block.count b.reads b.writes
  bounded work s size h =
      let is = brought_is s size in
      let all : work ≤ (b.block.count + incarnations s) * cost b = omega (arith, h, is) in
      subst (λ c. work ≤ (b.block.count + incarnations s) * c) (cost_told b) all

-- ---- any lists

module _ (b : Bounds) (free : b.counts_reads ≡ false) where
  reads_free : (step : Step) (s : State) → work_but_reads step s ≡ work_in b step s
  reads_free (ReadKey key) s = ap (λ c. if c then 1 else 0) (sym free)
  reads_free step s = refl

  reached_but_reads : (work : ℕ) (s : State) → WorksButReadsTo b.block b.workers work s → Reached b.block b.workers s
  reached_but_reads work s at_start = started
  reached_but_reads work t (went_on {s = s} w step before w_in k) = stepped w step (reached_but_reads _ s before) w_in k

  left_but_reads : (work : ℕ) (s : State) → WorksButReadsTo b.block b.workers work s → work + left b s ≤ b.block.count * cost b + brought b s
  left_but_reads work s at_start = let first = start_left b in omega (arith, first)
  left_but_reads work t (went_on {work = before_work} {s = s} w step before w_in k) =
      let inv = invariant_kept b.block b.workers s (reached_but_reads before_work s before) in
      step_used b w step before_work (work_but_reads step s) s t (reads_free step s) (made_uses b w s inv w_in step t (made b.block w s t step k) (λ i answers key is at counts. cc)) (left_but_reads before_work s before)

pub work_but_reads_is_bounded : WorkButReadsIsBounded
work_but_reads_is_bounded block workers reads writes work s small counted =
    let b : Bounds = record { block = block; workers = workers; reads = reads; writes = writes; small = small; counts_reads = false } in
    let inv = invariant_kept block workers s (reached_but_reads b refl work s counted) in
    bounded b work s inv.sized.calls (left_but_reads b refl work s counted)

-- ---- lists of worker numbers

module _ (calls : List Invocation) (store : Storage) (workers gas : ℕ) (most : HasAtMostGas gas calls) where
  abbrev setting : Setting
  setting = record { calls = calls; store = store; workers = workers; reads = gas / 200; most = λ i call at. let within = most i call at in omega (arith, within); strict = false }

  pub small_job : HasAtMost (gas / 200 + 1) 256 (block_of calls store)
  small_job i replies r e = borne_small setting i replies r e

  -- the job's bounds
  abbrev pub job : Bounds
  job = record { block = block_of calls store; workers = workers; reads = gas / 200 + 1; writes = 256; small = small_job; counts_reads = true }

  -- a run that owes a read had few answers
  asked_early : (i : ℕ) (answers : List StorageAnswer) (key : List ℕ) (o : Option Invocation) → slice_get calls i ≡ o → asked_at o (replies_of answers) ≡ Some key → length answers < gas / 200 + 1
  asked_early i answers key None at asks = cc
  asked_early i answers key (Some call) at asks =
      let early = asks_early call (replies_of answers) key asks in
      let size = length-map answers reply_of in
      let within = most i call at in omega (arith, early, size, within)

  owes_read : (o : Option (List ℕ)) (key : List ℕ) → due_step_of_run o ≡ ReadKey key → o ≡ Some key
  owes_read None key e = cc
  owes_read (Some other) key e = let same : other ≡ key = cc in ap Some same

  -- what an owed step uses up
  pub due_uses : (w : ℕ) (s t : State) → Invariant (block_of calls store) workers s → w < workers → due_result calls store w s ≡ Some (Ok t) → Uses job (work_of (due_step calls (task_at s w)) s) s t
  due_uses w s t inv w_in k =
      let step = due_step calls (task_at s w) in
      subst (λ x. Uses job x s t) (counts_all job refl step s)
      (made_uses job w s inv w_in step t (made (block_of calls store) w s t step k) (λ i answers key is at counts.
      let owes : due_step_of_run (asked_at (slice_get calls i) (replies_of answers)) ≡ ReadKey key = ap (due_step calls) (sym at) ∙ is in
      asked_early i answers key (slice_get calls i) refl (owes_read (asked_at (slice_get calls i) (replies_of answers)) key owes)))

  works_led : (work : ℕ) (s : State) → WorksTo calls store workers work s → DrivenTo calls store workers s
  works_led work s begun = at_start
  works_led work t (goes_on {s = s} w before w_in k) = made_step w (works_led _ s before) w_in k

  pub led_invariant : (s : State) → DrivenTo calls store workers s → Invariant (block_of calls store) workers s
  led_invariant s led = invariant_kept (block_of calls store) workers s (reached_where_led calls store workers s led)

  work_left : (work : ℕ) (s : State) → WorksTo calls store workers work s → work + left job s ≤ length calls * cost job + brought job s
  work_left work s begun = let first = start_left job in omega (arith, first)
  work_left work t (goes_on {work = before_work} {s = s} w before w_in k) =
      let used = due_uses w s t (led_invariant s (works_led before_work s before)) w_in k in
      let rest = work_left before_work s before in omega (arith, used, rest)

  -- the work of a list
  pub work_few : (work : ℕ) (s : State) → WorksTo calls store workers work s → DrivenTo calls store workers s × (work ≤ (length calls + incarnations s) * work_by_incarnation workers (length calls) (gas / 200 + 1) 256)
  work_few work s works =
      let led = works_led work s works in
      (led, bounded job work s (led_invariant s led).sized.calls (work_left work s works))
