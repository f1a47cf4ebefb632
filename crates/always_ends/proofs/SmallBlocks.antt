-- On a small block no list of steps meets a limit.
use Rattle.std.proofs.Common.{◌≡◌, ◌<◌, ◌≤◌, ◌+◌, ◌-◌, ◌*◌, ◌^◌, ◌&&◌, nat_lt, nat_le, ℕ, zero, suc, Bool, true, false, cond, List, [], ◌∷◌, length, Option, None, Some, Result, Ok, Err, arith, refl, ap, ◌∙◌}
use Rattle.std.specs.FinMap.{len}
use Rattle.std.proofs.lemmas.Bool.{cond_both}
use Rattle.std.proofs.lemmas.Bool.Decides.{nat_tests}
use Rattle.std.proofs.Math.Nat.{mul-le-mul_left, pow-le-pow_right}
use Rattle.rv_ledger.specs.declared.receipt.Receipt.{Receipt}
use Rattle.rv_step.specs.Replies.{replies_of}
use Rattle.rv_step.specs.declared.answer.StorageAnswer.{StorageAnswer}
use Rattle.stm_state.specs.declared.state.Task.{Task}
use Rattle.stm_state.specs.declared.state.Task.TheVariants.{Idle, Running, Moving, Validating, Marking}
use Rattle.stm_state.specs.Limits.{incarnation_limit, record_limit}
use Rattle.stm_state.specs.State.{State, call_at, task_at, is_done, is_executed, is_ready}
use Rattle.stm_state.specs.Steps.{Block, Step, Ask, ReadKey, Park, Record, MoveKey, FinishExecution, CheckRead, Decide, MarkEstimate, FinishAbort, Limit, ArenaFull, IncarnationLimit, counted, one_execution, one_step, ask_validation, ask_execution, after_ask, after_park, after_record, after_finish_execution, after_check_read, after_decide, after_finish_abort, is_executed_at, next_stands, record_within, resume_dependents, step_with, to_validate}
use Rattle.stm_state.specs.Done.{Reached, started, stepped}
use Rattle.stm_state.proofs.Invariant.{Invariant}
use Rattle.stm_state.proofs.StepsByTask.{IsMade, by_ask, by_read, by_park, by_record, by_move, by_finish, by_check, by_decide, by_mark, by_abort, made}
use Rattle.stm_state.proofs.Tests.{lt_is, lt_says}
use Rattle.stm_state.proofs.InvariantKept.{invariant_kept}
use Rattle.std.proofs.lemmas.Bool.{cond-true}
use Rattle.always_ends.specs.Work.{IsSmall, incarnations, most_incarnations}
use Rattle.always_ends.specs.Laws.{SmallBlocksMeetNoLimit, EightCallsAreSmall}
use Rattle.always_ends.proofs.Sums.{le_through, sum_to}
use Rattle.always_ends.proofs.Measure.{Bounds}
use Rattle.always_ends.proofs.UsedUp.{named_in}
use Rattle.always_ends.proofs.Prices.{ComesTo, unchanged, one_more, comes_few_in_run, executed_is, most, most_is, price, run_is}
use Rattle.always_ends.proofs.Changes.{of_records}
use Rattle.always_ends.proofs.Powers.{all_bounded, all_of, bounds_of, incarnations_are_bounded}

-- ---- the steps that are refused

ok_err : (s : State) (e : Limit) → ◌≡◌ {A = Option (Result State Limit)} (Some (Ok s)) (Some (Err e)) → ⊥
ok_err s e h = cc

none_err : (e : Limit) → ◌≡◌ {A = Option (Result State Limit)} None (Some (Err e)) → ⊥
none_err e h = cc

-- a run is refused: its record does not fit the arena, or the incarnation of its call is at the limit
data IsRefused (block : Block) (w : ℕ) (s : State) : Type 0 where
  is_full : (i : ℕ) (answers : List StorageAnswer) (receipt : Receipt) → task_at s w ≡ Running i answers None → block.borne_out i (replies_of answers) ≡ Some receipt → record_limit < s.record_count + len receipt.writes → IsRefused block w s
  is_spent : (i : ℕ) (answers : List StorageAnswer) (waits : Option ℕ) → task_at s w ≡ Running i answers waits → incarnation_limit ≤ (call_at s i).incarnation → IsRefused block w s

le_says : (a b : ℕ) → nat_le a b ≡ true → a ≤ b
le_says a b h = grind (arith, nat_tests)

module _ (block : Block) (w : ℕ) (s : State) (limit : Limit) where
  record_refused : (i : ℕ) (answers : List StorageAnswer) (o : Option Receipt) → task_at s w ≡ Running i answers None → block.borne_out i (replies_of answers) ≡ o → record_within i answers w o s ≡ Some (Err limit) → IsRefused block w s
  record_refused i answers None at bears k = absurd (none_err limit k)
  record_refused i answers (Some receipt) at bears k = go (nat_lt record_limit (s.record_count + len receipt.writes)) (nat_le incarnation_limit (call_at s i).incarnation) refl refl k
    where
      go : (full spent : Bool) → nat_lt record_limit (s.record_count + len receipt.writes) ≡ full → nat_le incarnation_limit (call_at s i).incarnation ≡ spent
          → cond full (Some (Err ArenaFull)) (cond spent (Some (Err IncarnationLimit)) (Some (Ok (counted one_execution w (after_record w i answers receipt s))))) ≡ Some (Err limit) → IsRefused block w s
      go true spent over high k = is_full i answers receipt at bears (lt_says record_limit (s.record_count + len receipt.writes) over)
      go false true over high k = is_spent i answers None at (le_says incarnation_limit (call_at s i).incarnation high)
      go false false over high k = absurd (ok_err _ limit k)

  park_refused : (i on : ℕ) (answers : List StorageAnswer) → task_at s w ≡ Running i answers (Some on) → (spent : Bool) → nat_le incarnation_limit (call_at s i).incarnation ≡ spent
      → cond spent (Some (Err IncarnationLimit)) (Some (Ok (counted one_step w (after_park w i on s)))) ≡ Some (Err limit) → IsRefused block w s
  park_refused i on answers at true high k = is_spent i answers (Some on) at (le_says incarnation_limit (call_at s i).incarnation high)
  park_refused i on answers at false high k = absurd (ok_err _ limit k)

  refused_by : (task : Task) → task_at s w ≡ task → (step : Step) → step_with block w task step s ≡ Some (Err limit) → IsRefused block w s
  refused_by Idle at Ask k = absurd (ok_err _ limit k)
  refused_by (Running i answers None) at (ReadKey key) k = absurd (ok_err _ limit k)
  refused_by (Running i answers (Some on)) at Park k = park_refused i on answers at (nat_le incarnation_limit (call_at s i).incarnation) refl k
  refused_by (Running i answers None) at Record k = record_refused i answers (block.borne_out i (replies_of answers)) at refl k
  refused_by (Moving i (key ∷ keys) new) at MoveKey k = absurd (ok_err _ limit k)
  refused_by (Moving i [] new) at FinishExecution k = absurd (ok_err _ limit k)
  refused_by (Validating i n more true) at Decide k = absurd (ok_err _ limit k)
  refused_by (Validating i n (suc more) false) at CheckRead k = absurd (ok_err _ limit k)
  refused_by (Validating i n zero false) at Decide k = absurd (ok_err _ limit k)
  refused_by (Marking i (key ∷ keys)) at MarkEstimate k = absurd (ok_err _ limit k)
  refused_by (Marking i []) at FinishAbort k = absurd (ok_err _ limit k)
  refused_by task at step k = absurd (none_err limit k)

-- ---- records fit

module _ (b : Bounds) (w : ℕ) (s : State) (inv : Invariant b.block b.workers s) (w_in : w < b.workers) where
  abbrev Fits : State → ℕ → Type 0
  Fits t more = t.record_count ≤ s.record_count + b.writes * more

  validation_fits : Fits (ask_validation w s) 0
  unfolding ask_validation
  validation_fits = cond_both (is_executed (call_at s s.validation).status) _ _ (λ t. Fits t 0) (λ _. omega arith) (λ _. omega arith)

  execution_fits : Fits (ask_execution w s) 0
  unfolding ask_execution
  execution_fits = cond_both (is_ready (call_at s s.execution).status) _ _ (λ t. Fits t 0) (λ _. omega arith) (λ _. omega arith)

  ask_fits : Fits (after_ask w s) 0
  ask_fits = cond_both (is_done s) _ _ (λ t. Fits t 0) (λ _. omega arith)
      (λ _. cond_both (nat_lt s.validation s.execution) _ _ (λ t. Fits t 0) (λ _. validation_fits)
      (λ _. cond_both (nat_lt s.execution (length s.calls)) _ _ (λ t. Fits t 0) (λ _. execution_fits) (λ _. omega arith)))

  park_fits : (i on : ℕ) → Fits (after_park w i on s) 0
  unfolding after_park
  park_fits i on = cond_both (is_executed (call_at s on).status) _ _ (λ t. Fits t 0) (λ _. omega arith) (λ _. omega arith)

  finish_fits : (i : ℕ) (new : Bool) → Fits (after_finish_execution w i new s) 0
  unfolding to_validate resume_dependents
  finish_fits i new = cond_both (nat_lt i s.validation) _ _ (λ t. Fits t 0) (λ _. cond_both new _ _ (λ t. Fits t 0) (λ _. omega arith) (λ _. omega arith)) (λ _. omega arith)

  check_fits : (i n more : ℕ) → Fits (after_check_read w i n more s) 0
  unfolding after_check_read
  check_fits i n more = cond_both (is_executed_at n (call_at s i)) _ _ (λ t. Fits t 0) (λ _. cond_both (next_stands i (suc more) s) _ _ (λ t. Fits t 0) (λ _. omega arith) (λ _. omega arith)) (λ _. omega arith)

  decide_fits : (i n : ℕ) (failed : Bool) → Fits (after_decide w i n failed s) 0
  unfolding after_decide
  decide_fits i n failed = cond_both (failed && is_executed_at n (call_at s i)) _ _ (λ t. Fits t 0) (λ _. omega arith) (λ _. omega arith)

  abort_fits : (i : ℕ) → Fits (after_finish_abort w i s) 0
  unfolding after_finish_abort
  abort_fits i = cond_both (nat_lt i s.execution) _ _ (λ t. Fits t 0) (λ _. omega arith) (λ _. omega arith)

  -- a record of call i counts
  counts_one : (i : ℕ) (answers : List StorageAnswer) → task_at s w ≡ Running i answers None → price of_records b.block.count Record (task_at s w) s.versions ≡ 1
  counts_one i answers at = ap (λ task. price of_records b.block.count Record task s.versions) at ∙ cond-true (nat_lt i b.block.count) 1 0 (lt_is i b.block.count (named_in b w s inv w_in (Running i answers None) i at refl))

  made_fits : (step : Step) (t : State) → IsMade b.block w s step t → Fits t (price of_records b.block.count step (task_at s w) s.versions)
  made_fits step t (by_ask at) = ask_fits
  made_fits step t (by_read i answers key at) = omega arith
  made_fits step t (by_park i on answers at low) = park_fits i on
  made_fits step t (by_record i answers receipt at bears low) =
      let few = (b.small i (replies_of answers) receipt bears).0 in
      let one = ap (λ n. b.writes * n) (counts_one i answers at) in
      omega (arith, few, one)
  made_fits step t (by_move i key keys new at) = omega arith
  made_fits step t (by_finish i new at) =
      let fits = finish_fits i new in
      omega (arith, fits)
  made_fits step t (by_check i n more at) = check_fits i n more
  made_fits step t (by_decide i n more failed at last) = decide_fits i n failed
  made_fits step t (by_mark i key keys at) = omega arith
  made_fits step t (by_abort i at) = abort_fits i

-- if `most` records of `writes` writes each fit, so does one more record
no_room : (writes number most placed more : ℕ) → placed ≤ writes * number → more ≤ writes → writes * (number + 1) ≤ writes * most → writes * most ≤ record_limit → record_limit < placed + more → ⊥
no_room writes number most placed more fits few times room over = omega (arith, fits, few, times, room, over)

power_grows : (writes i j : ℕ) → i ≤ j → (2 * writes + 2) ^ i ≤ (2 * writes + 2) ^ j
power_grows writes i j less = pow-le-pow_right (omega arith) less

module _ (b : Bounds) where
  -- the records on the way to a state, and that their writes fit
  record HasRecords (s : State) : Type 0 where
    number : ℕ
    made : ComesTo b of_records b.block.count number s
    fits : s.record_count ≤ b.writes * number

  has_records : (s : State) → Reached b.block b.workers s → HasRecords s
  has_records s started = record { number = 0; made = unchanged; fits = omega arith }
  has_records t (stepped {s} w step before w_in k) =
      let rest = has_records s before in
      let inv = invariant_kept b.block b.workers s before in
      let more = made_fits b w s inv w_in step t (made b.block w s t step k) in
      let fit = rest.fits in
      record { number = rest.number + price of_records b.block.count step (task_at s w) s.versions; made = one_more w step rest.made w_in k; fits = omega (arith, more, fit) }

  -- while a run is not over, its record is still to come
  one_left : (s : State) → Reached b.block b.workers s → (w i : ℕ) (answers : List StorageAnswer) (waits : Option ℕ) → w < b.workers → task_at s w ≡ Running i answers waits → (h : HasRecords s) → h.number + 1 ≤ b.block.count + incarnations s
  one_left s reached w i answers waits w_in at h =
      let inv = invariant_kept b.block b.workers s reached in
      let all = comes_few_in_run b of_records b.block.count h.number s h.made w i answers waits w_in (named_in b w s inv w_in (Running i answers waits) i at refl) at in
      let total = all_of b s inv.sized.calls in
      let kept = most_is b of_records b.block.count in
      let done = executed_is b of_records b.block.count in
      let runs = run_is b of_records b.block.count in
      let one : most b of_records b.block.count ≡ 1 = omega (arith, kept, done, runs) in
      let times = ap (λ c. c * sum_to b.block.count (λ j. (call_at s j).incarnation + 1)) one in
      omega (arith, all, total, runs, times)

  -- on a small block nothing is refused
  none_refused : (s : State) → Reached b.block b.workers s → (w : ℕ) → w < b.workers → IsSmall b.block.count b.writes → ((i : ℕ) → (call_at s i).incarnation < (2 * b.writes + 2) ^ i) → IsRefused b.block w s → ⊥
  none_refused s reached w w_in small low (is_full i answers receipt at bears over) =
      let h = has_records s reached in
      let fits = h.fits in
      let left = one_left s reached w i answers None w_in at h in
      let all = all_bounded b s reached in
      let few = (b.small i (replies_of answers) receipt bears).0 in
      let room = small.room in
      let through : h.number + 1 ≤ most_incarnations b.block.count b.writes = le_through (h.number + 1) (b.block.count + incarnations s) (most_incarnations b.block.count b.writes) left all in
      let times = mul-le-mul_left b.writes through in
      no_room b.writes h.number (most_incarnations b.block.count b.writes) s.record_count (len receipt.writes) fits few times room over
  none_refused s reached w w_in small low (is_spent i answers waits at high) =
      let inv = invariant_kept b.block b.workers s reached in
      let i_in = named_in b w s inv w_in (Running i answers waits) i at refl in
      let below_it = low i in
      let power = power_grows b.writes i (b.block.count - 1) (omega (arith, i_in)) in
      let most_low = small.low in
      omega (arith, high, below_it, power, most_low)

pub small_blocks_meet_no_limit : SmallBlocksMeetNoLimit
small_blocks_meet_no_limit block workers reads writes limit most_of small meets =
    none_refused (bounds_of block workers reads writes most_of) meets.state meets.reached meets.worker meets.within small (λ i. incarnations_are_bounded block workers reads writes meets.state i most_of meets.reached)
    (refused_by block meets.worker meets.state limit (task_at meets.state meets.worker) refl meets.step meets.refused)

-- ---- eight calls

pub eight_calls_are_small : EightCallsAreSmall
eight_calls_are_small count few = record {
  room =
      let power = power_grows 1 count 8 few in
      omega (arith, power);
  low = let power = power_grows 1 (count - 1) 7 (omega (arith, few)) in omega (arith, power);
}
