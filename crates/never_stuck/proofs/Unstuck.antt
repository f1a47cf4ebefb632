-- From each state that owed steps lead to, owed steps lead to the end.
use Rattle.std.proofs.Common.{◌≡◌, ◌<◌, ◌≤◌, ◌⊎◌, ◌+◌, ◌-◌, ◌*◌, min, ℕ, zero, suc, true, length, Some, Ok, arith, refl, sym, ap, subst, ◌∙◌, inl, inr}
use Rattle.std.proofs.lemmas.Bool.{cases_eq, cases_lt}
use Rattle.std.proofs.lemmas.List.{get_or_past}
use Rattle.stm_state.specs.declared.state.Status.TheVariants.{Ready, Executed}
use Rattle.stm_state.specs.declared.state.CallState.{CallState}
use Rattle.stm_state.specs.declared.state.Task.TheVariants.{Idle}
use Rattle.stm_state.specs.Limits.{incarnation_limit}
use Rattle.stm_state.specs.State.{State, call_at, task_at}
use Rattle.stm_state.specs.Steps.{counted, one_asking}
use Rattle.never_stuck.proofs.UnstuckGoals.{Setting, block}
use Rattle.never_stuck.proofs.OwedLists.{AreDone, Comes, comes_here, comes_more, comes_so}
use Rattle.never_stuck.proofs.Kept.{Stays}
use Rattle.never_stuck.proofs.OwedSteps.{IsSound, due_at, steps_on, comes_then}
use Rattle.never_stuck.proofs.Tasks.{IsBelow}
use Rattle.never_stuck.proofs.Workers.{workers_settle}
use Rattle.never_stuck.proofs.IdleStates.{below_executed, next_status, done_is, asks_past}
use Rattle.never_stuck.proofs.Attended.{Attended, runs_next, validates_again}

-- a call is READY, or below both indices
abbrev IsRested : ℕ → State → Type 0
IsRested j s = ((call_at s j).status ≡ Ready) ⊎ ((j < s.execution) × (j < s.validation))

-- no incarnation is above a number, and only those of rested calls are at it
abbrev IsUnder : ℕ → State → Type 0
IsUnder top s = (j : ℕ) → ((call_at s j).incarnation < top) ⊎ (((call_at s j).incarnation ≤ top) × IsRested j s)

-- nobody has a task, and incarnations are under a number
record IsResting (top : ℕ) (s : State) : Type 0 where
  idle : (x : ℕ) → task_at s x ≡ Idle
  under : IsUnder top s

module _ (setting : Setting) where
  -- a bound on the rounds that are left, and one on the records that are left
  abbrev rounds_left : State → ℕ
  rounds_left s = 2 * ((block setting).count - s.execution) + (s.execution - s.validation)

  abbrev records_left : State → ℕ
  records_left s = (block setting).count - min s.execution s.validation

  -- a round with at most q records was made
  record Advances (top q : ℕ) (s t : State) : Type 0 where
    resting : IsResting top t
    nearer : rounds_left t < rounds_left s
    fewer : records_left t + q ≤ records_left s

  -- ---- incarnations

  module _ (top : ℕ) (s : State) (h : IsSound setting s) (rests : IsResting top s) where
    -- each other call stays under it: one that is readied was below it, and is READY now
    stays_under : (i : ℕ) → min s.execution s.validation ≡ i → (t : State) → i < t.execution → i < t.validation → (j : ℕ) → Stays (call_at s j) (call_at t j) → ((call_at t j).incarnation < top) ⊎ (((call_at t j).incarnation ≤ top) × IsRested j t)
    stays_under i at t runs checks j (inl same) = elim (rests.under j) [
      | inl less ↦ inl (let now = ap (λ (c : CallState). c.incarnation) same in omega (arith, less, now))
      | inr most ↦
          let now = ap (λ (c : CallState). c.incarnation) same in
          let high = most.0 in
          inr (
            omega (arith, high, now),
            elim most.1 [
              | inl ready ↦ inl (ap (λ (c : CallState). c.status) same ∙ ready)
              | inr below ↦ let first = below.0 in let second = below.1 in inr (omega (arith, first, second, at, runs), omega (arith, first, second, at, checks))
            ],
          )
    ]
    stays_under i at t runs checks j (inr readied) =
        let now = ap (λ (c : CallState). c.incarnation) readied.1 in
        let aborts = readied.0 in
        elim (rests.under j) [
          | inl less ↦ inr (omega (arith, less, now), inl (ap (λ (c : CallState). c.status) readied.1))
          | inr most ↦ elim most.1 [
            | inl ready ↦ cc
            | inr below ↦ let done = below_executed (block setting) s h.inv.facts rests.idle j below.0 in cc
          ]
        ]

    -- so it is with all calls, after the call of the lower index is attended to
    resting_after : (i grown execution : ℕ) (t : State) → min s.execution s.validation ≡ i → i < execution → (call_at s i).incarnation + grown ≤ top → Attended i grown execution s t → IsResting top t
    resting_after i grown execution t at runs low done = record {
      idle = done.idle;
      under = λ j. elim (cases_eq j i) [
        | inl e ↦ subst (λ x. ((call_at t x).incarnation < top) ⊎ (((call_at t x).incarnation ≤ top) × IsRested x t)) (sym e) (let up = done.risen in inr (omega (arith, up, low), inr (past_runs, done.checks_from)))
        | inr ne ↦ stays_under i at t past_runs done.checks_from j (done.others j ne)
      ];
    }
      where
        past_runs : i < t.execution
        past_runs = let index = done.runs_from in omega (arith, index, runs)

    -- ---- a round

    -- the incarnation of an EXECUTED call that is not below the validation index is below it
    not_rested : (i : ℕ) → s.validation ≤ i → (call_at s i).status ≡ Executed → (call_at s i).incarnation < top
    not_rested i high done = elim (rests.under i) [ inl less ↦ less | inr most ↦ elim most.1 [ inl ready ↦ cc | inr below ↦ let low = below.1 in absurd (omega (arith, low, high)) ] ]

    -- and none is above it
    at_most : (i : ℕ) → (call_at s i).incarnation ≤ top
    at_most i = elim (rests.under i) [ inl less ↦ omega (arith, less) | inr most ↦ most.0 ]

    module _ (w_in : 0 < setting.workers) (limit : setting.strict ≡ true → top < incarnation_limit) where
      -- a call is validated
      validating_round : s.validation < s.execution → Comes setting (Advances top 1 s) (4 * setting.reads + 1300) 1 s
      validating_round behind =
          let within = h.inv.facts.execution_within in
          let done = below_executed (block setting) s h.inv.facts rests.idle s.validation behind in
          let less = not_rested s.validation (omega arith) done in
          comes_so (λ t x. let index = x.runs_from in let past = x.checks_from in record {
            resting = resting_after s.validation 1 s.execution t (omega (arith, behind)) behind (omega (arith, less)) x;
            nearer = omega (arith, index, past, behind);
            fewer = omega (arith, index, past, behind, within);
          }) (validates_again setting w_in s h rests.idle behind (λ is. let low = limit is in omega (arith, less, low)))

      module _ (level : s.execution ≤ s.validation) (within : s.execution < (block setting).count) where
        -- a call is run
        running_round : (call_at s s.execution).status ≡ Ready → Comes setting (Advances top 1 s) (4 * setting.reads + 1300) 1 s
        running_round ready =
            let most = at_most s.execution in
            comes_so (λ t x. let index = x.runs_from in let past = x.checks_from in record {
              resting = resting_after s.execution 0 (s.execution + 1) t (omega (arith, level)) (omega arith) (omega (arith, most)) x;
              nearer = omega (arith, index, past, level, within);
              fewer = omega (arith, index, past, level, within);
            }) (runs_next setting w_in s h rests.idle level within ready (λ is. let low = limit is in omega (arith, most, low)))

        -- a call is passed, which is EXECUTED already
        passing_round : (call_at s s.execution).status ≡ Executed → Comes setting (Advances top 0 s) (4 * setting.reads + 1300) 0 s
        passing_round done =
            let t : State = counted one_asking 0 (record s { execution = s.execution + 1 }) in
            steps_on setting 0 w_in s h 0 t (due_at setting 0 s Idle (rests.idle 0) ∙ ap (λ u. Some (Ok (counted one_asking 0 u))) (asks_past (block setting) setting.workers s h.inv 0 level within done)) refl (omega arith)
            (λ _. comes_here (record {
              resting = record {
                idle = rests.idle;
                under = λ j. elim (rests.under j) [
                  | inl less ↦ inl less
                  | inr most ↦ inr (most.0, elim most.1 [ inl ready ↦ inl ready | inr below ↦ let low = below.0 in inr (omega (arith, low), below.1) ])
                ];
              };
              nearer = omega (arith, level, within);
              fewer = omega (arith, level, within);
            }))

  -- ---- all rounds

  module _ (w_in : 0 < setting.workers) (top : ℕ) (limit : setting.strict ≡ true → top < incarnation_limit) where
    -- workers are done within m rounds
    abbrev EndsIn : ℕ → Type 0
    EndsIn m = (s : State) → rounds_left s ≤ m → IsSound setting s → IsResting top s → Comes setting AreDone (m * (4 * setting.reads + 1300)) (records_left s) s

    -- workers are done if both indices are past the last call
    over_at_last : (s : State) → IsSound setting s → IsResting top s → s.execution ≤ s.validation → (block setting).count ≤ s.execution → AreDone s
    over_at_last s h rests level over =
        let runs = h.inv.facts.execution_within in let checks = h.inv.facts.validation_within in
        done_is (block setting) setting.workers s h.inv (omega (arith, runs, over)) (omega (arith, runs, checks, level, over)) rests.idle

    -- after a round, in the ones that are left
    round_then : (m q : ℕ) (s : State) → EndsIn m → rounds_left s ≤ suc m → q ≤ records_left s → IsSound setting s → Comes setting (Advances top q s) (4 * setting.reads + 1300) q s → Comes setting AreDone (suc m * (4 * setting.reads + 1300)) (records_left s) s
    round_then m q s rest few room h round =
        comes_then setting (m * (4 * setting.reads + 1300)) (records_left s - q) h round
        (λ t k x. let nearer = x.nearer in let fewer = x.fewer in comes_more (omega arith) (omega (arith, fewer)) (rest t (omega (arith, few, nearer)) k x.resting))
        (omega arith) (omega (arith, room))

    -- whatever the next round is
    run_round : (m : ℕ) (s : State) → EndsIn m → rounds_left s ≤ suc m → IsSound setting s → IsResting top s → s.execution ≤ s.validation → s.execution < (block setting).count → Comes setting AreDone (suc m * (4 * setting.reads + 1300)) (records_left s) s
    run_round m s rest few h rests level within = elim (next_status (block setting) s h.inv.facts rests.idle) [
      | inl ready ↦ round_then m 1 s rest few (omega (arith, level, within)) h (running_round top s h rests w_in limit level within ready)
      | inr done ↦ round_then m 0 s rest few (omega arith) h (passing_round top s h rests w_in limit level within done)
    ]

    any_round : (m : ℕ) (s : State) → EndsIn m → rounds_left s ≤ suc m → IsSound setting s → IsResting top s → Comes setting AreDone (suc m * (4 * setting.reads + 1300)) (records_left s) s
    any_round m s rest few h rests = elim (cases_lt s.validation s.execution) [
      | inl behind ↦ let within = h.inv.facts.execution_within in round_then m 1 s rest few (omega (arith, behind, within)) h (validating_round top s h rests w_in limit behind)
      | inr level ↦ elim (cases_lt s.execution (block setting).count) [
        | inl within ↦ run_round m s rest few h rests level within
        | inr over ↦ comes_here (over_at_last s h rests level over)
      ]
    ]

    rounds_end : (m : ℕ) → EndsIn m
    rounds_end zero s few h rests = comes_here (over_at_last s h rests (omega (arith, few)) (omega (arith, few)))
    rounds_end (suc m) s few h rests = any_round m s (rounds_end m) few h rests

-- ---- from any state

module _ (setting : Setting) where
  -- first the workers end their tasks, and then worker 0 alone makes the rounds
  pub comes_to_end : 0 < setting.workers → (c : ℕ) (s : State) → IsBelow c s → (setting.strict ≡ true → c + 2 * setting.workers + 1 < incarnation_limit) → IsSound setting s
      → Comes setting AreDone ((setting.workers + 2 * length setting.calls) * (4 * setting.reads + 1300)) (2 * setting.workers + length setting.calls) s
  comes_to_end w_in c s below limit h =
      let count = length setting.calls in
      let size = h.inv.sized.tasks in
      comes_then setting (2 * count * (4 * setting.reads + 1300)) count h
      (workers_settle setting setting.workers c s (omega arith) (λ x past. get_or_past s.tasks x Idle (omega (arith, size, past))) below (λ is. let low = limit is in omega (arith, low)) h)
      (λ t k x. let within = k.inv.facts.execution_within in comes_more (omega arith) (omega arith) (rounds_end setting w_in (c + 2 * setting.workers + 1) limit (2 * count) t (omega (arith, within)) k (record {
        idle = x.idle;
        under = λ j. inl (let most = (x.low j).0 in omega (arith, most));
      })))
      (omega arith) (omega arith)
