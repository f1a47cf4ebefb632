-- The steps that change what a call may have read, or may wait for, and the records, are few for each incarnation.
use Rattle.std.proofs.Common.{◌≡◌, ◌≤◌, ◌+◌, ◌*◌, ℕ, arith, subst}
use Rattle.mvmap.specs.Versions.{Versions}
use Rattle.stm_state.specs.State.{State, call_at}
use Rattle.stm_state.specs.Steps.{Step}
use Rattle.stm_state.specs.declared.state.Task.{Task}
use Rattle.always_ends.proofs.Sums.{sum_to}
use Rattle.always_ends.proofs.Measure.{Bounds}
use Rattle.always_ends.proofs.Prices.{Prices, price, ComesTo, comes_few, most, most_is, executed_is, run_is}

-- one for each key of a lower call that is marked, or is moved if the call has no entry there, and one for the end of its
-- execution
abbrev pub of_changes : Prices
of_changes = record { of_record = 0; of_key = 1; of_end = 1; of_mark = 1 }

abbrev pub changes : ℕ → Step → Task → Versions → ℕ
changes top step task versions = price of_changes top step task versions

abbrev pub ChangesTo : Bounds → ℕ → ℕ → State → Type 0
ChangesTo b top n s = ComesTo b of_changes top n s

pub changes_few : (b : Bounds) (top n : ℕ) (s : State) → ChangesTo b top n s → n ≤ (2 * b.writes + 1) * sum_to top (λ j. (call_at s j).incarnation + 1)
changes_few b top n s h =
    let kept = most_is b of_changes top in
    let done = executed_is b of_changes top in
    let runs = run_is b of_changes top in
    let same : most b of_changes top ≡ 2 * b.writes + 1 = omega (arith, kept, done, runs) in
    subst (λ c. n ≤ c * sum_to top (λ j. (call_at s j).incarnation + 1)) same (comes_few b of_changes top n s h)

-- one for each record
abbrev pub of_records : Prices
of_records = record { of_record = 1; of_key = 0; of_end = 0; of_mark = 0 }
