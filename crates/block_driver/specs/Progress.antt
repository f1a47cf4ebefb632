-- What a worker has of a run, and what it needs to go on.
use Rattle.std.specs.Prelude.{⊤, ◌≡◌, ℕ, Bool, true, false, List, [], ◌∷◌, ◌++◌, Option, Some, None}
use Rattle.std.specs.FinMap as map
use Rattle.rv_ledger.specs.Call.{Invocation}
use Rattle.rv_ledger.specs.Key.{Storage}
use Rattle.rv_step.specs.declared.answer.StorageAnswer.{StorageAnswer}
use Rattle.rv_step.specs.Growth.{TakesMemory}
use Rattle.block_driver.specs.declared.progress.Progress.{Progress}
use Rattle.block_driver.specs.declared.progress.Progress.TheVariants as progress
use Rattle.block_driver.specs.declared.worker.Need.{Need}
use Rattle.block_driver.specs.declared.worker.Need.TheVariants as need

-- the call of a run, and the answers that it was given
abbrev pub run_given : Progress → Option (Invocation × List StorageAnswer)
run_given (progress.Idle left) = None
run_given (progress.Start call left) = Some (call, [])
run_given (progress.Running run) = Some (run.call, run.answers)
run_given (progress.Asking asking) = Some (asking.run.call, asking.run.answers)
run_given (progress.Answered asking base) = Some (asking.run.call, asking.run.answers)
run_given (progress.Given asking value origin) = Some (asking.run.call, asking.run.answers ++ record { key = asking.key; value = value; origin = origin } ∷ [])
run_given (progress.Ended run) = Some (run.call, run.answers.items)
run_given (progress.Ready ready) = Some (ready.call, ready.answers.items)

-- it has no run
abbrev pub is_without_run : Progress → Bool
is_without_run (progress.Idle left) = true
is_without_run has = false

-- its run asks for a key
abbrev pub has_asked : Progress → Bool
has_asked (progress.Asking asking) = true
has_asked has = false

-- what a worker has once it was given what the storage before the block has at the key that its run asks for
abbrev pub progress_with_base : Option (List ℕ) → Progress → Progress
progress_with_base base (progress.Asking asking) = progress.Answered asking base
progress_with_base base has = has

-- what it was given is what a storage has at that key
abbrev pub HasBaseOf : Storage → Progress → Type 0
HasBaseOf store (progress.Answered asking base) = base ≡ map.get store asking.key
HasBaseOf store has = ⊤

-- it goes on with a step of its block
abbrev pub needs_step : Progress → Bool
needs_step (progress.Idle left) = true
needs_step (progress.Answered asking base) = true
needs_step (progress.Ready ready) = true
needs_step has = false

-- its run can go on without a step and without a key
abbrev pub may_run : Progress → Bool
may_run (progress.Start call left) = true
may_run (progress.Running run) = true
may_run (progress.Given asking value origin) = true
may_run (progress.Ended run) = true
may_run has = false

-- if its run is under way, the next instruction takes memory
abbrev pub IsStalled : Progress → Type 0
IsStalled (progress.Running run) = TakesMemory run.machine
IsStalled has = ⊤

-- what a worker needs by what it has; if memory ran out, its run can go on
abbrev pub IsNeed : Option Need → Progress → Type 0
IsNeed (Some need.Step) has = needs_step has ≡ true
IsNeed (Some (need.Key key)) (progress.Asking asking) = asking.key ≡ key
IsNeed (Some (need.Key key)) has = ⊥
IsNeed None has = (may_run has ≡ true) × IsStalled has
