-- A run of a call that is under way.
use Rattle.std.specs.Prelude.{◌≡◌, ◌≤◌, ◌+◌, ◌*◌, ℕ, zero, suc, Bool, true, false, if◌then◌else◌, List, [], ◌∷◌, ◌++◌, Option, Some, None}
use Rattle.read_set.specs.Origin.{Origin}
use Rattle.rv_ledger.specs.Call.{Invocation}
use Rattle.rv_ledger.specs.declared.receipt.Receipt.{Receipt}
use Rattle.rv_step.specs.declared.machine.Machine.{Machine}
use Rattle.rv_step.specs.declared.answer.StorageAnswer.{StorageAnswer}
use Rattle.rv_step.specs.declared.stage.Stage.{Stage}
use Rattle.rv_step.specs.declared.stage.Stage.TheVariants.{Running, Asked, Ended}
use Rattle.rv_step.specs.declared.run.Pause.{Pause}
use Rattle.rv_step.specs.declared.run.Pause.TheVariants as pause
use Rattle.rv_step.specs.Replies.{replies_of}
use Rattle.rv_step.specs.Step.{Progress, Going, Over, StepResult, Leads, Asks, step, answered, delivered}
use Rattle.rv_step.specs.Moment.{from_replies, moment_from, moment_with, start}
use Rattle.rv_step.specs.Chain.{receipt_of}

-- what callers see of a run: its call, its machine and stage, and the answers that it got
pub record RunView : Type 0 where
  pub call : Invocation
  pub machine : Machine
  pub answers : List StorageAnswer
  pub stage : Stage

abbrev pub run_at_start : Invocation → RunView
run_at_start call = record { call = call; machine = start call; answers = []; stage = Running }

-- a run with this state of its call
abbrev pub standing_at : Progress → RunView → RunView
standing_at (Going t) r = record r { machine = t; stage = Running }
standing_at (Over end out t) r = record r { machine = t; stage = Ended end out }

-- a run after a step with this result
abbrev pub run_after_result : StepResult → RunView → RunView
run_after_result (Leads progress) r = standing_at progress r
run_after_result (Asks key) r = record r { stage = Asked key }

abbrev pub is_running : Stage → Bool
is_running Running = true
is_running _ = false

-- a run after a step, if it can make one
abbrev pub after_one : RunView → RunView
after_one r = if is_running r.stage then run_after_result (step r.machine) r else r

-- a run after a number of steps without an answer, if it can make one; the last of them may ask
abbrev pub after_steps : ℕ → RunView → RunView
after_steps zero r = r
after_steps (suc n) r = if is_running r.stage then after_one (standing_at (moment_from from_replies n (Going r.machine, [])).0 r) else r

-- the greatest number of steps and answers that may still come: each instruction takes gas, so that a call ends
abbrev pub left_for : ℕ → Stage → ℕ
left_for gas Running = 2 * gas + 2
left_for gas (Asked key) = 2 * gas + 1
left_for gas (Ended end out) = 0

abbrev pub steps_left : RunView → ℕ
steps_left r = left_for r.machine.gas r.stage

-- the key that the storage is asked for
abbrev pub asked_key : Stage → Option (List ℕ)
asked_key (Asked key) = Some key
asked_key _ = None

-- a run that asked for a key, after its answer
abbrev pub after_answer : List ℕ → Option (List ℕ) → Origin → RunView → RunView
after_answer key content origin r =
    standing_at (answered r.machine (delivered r.machine key content)) (record r { answers = r.answers ++ record { key = key; value = content; origin = origin } ∷ [] })

-- what a stage says about the machine
abbrev pub IsStage : ℕ → Machine → Stage → Type 0
IsStage limit s (Asked key) = (s.gas ≤ limit) × (step s ≡ Asks key)
IsStage limit s _ = s.gas ≤ limit

-- the state of a call, by its machine and the stage of its run
abbrev pub progress_of : Machine → Stage → Progress
progress_of s (Ended end out) = Over end out s
progress_of s _ = Going s

-- the run is at a moment of its call with its answers, all of which were used
pub record IsBeginning (r : RunView) : Type 0 where
  pub stands : IsStage r.call.gas r.machine r.stage
  pub moment : (n : ℕ) × (moment_with r.call (replies_of r.answers) n ≡ (progress_of r.machine r.stage, []))

-- the call has ended
abbrev pub IsEnded : Stage → Type 0
IsEnded (Ended end out) = Unit {0}
IsEnded _ = ⊥

-- what the pause of a run says about its stage
abbrev pub IsPause : Pause → Stage → Type 0
IsPause (pause.Ask key) stage = stage ≡ Asked key
IsPause pause.Ended stage = IsEnded stage

-- the receipt of a run that has ended
abbrev pub IsReceiptFor : Receipt → ℕ → Machine → Stage → Type 0
IsReceiptFor receipt limit s (Ended end out) = receipt ≡ receipt_of limit end out s
IsReceiptFor receipt limit s _ = ⊥

abbrev pub IsReceiptOf : Receipt → RunView → Type 0
IsReceiptOf receipt r = IsReceiptFor receipt r.call.gas r.machine r.stage
