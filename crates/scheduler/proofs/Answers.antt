-- A task whose answers are swapped.
use Rattle.std.proofs.Common.{◌≡◌, ℕ, List, Option, refl}
use Rattle.rv_step.specs.declared.answer.StorageAnswer.{StorageAnswer}
use Rattle.stm_state.specs.declared.state.Task.TheVariants.{Running}
use Rattle.scheduler.specs.declared.worker.TaskKind.{TaskKind}
use Rattle.scheduler.specs.declared.worker.TaskKind.TheVariants as task_kind
use Rattle.scheduler.specs.Workers.{task_with, with_answers}

pub task_swapped : (kind : TaskKind) (before after : List StorageAnswer) (keys : List (List ℕ)) → task_with kind after keys ≡ with_answers after (task_with kind before keys)
task_swapped task_kind.Idle before after keys = refl
task_swapped kind before after keys = refl

pub answers_of_run : (kind : TaskKind) (before : List StorageAnswer) (keys : List (List ℕ)) (i : ℕ) (answers : List StorageAnswer) (blocked : Option ℕ) → task_with kind before keys ≡ Running i answers blocked → before ≡ answers
answers_of_run (task_kind.Running c b) before keys i answers blocked h = cc
answers_of_run kind before keys i answers blocked h = cc
