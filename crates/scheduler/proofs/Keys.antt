-- What is left of the keys to move or to mark once the next one is dropped.
use Rattle.std.proofs.Common.{◌≡◌, ◌+◌, ◌∷◌, ℕ, Bool, List, [], drop, sym, ap, ◌∙◌}
use Rattle.std.proofs.lemmas.List.{drop-drop}
use Rattle.rv_step.specs.declared.answer.StorageAnswer.{StorageAnswer}
use Rattle.stm_state.specs.declared.state.Task.{Task}
use Rattle.stm_state.specs.declared.state.Task.TheVariants as task
use Rattle.scheduler.specs.declared.worker.TaskKind.{TaskKind}
use Rattle.scheduler.specs.declared.worker.TaskKind.TheVariants as task_kind
use Rattle.scheduler.specs.Workers.{task_with}

-- the keys that a task still has to move or to mark
abbrev keys_in : Task → List (List ℕ)
keys_in (task.Moving call keys new) = keys
keys_in (task.Marking call keys) = keys
keys_in t = []

-- one more key was moved or marked: the keys after it are left
pub moved_dropped : (kind : TaskKind) (answers : List StorageAnswer) (all : List (List ℕ)) (dropped call : ℕ) (key : List ℕ) (keys : List (List ℕ)) (new : Bool)
    → task_with kind answers (drop dropped all) ≡ task.Moving call (key ∷ keys) new → task_with kind answers (drop (dropped + 1) all) ≡ task.Moving call keys new
moved_dropped (task_kind.Moving c n) answers all dropped call key keys new h =
    let rest : drop (dropped + 1) all ≡ keys = sym (drop-drop 1 dropped all) ∙ ap (drop 1) (ap keys_in h) in
    cc
moved_dropped kind answers all dropped call key keys new h = cc

pub marked_dropped : (kind : TaskKind) (answers : List StorageAnswer) (all : List (List ℕ)) (dropped call : ℕ) (key : List ℕ) (keys : List (List ℕ))
    → task_with kind answers (drop dropped all) ≡ task.Marking call (key ∷ keys) → task_with kind answers (drop (dropped + 1) all) ≡ task.Marking call keys
marked_dropped (task_kind.Marking c) answers all dropped call key keys h =
    let rest : drop (dropped + 1) all ≡ keys = sym (drop-drop 1 dropped all) ∙ ap (drop 1) (ap keys_in h) in
    cc
marked_dropped kind answers all dropped call key keys h = cc
