-- What tests of a status, of indices and of tasks say, and sizes that stay.
use Rattle.std.proofs.Common.{◌≡◌, ◌<◌, ◌≤◌, ◌≢◌, ◌==◌, ◌&&◌, nat_lt, nat_le, ℕ, zero, suc, true, false, List, [], ◌∷◌, length, get_or, arith, refl, ap, ◌∙◌}
use Rattle.std.specs.List.{list_all}
use Rattle.std.proofs.lemmas.Bool.{and_parts}
use Rattle.std.proofs.lemmas.Bool.Decides.{nat_tests}
use Rattle.stm_state.specs.declared.state.Status.{Status}
use Rattle.stm_state.specs.declared.state.Status.TheVariants.{Ready, Executed, Aborting}
use Rattle.stm_state.specs.declared.state.Task.{Task}
use Rattle.stm_state.specs.declared.state.Task.TheVariants.{Idle}
use Rattle.stm_state.specs.State.{State, is_ready, is_executed, is_aborting, is_idle, is_done}
use Rattle.stm_state.specs.Parts.{IsStateSized}

-- what tests of a status say
pub is_ready_says : (s : Status) → is_ready s ≡ true → s ≡ Ready
is_ready_says Ready h = refl
is_ready_says s h = cc

pub not_ready_says : (s : Status) → is_ready s ≡ false → s ≢ Ready
not_ready_says s h e = let r : is_ready s ≡ true = ap is_ready e in cc

pub is_executed_says : (s : Status) → is_executed s ≡ true → s ≡ Executed
is_executed_says Executed h = refl
is_executed_says s h = cc

pub not_executed_says : (s : Status) → is_executed s ≡ false → s ≢ Executed
not_executed_says s h e = let r : is_executed s ≡ true = ap is_executed e in cc

pub is_aborting_says : (s : Status) → is_aborting s ≡ true → s ≡ Aborting
is_aborting_says Aborting h = refl
is_aborting_says s h = cc

-- what tests of numbers say
pub lt_says : (a b : ℕ) → nat_lt a b ≡ true → a < b
lt_says a b h = grind (arith, nat_tests)

pub not_lt_says : (a b : ℕ) → nat_lt a b ≡ false → b ≤ a
not_lt_says a b h = grind (arith, nat_tests)

pub not_le_says : (a b : ℕ) → nat_le a b ≡ false → b < a
not_le_says a b h = grind (arith, nat_tests)

pub lt_is : (a b : ℕ) → a < b → nat_lt a b ≡ true
lt_is a b h = grind (arith, nat_tests)

pub not_lt_is : (a b : ℕ) → b ≤ a → nat_lt a b ≡ false
not_lt_is a b h = grind (arith, nat_tests)

pub not_le_is : (a b : ℕ) → b < a → nat_le a b ≡ false
not_le_is a b h = grind (arith, nat_tests)

pub equal_says : (a b : ℕ) → (a == b) ≡ true → a ≡ b
equal_says a b h = grind (arith, nat_tests)

pub equal_itself : (a : ℕ) → (a == a) ≡ true
equal_itself a = grind (arith, nat_tests)

-- what the test of a task says
pub idle_says : (task : Task) → is_idle task ≡ true → task ≡ Idle
idle_says Idle h = refl
idle_says task h = cc

-- if all tasks of a list are idle, so is the one at each index, also past the end
all_idle : (tasks : List Task) (w : ℕ) → list_all is_idle tasks ≡ true → get_or tasks w Idle ≡ Idle
all_idle [] w h = refl
all_idle (task ∷ tasks) zero h = idle_says task (and_parts (is_idle task) (list_all is_idle tasks) h).0
all_idle (task ∷ tasks) (suc w) h = all_idle tasks w (and_parts (is_idle task) (list_all is_idle tasks) h).1

-- once workers are done, no worker has a task
pub idle_at_done : (s : State) → is_done s ≡ true → (w : ℕ) → get_or s.tasks w Idle ≡ Idle
unfolding is_done
idle_at_done s done w = all_idle s.tasks w (and_parts (s.execution == length s.calls && s.validation == length s.calls) (list_all is_idle s.tasks) done).1

-- sizes stay if the lengths do
pub resized : (count workers : ℕ) (s t : State) → length t.calls ≡ length s.calls → length t.tasks ≡ length s.tasks → length t.counts ≡ length s.counts → length t.dones ≡ length s.dones → IsStateSized count workers s → IsStateSized count workers t
resized count workers s t a b c d h = record { calls = a ∙ h.calls; tasks = b ∙ h.tasks; counts = c ∙ h.counts; dones = d ∙ h.dones }
