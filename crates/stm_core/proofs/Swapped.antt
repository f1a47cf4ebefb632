-- The answers of a run that are swapped with a list, and back.
use Rattle.std.proofs.Common.{◌≡◌, ◌<◌, ◌≤◌, ◌+◌, ◌-◌, ℕ, List, length, get_or, set, Option, Result, Ok, Err, OnErr, OnOk, arith, refl, ap, ◌∙◌}
use Rattle.std.proofs.lemmas.List.{get_or-set_same, set-get_or, set-set}
use Rattle.rv_step.specs.declared.answer.StorageAnswer.{StorageAnswer}
use Rattle.stm_state.specs.declared.state.Task.{Task}
use Rattle.stm_state.specs.declared.state.Task.TheVariants.{Idle, Running}
use Rattle.scheduler.specs.Schedule.{Schedule}
use Rattle.scheduler.specs.Workers.{with_answers}

-- a list is the answers of a task, if it runs a call
abbrev pub AreAnswersOf : Task → List StorageAnswer → Type 0
AreAnswersOf t list = (i : ℕ) (answers : List StorageAnswer) (blocked : Option ℕ) → t ≡ Running i answers blocked → list ≡ answers

task_back : (t : Task) (spare own : List StorageAnswer) → AreAnswersOf t own → with_answers own (with_answers spare t) ≡ t
task_back (Running i answers blocked) spare own h = ap (λ (list : List StorageAnswer). Running i list blocked) (h i answers blocked refl)
task_back t spare own h = refl

tasks_back : (tasks : List Task) (w : ℕ) (spare own : List StorageAnswer) → w < length tasks → AreAnswersOf (get_or tasks w Idle) own
    → set (set tasks w (with_answers spare (get_or tasks w Idle))) w (with_answers own (get_or (set tasks w (with_answers spare (get_or tasks w Idle))) w Idle)) ≡ tasks
tasks_back tasks w spare own within h =
    let swapped = with_answers spare (get_or tasks w Idle) in
    ap (λ (t : Task). set (set tasks w swapped) w (with_answers own t)) (get_or-set_same tasks w swapped Idle within)
    ∙ set-set tasks w swapped (with_answers own swapped)
    ∙ ap (set tasks w) (task_back (get_or tasks w Idle) spare own h)
    ∙ set-get_or tasks w Idle

-- the tasks are as before
pub swapped_back : (s s1 s2 : Schedule) (w : ℕ) (spare own : List StorageAnswer) (first last : ℕ) → w < length s.tasks → AreAnswersOf (get_or s.tasks w Idle) own
    → s1 ≡ record s { tasks = set s.tasks w (with_answers spare (get_or s.tasks w Idle)); rooms = set s.rooms w first }
    → s2 ≡ record s1 { tasks = set s1.tasks w (with_answers own (get_or s1.tasks w Idle)); rooms = set s1.rooms w last }
    → s2 ≡ record s { rooms = set s.rooms w last }
swapped_back s s1 s2 w spare own first last within h there back =
    back
    ∙ ap (λ (x : Schedule). record x { tasks = set x.tasks w (with_answers own (get_or x.tasks w Idle)); rooms = set x.rooms w last }) there
    ∙ ap (λ (tasks : List Task). record s { tasks = tasks; rooms = set (set s.rooms w first) w last }) (tasks_back s.tasks w spare own within h)
    ∙ ap (λ (rooms : List ℕ). record s { rooms = rooms }) (set-set s.rooms w first last)

-- and if no room was made, so are the rooms
pub all_back : (s s2 : Schedule) (w last : ℕ) → s2 ≡ record s { rooms = set s.rooms w last } → last ≡ get_or s.rooms w 0 → s2 ≡ s
all_back s s2 w last back same =
    back ∙ ap (λ (n : ℕ). record s { rooms = set s.rooms w n }) same
    ∙ ap (λ (rooms : List ℕ). record s { rooms = rooms }) (set-get_or s.rooms w 0)

-- a list with room for one more has it
pub room_made : {X E : Type 0} (r : Result X E) (capacity len room : ℕ) → OnOk r (len + 1 ≤ capacity) → room ≡ capacity - len → OnOk r (1 ≤ room)
room_made (Ok x) capacity len room h e = omega (arith, h, e)
room_made (Err x) capacity len room h e = h

-- a list as long and with as many places has as much room
pub room_back : (capacity before_capacity len before_len room : ℕ) → capacity ≡ before_capacity → len ≡ before_len → before_capacity - before_len ≡ room → capacity - len ≡ room
room_back capacity before_capacity len before_len room e f h = rw (e, f) h

pub where_refused : {X E : Type 0} (r : Result X E) (P Q : Type 0) → (P → Q) → OnErr r P → OnErr r Q
where_refused (Ok x) P Q f h = h
where_refused (Err e) P Q f h = f h
