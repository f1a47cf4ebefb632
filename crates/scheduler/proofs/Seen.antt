-- What is seen of the workers if one of them is replaced.
use Rattle.std.proofs.Common.{◌≡◌, ◌∷◌, ◌<◌, ℕ, List, length, map, set, get_or, refl, sym, subst, ap, ◌∙◌, length-set, replicate, zero, suc}
use Rattle.std.proofs.lemmas.List.{length-map, map-set, get_or-map, get_or-set_same, get_or-set_other}
use Rattle.std.proofs.Math.Seq.{map-set_same}
use Rattle.std.proofs.lemmas.Simd.{map-map}
use Rattle.rv_ledger.specs.declared.outcome.Counts.{Counts}
use Rattle.mvmap.specs.Versions.{Versions}
use Rattle.stm_state.specs.declared.state.CallState.{CallState}
use Rattle.stm_state.specs.declared.state.Task.{Task}
use Rattle.stm_state.specs.declared.state.Task.TheVariants.{Idle}
use Rattle.stm_state.specs.State.{fresh, with_task}
use Rattle.scheduler.specs.Workers.{WorkerState, but_key_room, counts_of, task_of, worker_dones, worker_room}
use Rattle.scheduler.specs.Schedule.{KeepsRooms, Schedule, schedule_of, state_of}

-- if all workers are the same
pub seen_alike : {X : Type 0} (f : WorkerState → X) (n : ℕ) (worker : WorkerState) → map f (replicate n worker) ≡ replicate n (f worker)
seen_alike f zero worker = refl
seen_alike f (suc n) worker = ap (λ xs. f worker ∷ xs) (seen_alike f n worker)

-- a list of one thing of each worker
module _ {X : Type 0} (f : WorkerState → X) (workers : List WorkerState) (w : ℕ) where
  seen_set : (new : WorkerState) (x : X) → f new ≡ x → map f (set workers w new) ≡ set (map f workers) w x
  seen_set new x e = map-set f workers w new ∙ ap (set (map f workers) w) e

  seen_same : (old new : WorkerState) → old ≡ get_or workers w old → f new ≡ f old → map f (set workers w new) ≡ map f workers
  seen_same old new is e = map-set_same f workers w new old (e ∙ ap f is)

  seen_at : (old : WorkerState) (d : X) → w < length workers → old ≡ get_or workers w old → get_or (map f workers) w d ≡ f old
  seen_at old d l is = get_or-map f workers w old d l ∙ ap f (sym is)

  seen_step : (g : X → X) (old new : WorkerState) (d : X) → w < length workers → old ≡ get_or workers w old → f new ≡ g (f old) → map f (set workers w new) ≡ set (map f workers) w (g (get_or (map f workers) w d))
  seen_step g old new d l is e = seen_set new (g (get_or (map f workers) w d)) (e ∙ ap g (sym (seen_at old d l is)))

  seen_new : (new : WorkerState) (d : X) → w < length workers → get_or (map f (set workers w new)) w d ≡ f new
  seen_new new d l = get_or-map f (set workers w new) w new d (subst (λ n. w < n) (sym (length-set workers w new)) l) ∙ ap f (get_or-set_same workers w new new l)

-- and if they are the same except for the room of their lists of keys
seen_but : {X : Type 0} (f : WorkerState → X) (workers new : List WorkerState) → map but_key_room new ≡ map but_key_room workers → map (λ w. f (but_key_room w)) new ≡ map (λ w. f (but_key_room w)) workers
seen_but f workers new same = sym (map-map f but_key_room new) ∙ ap (map f) same ∙ map-map f but_key_room workers

-- all that the scheduler keeps, if a call of an index is replaced
pub call_changed : (calls : List CallState) (execution validation key_room : ℕ) (workers : List WorkerState) (s : Schedule) → schedule_of calls execution validation key_room workers ≡ s
    → (g : CallState → CallState) (at i : ℕ) (old : CallState) → at ≡ i → old ≡ get_or calls at fresh
    → schedule_of (set calls at (g old)) execution validation key_room workers ≡ record s { calls = set s.calls i (g (get_or s.calls i fresh)) }
call_changed calls execution validation key_room workers s was g at i old e is =
    ap (λ (c : CallState). schedule_of (set calls at (g c)) execution validation key_room workers) is
    ∙ ap (λ (t : Schedule). record t { calls = set t.calls at (g (get_or t.calls at fresh)) }) was
    ∙ ap (λ (k : ℕ). record s { calls = set s.calls k (g (get_or s.calls k fresh)) }) e

-- what is seen of a call is the same before a change that keeps it
pub seen_call : {X : Type 0} (f : CallState → X) {s t : Schedule} (i : ℕ) {call : CallState} {x : X} → t ≡ s → call ≡ get_or t.calls i fresh → x ≡ f call → f (get_or s.calls i fresh) ≡ x
seen_call f i same is seen = ap (λ (u : Schedule). f (get_or u.calls i fresh)) (sym same) ∙ ap f (sym is) ∙ sym seen

-- all that the scheduler keeps, if the lists of workers have more room for keys
pub key_room_changed : (calls : List CallState) (execution validation key_room more : ℕ) (workers new : List WorkerState) (s : Schedule) → schedule_of calls execution validation key_room workers ≡ s
    → map but_key_room new ≡ map but_key_room workers → schedule_of calls execution validation more new ≡ record s { key_room = more }
key_room_changed calls execution validation key_room more workers new s was same =
    rw (seen_but task_of workers new same, seen_but counts_of workers new same, seen_but worker_dones workers new same, seen_but worker_room workers new same) refl
    ∙ ap (λ (t : Schedule). record t { key_room = more }) was

-- all that the scheduler keeps, if worker w was the old one and is the new one
module _ (calls : List CallState) (execution validation key_room : ℕ) (workers : List WorkerState) (w : ℕ) (s : Schedule) (was : schedule_of calls execution validation key_room workers ≡ s) (l : w < length s.tasks)
    (old new : WorkerState) (is : old ≡ get_or workers w old) where
  pub worker_within : w < length workers
  worker_within = subst (λ n. w < n) (ap (λ (t : Schedule). length t.tasks) (sym was) ∙ length-map workers task_of) l

  abbrev pub after : Schedule
  after = schedule_of calls execution validation key_room (set workers w new)

  -- its task changes, and its room
  pub task_changed : (g : Task → Task) (room : ℕ) → new ≡ record old { task = g old.task; room = room } → (v : Versions) (p : ℕ) → state_of v p after ≡ with_task w (g (get_or s.tasks w Idle)) (state_of v p s)
  task_changed g room e v p =
      rw (seen_step task_of workers w g old new Idle worker_within is (ap task_of e), seen_same counts_of workers w old new is (ap counts_of e), seen_same worker_dones workers w old new is (ap worker_dones e)) refl
      ∙ ap (λ (t : Schedule). with_task w (g (get_or t.tasks w Idle)) (state_of v p t)) was

  -- its task and its room change
  pub answers_swapped : (g : Task → Task) (room : ℕ) → new ≡ record old { task = g old.task; room = room } → after ≡ record s { tasks = set s.tasks w (g (get_or s.tasks w Idle)); rooms = set s.rooms w room }
  answers_swapped g room e =
      rw (seen_step task_of workers w g old new Idle worker_within is (ap task_of e), seen_same counts_of workers w old new is (ap counts_of e), seen_same worker_dones workers w old new is (ap worker_dones e), seen_set worker_room workers w new room (ap worker_room e)) refl
      ∙ ap (λ (t : Schedule). record t { tasks = set t.tasks w (g (get_or t.tasks w Idle)); rooms = set t.rooms w room }) was

  -- only its counts change
  pub counts_changed : (counts : Counts) → new ≡ record old { counts = counts } → after ≡ record s { counts = set s.counts w counts }
  counts_changed counts e =
      rw (seen_same task_of workers w old new is (ap task_of e), seen_set counts_of workers w new counts (ap counts_of e), seen_same worker_dones workers w old new is (ap worker_dones e), seen_same worker_room workers w old new is (ap worker_room e)) refl
      ∙ ap (λ (t : Schedule). record t { counts = set t.counts w counts }) was

  -- only the number of its askings that were answered Done changes
  pub dones_changed : (g : ℕ → ℕ) → new ≡ record old { dones = g old.dones } → after ≡ record s { dones = set s.dones w (g (get_or s.dones w 0)) }
  dones_changed g e =
      rw (seen_same task_of workers w old new is (ap task_of e), seen_same counts_of workers w old new is (ap counts_of e), seen_step worker_dones workers w g old new 0 worker_within is (ap worker_dones e), seen_same worker_room workers w old new is (ap worker_room e)) refl
      ∙ ap (λ (t : Schedule). record t { dones = set t.dones w (g (get_or t.dones w 0)) }) was

  pub task_before : get_or s.tasks w Idle ≡ old.task
  task_before = ap (λ (t : Schedule). get_or t.tasks w Idle) (sym was) ∙ seen_at task_of workers w old Idle worker_within is

  -- the other workers keep their room for answers
  pub rooms_kept : KeepsRooms w s.rooms after.rooms
  rooms_kept u ne = ap (λ rooms. get_or rooms u 0) (map-set worker_room workers w new) ∙ get_or-set_other (map worker_room workers) w u new.room 0 ne ∙ ap (λ (t : Schedule). get_or t.rooms u 0) was

  pub room_before : get_or s.rooms w 0 ≡ old.room
  room_before = ap (λ (t : Schedule). get_or t.rooms w 0) (sym was) ∙ seen_at worker_room workers w old 0 worker_within is

  pub room_after : get_or after.rooms w 0 ≡ new.room
  room_after = seen_new worker_room workers w new 0 worker_within
