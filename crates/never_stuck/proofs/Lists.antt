-- The laws on lists of worker numbers.
use Rattle.std.proofs.Common.{◌≡◌, ◌<◌, ◌+◌, ◌-◌, ◌*◌, ◌/◌, ◌++◌, ◌&&◌, nat_lt, nat_le, ℕ, zero, suc, Bool, true, false, if◌then◌else◌, List, [], ◌∷◌, length, Option, Some, None, IsSome, Result, Ok, Err, arith, refl, ap, ◌∙◌}
use Rattle.std.proofs.lemmas.Bool.{and_parts, cond-true}
use Rattle.std.proofs.lemmas.Bool.Decides.{nat_tests}
use Rattle.std.proofs.lemmas.List.Elements.{All-from_get_or}
use Rattle.rv_ledger.specs.Key.{Storage}
use Rattle.rv_ledger.specs.Call.{Invocation}
use Rattle.stm_state.specs.declared.state.Task.{Task}
use Rattle.stm_state.specs.declared.state.Task.TheVariants.{Idle, Running}
use Rattle.stm_state.specs.Limits.{incarnation_limit}
use Rattle.stm_state.specs.State.{State, start_state, task_at}
use Rattle.stm_state.specs.Steps.{Limit}
use Rattle.stm_state.specs.Done.{Reached}
use Rattle.stm_state.specs.Drive.{DrivenTo, at_start, made_step, NotDone, BadWorker, continue_drive, due_result, driven, drive_of}
use Rattle.stm_state.proofs.Tests.{lt_says}
use Rattle.stm_state.proofs.InvariantKept.{invariant_kept}
use Rattle.stm_state.proofs.DueSteps.{Goes, AllGo, all_go, reached_where_led, due_where_led}
use Rattle.never_stuck.specs.Ending.{CanEnd, ends, meets, EndsWithin, IsContinued, to_end, to_limit}
use Rattle.never_stuck.specs.Far.{HasAtMostGas, IsFarFromLimits, entries_to_end}
use Rattle.never_stuck.specs.Stuck.{NeverStuck, NeverStuckFarFromLimits, NeverStuckWhereReached, NoListIsDeadEnd, RunsGoOn}
use Rattle.never_stuck.proofs.UnstuckGoals.{Setting, block}
use Rattle.never_stuck.proofs.KeysLeft.{few_where_reached}
use Rattle.never_stuck.proofs.OwedLists.{can_end, ends_within}
use Rattle.never_stuck.proofs.OwedSteps.{IsSound}
use Rattle.never_stuck.proofs.Unstuck.{comes_to_end}

-- ---- sound states

module _ (setting : Setting) (s : State) where
  sound_where : Reached (block setting) setting.workers s → AllGo setting.calls s → IsSound setting s
  sound_where reached go = record { inv = invariant_kept (block setting) setting.workers s reached; go = go; few = few_where_reached setting s reached }

  sound_where_led : DrivenTo setting.calls setting.store setting.workers s → IsSound setting s
  sound_where_led led = sound_where (reached_where_led setting.calls setting.store setting.workers s led) (all_go setting.calls setting.store setting.workers s led)

-- if each run can continue, so can the run of each task
module _ (calls : List Invocation) (s : State) (on : RunsGoOn calls s) where
  goes_by : (w : ℕ) (task : Task) → task_at s w ≡ task → Goes calls task
  goes_by w (Running i answers waits) at = λ call there. on w i answers waits call at there
  goes_by w task at = tt

  all_go_on : AllGo calls s
  all_go_on = All-from_get_or (Goes calls) s.tasks Idle (λ w less. goes_by w (task_at s w) refl)

-- ---- the end, or a limit

-- the gas of all calls together
pub total_gas : List Invocation → ℕ
total_gas [] = 0
total_gas (call ∷ calls) = call.gas + total_gas calls

-- no call has more
pub total_most : (calls : List Invocation) → HasAtMostGas (total_gas calls) calls
unfolding total_gas
total_most [] i call at = cc
total_most (first ∷ calls) zero call at = let same : first.gas ≡ call.gas = cc in omega (arith, same)
total_most (first ∷ calls) (suc i) call at = let most = total_most calls i call at in omega (arith, most)

-- a job whose calls have at most this much gas
abbrev setting_of : (calls : List Invocation) → Storage → ℕ → (gas : ℕ) → HasAtMostGas gas calls → Bool → Setting
setting_of calls store workers gas most strict = record { calls = calls; store = store; workers = workers; reads = gas / 200; most = λ i call at. let within = most i call at in omega (arith, within); strict = strict }

module _ (calls : List Invocation) (store : Storage) (workers : ℕ) where
  -- a refusal for an incarnation is not ruled out
  abbrev loose : Setting
  loose = setting_of calls store workers (total_gas calls) (total_most calls) false

  can_end_where : (s : State) → 0 < workers → IsSound loose s → CanEnd calls store workers s
  can_end_where s w_in h = can_end loose (comes_to_end loose w_in (incarnation_limit + 1) s (λ j. let most = h.inv.facts.limit j in (omega (arith, most), λ _. omega (arith, most))) (λ is. cc) h)

  -- it is ruled out
  abbrev tight : (gas : ℕ) → HasAtMostGas gas calls → Setting
  tight gas most = setting_of calls store workers gas most true

  ends_where : (gas : ℕ) (most : HasAtMostGas gas calls) (s : State) → 0 < workers → IsFarFromLimits (length calls) workers s → IsSound (tight gas most) s → EndsWithin (entries_to_end workers (length calls) gas) calls store workers s
  ends_where gas most s w_in far h =
      let first = far.low 0 in
      ends_within (tight gas most) refl far.room
      (comes_to_end (tight gas most) w_in (incarnation_limit - (2 * workers + 2)) s (λ j. let low = far.low j in (omega (arith, low), λ _. omega (arith, low))) (λ _. omega (arith, first)) h)

-- ---- the laws

pub never_stuck : NeverStuck
never_stuck calls store workers s w_in led = can_end_where calls store workers s w_in (sound_where_led (loose calls store workers) s led)

pub never_stuck_far_from_limits : NeverStuckFarFromLimits
never_stuck_far_from_limits calls store workers gas s w_in most led far = ends_where calls store workers gas most s w_in far (sound_where_led (tight calls store workers gas most) s led)

pub never_stuck_where_reached : NeverStuckWhereReached
never_stuck_where_reached calls store workers gas s w_in most reached on =
    let go = all_go_on calls s on in (
      can_end_where calls store workers s w_in (sound_where (loose calls store workers) s reached go),
      λ far. ends_where calls store workers gas most s w_in far (sound_where (tight calls store workers gas most) s reached go),
    )

-- ---- no list is a dead end

module _ (calls : List Invocation) (store : Storage) (workers : ℕ) where
  -- a list that is used up leads to a state, and whatever follows the list starts from there
  record IsUsedUp (list : List ℕ) (s : State) : Type 0 where
    state : State
    led : DrivenTo calls store workers state
    goes : (more : List ℕ) → driven calls store workers (list ++ more) s ≡ driven calls store workers more state

  -- a list of a worker and others
  driven_next : (w : ℕ) (list : List ℕ) (s t : State) → nat_lt w workers ≡ true → due_result calls store w s ≡ Some (Ok t) → driven calls store workers (w ∷ list) s ≡ driven calls store workers list t
  unfolding driven
  driven_next w list s t w_in is = cond-true (nat_lt w workers) _ _ w_in ∙ ap (continue_drive (λ u. driven calls store workers list u)) is

  -- the result of its first step
  used_on : (w : ℕ) (list : List ℕ) (s : State) → DrivenTo calls store workers s → nat_lt w workers ≡ true → ((t : State) → DrivenTo calls store workers t → driven calls store workers list t ≡ Err NotDone → IsUsedUp list t)
      → (o : Option (Result State Limit)) → due_result calls store w s ≡ o → IsSome o → continue_drive (λ t. driven calls store workers list t) o ≡ Err NotDone → IsUsedUp (w ∷ list) s
  used_on w list s led w_in rest None is some h = cc
  used_on w list s led w_in rest (Some (Err limit)) is some h = cc
  used_on w list s led w_in rest (Some (Ok t)) is some h =
      let x = rest t (made_step w led (lt_says w workers w_in) is) h in
      record { state = x.state; led = x.led; goes = λ more. driven_next w (list ++ more) s t w_in is ∙ x.goes more }

  used_by : (w : ℕ) (list : List ℕ) (s : State) → DrivenTo calls store workers s → ((t : State) → DrivenTo calls store workers t → driven calls store workers list t ≡ Err NotDone → IsUsedUp list t)
      → (b : Bool) → nat_lt w workers ≡ b → (if b then continue_drive (λ t. driven calls store workers list t) (due_result calls store w s) else Err BadWorker) ≡ Err NotDone → IsUsedUp (w ∷ list) s
  used_by w list s led rest true w_in h = used_on w list s led w_in rest (due_result calls store w s) refl (due_where_led calls store workers s w led (lt_says w workers w_in)) h
  used_by w list s led rest false past h = cc

  used_up : (list : List ℕ) (s : State) → DrivenTo calls store workers s → driven calls store workers list s ≡ Err NotDone → IsUsedUp list s
  unfolding driven
  used_up [] s led h = record { state = s; led = led; goes = λ more. refl }
  used_up (w ∷ list) s led h = used_by w list s led (λ t k e. used_up list t k e) (nat_lt w workers) refl h

  -- the numbers of workers that are allowed
  abbrev are_allowed : Bool
  are_allowed = nat_le 1 workers && nat_le workers 32

  drives : (list : List ℕ) → are_allowed ≡ true → drive_of calls store workers list ≡ driven calls store workers list (start_state (length calls) workers)
  drives list allowed = cond-true are_allowed _ _ allowed

  continued : (schedule : List ℕ) → are_allowed ≡ true → (used : IsUsedUp schedule (start_state (length calls) workers)) → CanEnd calls store workers used.state → IsContinued calls store workers schedule
  continued schedule allowed used (ends more t h) = to_end more t (drives (schedule ++ more) allowed ∙ used.goes more ∙ h)
  continued schedule allowed used (meets more limit h) = to_limit more limit (drives (schedule ++ more) allowed ∙ used.goes more ∙ h)

  some_worker : nat_le 1 workers ≡ true → 0 < workers
  some_worker h = grind (arith, nat_tests)

  continued_by : (schedule : List ℕ) (b : Bool) → are_allowed ≡ b → (if b then driven calls store workers schedule (start_state (length calls) workers) else Err BadWorker) ≡ Err NotDone → IsContinued calls store workers schedule
  continued_by schedule true allowed h =
      let used = used_up schedule (start_state (length calls) workers) at_start h in
      continued schedule allowed used (never_stuck calls store workers used.state (some_worker (and_parts (nat_le 1 workers) (nat_le workers 32) allowed).0) used.led)
  continued_by schedule false none h = cc

pub no_list_is_dead_end : NoListIsDeadEnd
no_list_is_dead_end calls store workers schedule h = continued_by calls store workers schedule (nat_le 1 workers && nat_le workers 32) refl h
