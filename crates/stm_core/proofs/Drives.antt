-- A list of worker numbers, entry by entry.
use Rattle.std.proofs.Common.{◌≡◌, ◌<◌, ◌≤◌, ◌+◌, nat_lt, nat_le, ℕ, true, false, List, [], ◌∷◌, length, get_or, drop, cond, subst, Option, Some, Result, Ok, Err, arith, refl, sym, ap, ◌∙◌}
use Rattle.std.proofs.lemmas.Bool.Decides.{nat_tests}
use Rattle.std.proofs.lemmas.List.{drop_more}
use Rattle.rv_ledger.specs.Key.{Storage}
use Rattle.rv_ledger.specs.Call.{Invocation}
use Rattle.stm_state.specs.State.{State, start_state, is_done}
use Rattle.stm_state.specs.Steps.{Limit}
use Rattle.stm_state.specs.Drive.{BadWorker, NotDone, drive_of, driven, due_result, continue_drive}
use Rattle.stm_state.proofs.Tests.{lt_is, not_lt_is}
use Rattle.stm_core.specs.declared.driving.DriveFault.{DriveFault}
use Rattle.stm_core.specs.declared.driving.DriveFault.TheVariants as fault
use Rattle.stm_core.specs.CoreState.{CoreState}
use Rattle.stm_core.specs.Driving.{IsRefusal, IsStepRefusal}

module _ (calls : List Invocation) (store : Storage) (workers : ℕ) where
  -- the result of a list, by its first entry
  by_entry : (w : ℕ) (ws : List ℕ) (s : State) → driven calls store workers (w ∷ ws) s ≡ cond (nat_lt w workers) (continue_drive (λ t. driven calls store workers ws t) (due_result calls store w s)) (Err BadWorker)
  unfolding driven
  by_entry w ws s = refl

  -- the first entry's step is made
  step_driven : (w : ℕ) (ws : List ℕ) (s t : State) → w < workers → due_result calls store w s ≡ Some (Ok t) → driven calls store workers (w ∷ ws) s ≡ driven calls store workers ws t
  step_driven w ws s t lt e = by_entry w ws s ∙ rw (lt_is w workers lt, e) refl

  -- the first entry is no worker
  not_driven : (w : ℕ) (ws : List ℕ) (s : State) → workers ≤ w → driven calls store workers (w ∷ ws) s ≡ Err BadWorker
  not_driven w ws s ge = by_entry w ws s ∙ rw (not_lt_is w workers ge) refl

  -- the first entry's step is refused
  refused_by : (f : DriveFault) (ws : List ℕ) (o : Option (Result State Limit)) → IsStepRefusal f o → IsRefusal f (continue_drive (λ t. driven calls store workers ws t) o)
  refused_by fault.NotDone ws o h = absurd h
  refused_by fault.BadWorker ws o h = absurd h
  refused_by fault.ArenaFull ws o h = ap (continue_drive (λ t. driven calls store workers ws t)) h
  refused_by fault.IncarnationLimit ws o h = ap (continue_drive (λ t. driven calls store workers ws t)) h
  refused_by fault.Memory ws o h = tt

  refused_driven : (f : DriveFault) (w : ℕ) (ws : List ℕ) (s : State) → w < workers → IsStepRefusal f (due_result calls store w s) → IsRefusal f (driven calls store workers (w ∷ ws) s)
  refused_driven f w ws s lt h = subst (IsRefusal f) (sym (by_entry w ws s ∙ rw (lt_is w workers lt) refl)) (refused_by f ws (due_result calls store w s) h)

  -- ---- the entry of an index
  module _ (schedule : List ℕ) (n w : ℕ) (within : n < length schedule) (entry : w ≡ get_or schedule n 0) where
    from_entry : drop n schedule ≡ w ∷ drop (n + 1) schedule
    from_entry = drop_more schedule n 0 within ∙ ap (λ x. x ∷ drop (n + 1) schedule) (sym entry)

    pub entry_made : (s t : State) → w < workers → due_result calls store w s ≡ Some (Ok t) → driven calls store workers (drop n schedule) s ≡ driven calls store workers (drop (n + 1) schedule) t
    entry_made s t lt e = ap (λ l. driven calls store workers l s) from_entry ∙ step_driven w (drop (n + 1) schedule) s t lt e

    pub entry_bad : (s : State) → workers ≤ w → driven calls store workers (drop n schedule) s ≡ Err BadWorker
    entry_bad s ge = ap (λ l. driven calls store workers l s) from_entry ∙ not_driven w (drop (n + 1) schedule) s ge

    pub entry_refused : (f : DriveFault) (s : State) → w < workers → IsStepRefusal f (due_result calls store w s) → IsRefusal f (driven calls store workers (drop n schedule) s)
    entry_refused f s lt h = subst (λ l. IsRefusal f (driven calls store workers l s)) (sym from_entry) (refused_driven f w (drop (n + 1) schedule) s lt h)

-- ---- the whole list

-- the list is used up
used_up : (calls : List Invocation) (store : Storage) (workers : ℕ) (s : State) → driven calls store workers [] s ≡ cond (is_done s) (Ok s) (Err NotDone)
unfolding driven
used_up calls store workers s = refl

-- with 1 to 32 workers, the list is followed from the start state on
from_start : (calls : List Invocation) (store : Storage) (workers : ℕ) (schedule : List ℕ) → 1 ≤ workers → workers ≤ 32 → drive_of calls store workers schedule ≡ driven calls store workers schedule (start_state (length calls) workers)
from_start calls store workers schedule low high =
    let at_least : nat_le 1 workers ≡ true = grind (arith, nat_tests) in
    let at_most : nat_le workers 32 ≡ true = grind (arith, nat_tests) in
    rw (at_least, at_most) refl

-- the entries lead from a core's start state to a state
module _ (old : CoreState) (workers : ℕ) (schedule : List ℕ) (s : State) (low : 1 ≤ workers) (high : workers ≤ 32)
    (first : old.state ≡ start_state (length old.job.block) workers)
    (all : driven old.job.block old.job.store workers schedule old.state ≡ driven old.job.block old.job.store workers [] s) where
  comes_to : drive_of old.job.block old.job.store workers schedule ≡ cond (is_done s) (Ok s) (Err NotDone)
  comes_to =
      from_start old.job.block old.job.store workers schedule low high ∙ ap (driven old.job.block old.job.store workers schedule) (sym first)
      ∙ all ∙ used_up old.job.block old.job.store workers s

  -- if workers are done there
  pub ends_done : is_done s ≡ true → drive_of old.job.block old.job.store workers schedule ≡ Ok s
  ends_done e = comes_to ∙ ap (λ b. cond b (Ok s) (Err NotDone)) e

  -- and if they are not
  pub ends_early : is_done s ≡ false → drive_of old.job.block old.job.store workers schedule ≡ Err NotDone
  ends_early e = comes_to ∙ ap (λ b. cond b (Ok s) (Err NotDone)) e
