-- A list that is refused for a limit leads to a state that meets the limit.
use Rattle.std.proofs.Common.{◌≡◌, ◌<◌, nat_lt, nat_le, ◌&&◌, ℕ, Bool, true, false, if◌then◌else◌, List, [], ◌∷◌, length, Option, None, Some, Result, Ok, Err, refl, subst}
use Rattle.rv_ledger.specs.Key.{Storage}
use Rattle.rv_ledger.specs.Call.{Invocation}
use Rattle.stm_state.specs.State.{State, start_state, task_at, is_done}
use Rattle.stm_state.specs.Steps.{Limit}
use Rattle.stm_state.specs.Done.{MeetsLimit, Reached, started, stepped, block_of}
use Rattle.stm_state.proofs.Tests.{lt_says}
use Rattle.stm_state.specs.Drive.{DriveRefusal, NotDone, BadWorker, Limited, continue_drive, driven, drive_of, due_step, due_result}

module _ (calls : List Invocation) (store : Storage) (workers : ℕ) (limit : Limit) where
  -- the limit is that of the refused step
  same_limit : (other : Limit) → ◌≡◌ {A = Result State DriveRefusal} (Err (Limited other)) (Err (Limited limit)) → other ≡ limit
  same_limit other h = cc

  -- a list that is used up meets no limit
  used_up : (b : Bool) (s : State) → ◌≡◌ {A = Result State DriveRefusal} (if b then Ok s else Err NotDone) (Err (Limited limit)) → ⊥
  used_up true s h = cc
  used_up false s h = cc

  not_done : ◌≡◌ {A = Result State DriveRefusal} (Err NotDone) (Err (Limited limit)) → ⊥
  not_done h = cc

  bad_worker : ◌≡◌ {A = Result State DriveRefusal} (Err BadWorker) (Err (Limited limit)) → ⊥
  bad_worker h = cc

  -- if a list is refused for the limit from a reached state on, the limit is met
  Meets : List ℕ → State → Type 0
  Meets ws s = Reached (block_of calls store) workers s → driven calls store workers ws s ≡ Err (Limited limit) → MeetsLimit (block_of calls store) workers limit

  -- by the result of the first entry's step
  by_result : (ws : List ℕ) → ((t : State) → Meets ws t) → (w : ℕ) (s : State) → Reached (block_of calls store) workers s → w < workers → (r : Option (Result State Limit)) → due_result calls store w s ≡ r → continue_drive (λ t. driven calls store workers ws t) r ≡ Err (Limited limit) → MeetsLimit (block_of calls store) workers limit
  unfolding Meets
  by_result ws rest w s reached below None is k = absurd (not_done k)
  by_result ws rest w s reached below (Some (Ok t)) is k = rest t (stepped w (due_step calls (task_at s w)) reached below is) k
  by_result ws rest w s reached below (Some (Err other)) is k = record {
    state = s;
    reached = reached;
    worker = w;
    within = below;
    step = due_step calls (task_at s w);
    refused = subst (λ l. due_result calls store w s ≡ Some (Err l)) (same_limit other k) is;
  }

  -- by whether the first entry is a worker
  by_entry : (ws : List ℕ) → ((t : State) → Meets ws t) → (w : ℕ) (s : State) → Reached (block_of calls store) workers s → (b : Bool) → nat_lt w workers ≡ b → (if b then continue_drive (λ t. driven calls store workers ws t) (due_result calls store w s) else Err BadWorker) ≡ Err (Limited limit) → MeetsLimit (block_of calls store) workers limit
  by_entry ws rest w s reached true is k = by_result ws rest w s reached (lt_says w workers is) (due_result calls store w s) refl k
  by_entry ws rest w s reached false is k = absurd (bad_worker k)

  -- from a reached state on
  meets : (ws : List ℕ) (s : State) → Meets ws s
  unfolding Meets driven
  meets [] s reached h = absurd (used_up (is_done s) s h)
  meets (w ∷ ws) s reached h = by_entry ws (λ t. meets ws t) w s reached (nat_lt w workers) refl h

  -- from the start state on
  pub refused_list_meets : (schedule : List ℕ) → drive_of calls store workers schedule ≡ Err (Limited limit) → MeetsLimit (block_of calls store) workers limit
  unfolding Meets
  refused_list_meets schedule h = by_count (nat_le 1 workers && nat_le workers 32) h where
    by_count : (b : Bool) → (if b then driven calls store workers schedule (start_state (length calls) workers) else Err BadWorker) ≡ Err (Limited limit) → MeetsLimit (block_of calls store) workers limit
    by_count true k = meets schedule (start_state (length calls) workers) started k
    by_count false k = absurd (bad_worker k)
