-- Lists of owed steps that lead to a state, with bounds on the steps and on the records among them.
use Rattle.std.proofs.Common.{◌≡◌, ◌<◌, ◌≤◌, ◌+◌, ◌*◌, nat_lt, ℕ, true, false, List, [], ◌∷◌, Result, Some, Ok, Err, arith, ap, ◌∙◌}
use Rattle.std.proofs.lemmas.Bool.{cond-true}
use Rattle.stm_state.specs.Limits.{record_limit}
use Rattle.stm_state.specs.State.{State, is_done}
use Rattle.stm_state.specs.Steps.{Limit, ArenaFull, IncarnationLimit}
use Rattle.stm_state.specs.Drive.{DriveRefusal, Limited, continue_drive, driven}
use Rattle.stm_state.proofs.Tests.{lt_is}
use Rattle.never_stuck.specs.Ending.{CanEnd, ends, meets, EndsWithin}
use Rattle.never_stuck.proofs.UnstuckGoals.{Setting, due}

abbrev pub AreDone : State → Type 0
AreDone s = is_done s ≡ true

-- at most n owed steps lead to a state in which P holds, and at most r of them are records, each of at most 256 writes; or one of
-- the steps is refused for a limit. If `strict` is true, none is refused for an incarnation
pub data Comes (setting : Setting) (P : State → Type 0) : ℕ → ℕ → State → Type 0 where
  comes_here : {n r : ℕ} {s : State} → P s → Comes setting P n r s
  comes_on : {n r : ℕ} {s : State} (w m q : ℕ) (t : State) → w < setting.workers → due setting w s ≡ Some (Ok t) → m < n → t.record_count + 256 * q ≤ s.record_count + 256 * r → Comes setting P m q t → Comes setting P n r s
  meets_full : {n r : ℕ} {s : State} (w : ℕ) → w < setting.workers → due setting w s ≡ Some (Err ArenaFull) → record_limit < s.record_count + 256 * r → Comes setting P n r s
  meets_spent : {n r : ℕ} {s : State} (w : ℕ) → w < setting.workers → due setting w s ≡ Some (Err IncarnationLimit) → setting.strict ≡ false → Comes setting P n r s

module _ {setting : Setting} where
  -- what is reached within some bounds is reached within greater ones
  pub comes_more : {P : State → Type 0} {n r m q : ℕ} {s : State} → n ≤ m → r ≤ q → Comes setting P n r s → Comes setting P m q s
  comes_more more wider (comes_here p) = comes_here p
  comes_more more wider (comes_on w a b t w_in made fewer room rest) = comes_on w a b t w_in made (omega (arith, more, fewer)) (omega (arith, wider, room)) rest
  comes_more more wider (meets_full w w_in refused over) = meets_full w w_in refused (omega (arith, wider, over))
  comes_more more wider (meets_spent w w_in refused free) = meets_spent w w_in refused free

  -- what follows from P is reached too
  pub comes_so : {P Q : State → Type 0} {n r : ℕ} {s : State} → ((t : State) → P t → Q t) → Comes setting P n r s → Comes setting Q n r s
  comes_so {s = s} f (comes_here p) = comes_here (f s p)
  comes_so f (comes_on w a b t w_in made fewer room rest) = comes_on w a b t w_in made fewer room (comes_so f rest)
  comes_so f (meets_full w w_in refused over) = meets_full w w_in refused over
  comes_so f (meets_spent w w_in refused free) = meets_spent w w_in refused free

-- ---- lists

module _ (setting : Setting) where
  -- the result of a list
  abbrev comes_to : List ℕ → State → Result State DriveRefusal
  comes_to list s = driven setting.calls setting.store setting.workers list s

  -- an entry of a list, whose step is made
  driven_on : (w : ℕ) (list : List ℕ) (s t : State) → w < setting.workers → due setting w s ≡ Some (Ok t) → comes_to (w ∷ list) s ≡ comes_to list t
  unfolding driven
  driven_on w list s t w_in made = cond-true (nat_lt w setting.workers) _ _ (lt_is w setting.workers w_in) ∙ ap (continue_drive (λ u. comes_to list u)) made

  -- the last entry of a list, whose step is refused
  driven_refused : (w : ℕ) (s : State) (limit : Limit) → w < setting.workers → due setting w s ≡ Some (Err limit) → comes_to (w ∷ []) s ≡ Err (Limited limit)
  unfolding driven
  driven_refused w s limit w_in refused = cond-true (nat_lt w setting.workers) _ _ (lt_is w setting.workers w_in) ∙ ap (continue_drive (λ u. comes_to [] u)) refused

  -- a list that is used up in a state in which workers are done
  driven_done : (s : State) → AreDone s → comes_to [] s ≡ Ok s
  unfolding driven
  driven_done s done = cond-true (is_done s) _ _ done

  -- what some list does from the next state on, a longer one does
  can_end_on : (w : ℕ) (s t : State) → w < setting.workers → due setting w s ≡ Some (Ok t) → CanEnd setting.calls setting.store setting.workers t → CanEnd setting.calls setting.store setting.workers s
  can_end_on w s t w_in made (ends list u h) = ends (w ∷ list) u (driven_on w list s t w_in made ∙ h)
  can_end_on w s t w_in made (meets list limit h) = meets (w ∷ list) limit (driven_on w list s t w_in made ∙ h)

  -- owed steps that lead to the end make a list
  pub can_end : {n r : ℕ} {s : State} → Comes setting AreDone n r s → CanEnd setting.calls setting.store setting.workers s
  can_end {s = s} (comes_here done) = ends [] s (driven_done s done)
  can_end {s = s} (comes_on w a b t w_in made fewer room rest) = can_end_on w s t w_in made (can_end rest)
  can_end {s = s} (meets_full w w_in refused over) = meets (w ∷ []) ArenaFull (driven_refused w s ArenaFull w_in refused)
  can_end {s = s} (meets_spent w w_in refused free) = meets (w ∷ []) IncarnationLimit (driven_refused w s IncarnationLimit w_in refused)

  -- if `strict` is true and the arena has room for the records, the list leads to the end, and is no longer than the bound
  pub ends_within : setting.strict ≡ true → {n r : ℕ} {s : State} → s.record_count + 256 * r ≤ record_limit → Comes setting AreDone n r s → EndsWithin n setting.calls setting.store setting.workers s
  ends_within is {s = s} fits (comes_here done) = record { list = []; short = omega arith; state = s; ends = driven_done s done }
  ends_within is {s = s} fits (comes_on w a b t w_in made fewer room rest) =
      let more = ends_within is (omega (arith, fits, room)) rest in
      record { list = w ∷ more.list; short = let most = more.short in omega (arith, most, fewer); state = more.state; ends = driven_on w more.list s t w_in made ∙ more.ends }
  ends_within is fits (meets_full w w_in refused over) = absurd (omega (arith, fits, over))
  ends_within is fits (meets_spent w w_in refused free) = cc
