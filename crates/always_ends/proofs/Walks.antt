-- What a list of worker numbers does: it works, or each of its workers owes an idle asking all along.
use Rattle.std.proofs.Common.{◌≡◌, ◌≢◌, ◌<◌, ◌≤◌, ◌⊎◌, ◌+◌, ◌++◌, nat_lt, ℕ, zero, suc, Bool, true, false, if◌then◌else◌, List, [], ◌∷◌, length, Option, None, Some, IsSome, Result, Ok, Err, slice_index_or, arith, refl, sym, ap, subst, ◌∙◌, inl, inr}
use Rattle.std.specs.List.{AllByRecursion, Contains}
use Rattle.std.proofs.lemmas.Bool.{cases_eq, cond_both, cond-true}
use Rattle.rv_ledger.specs.Key.{Storage}
use Rattle.rv_ledger.specs.Call.{Invocation}
use Rattle.rv_ledger.specs.declared.outcome.Counts.{Counts}
use Rattle.stm_state.specs.declared.state.Task.TheVariants.{Idle}
use Rattle.stm_state.specs.State.{State, task_at, is_done}
use Rattle.stm_state.specs.Steps.{Block, Step, Ask, Limit, counted, one_asking, after_ask, step_with}
use Rattle.stm_state.specs.Done.{block_of}
use Rattle.stm_state.specs.Dones.{dones_of}
use Rattle.stm_state.specs.Drive.{DrivenTo, made_step, DriveRefusal, Limited, continue_drive, driven, due_result, due_step}
use Rattle.stm_state.proofs.StepsByTask.{IsMade, by_ask, made}
use Rattle.stm_state.proofs.Dones.{done_after, dones_grow, others_stay}
use Rattle.stm_state.proofs.DueSteps.{due_where_led}
use Rattle.stm_state.proofs.Tests.{idle_at_done, lt_is, lt_says}
use Rattle.never_stuck.specs.Far.{HasAtMostGas}
use Rattle.always_ends.specs.Work.{is_idle_asking}
use Rattle.always_ends.specs.Laws.{IdleChangesNothing}
use Rattle.always_ends.proofs.Measure.{Bounds, Uses}
use Rattle.always_ends.proofs.WorkOfLists.{job, due_uses, led_invariant}
use Rattle.always_ends.proofs.IdleWorkers.{OwesIdle, are_past, past_says}

-- two states agree except for what is counted
pub record Agrees (s t : State) : Type 0 where
  pub counts : List Counts
  pub dones : List ℕ
  pub is : t ≡ record s { counts = counts; dones = dones }

-- ---- an idle asking

-- it changes only what is counted
asked_agrees : (w : ℕ) (s : State) → are_past s ≡ true → Agrees s (counted one_asking w (after_ask w s))
asked_agrees w s past =
    let at = past_says s past in
    let e = at.0 in
    let v = at.1 in
    cond_both (is_done s) _ _ (λ t. Agrees s (counted one_asking w t)) (λ _. record { counts = _; dones = _; is = refl })
    (λ _. cond_both (nat_lt s.validation s.execution) _ _ (λ t. Agrees s (counted one_asking w t)) (λ l. let less = lt_says s.validation s.execution l in absurd (omega (arith, less, e, v)))
    (λ _. cond_both (nat_lt s.execution (length s.calls)) _ _ (λ t. Agrees s (counted one_asking w t)) (λ l. let less = lt_says s.execution (length s.calls) l in absurd (omega (arith, less, e)))
    (λ _. record { counts = _; dones = _; is = refl })))

-- a worker has no task, and both indices are past the last call
abbrev pub IsAsleep : State → ℕ → Type 0
IsAsleep s w = (task_at s w ≡ Idle) × (are_past s ≡ true)

pub idle_is : (block : Block) (w : ℕ) (s : State) (step : Step) (t : State) → IsMade block w s step t → is_idle_asking step s ≡ true → Agrees s t × IsAsleep s w
idle_is block w s step t (by_ask at) h = (asked_agrees w s h, (at, h))
idle_is block w s step t did h = cc

pub idle_changes_nothing : IdleChangesNothing
idle_changes_nothing block w step s t k idle =
    let same = (idle_is block w s step t (made block w s t step k) idle).0 in
    let counts = ap (λ (x : State). x.counts) same.is in
    let dones = ap (λ (x : State). x.dones) same.is in
    same.is ∙ ap (λ c. record s { counts = c; dones = same.dones }) (sym counts) ∙ ap (λ d. record s { counts = t.counts; dones = d }) (sym dones)

pub agrees_on : (s t u : State) → Agrees s t → Agrees t u → Agrees s u
agrees_on s t u h k = record { counts = k.counts; dones = k.dones; is = k.is ∙ ap (λ (x : State). record x { counts = k.counts; dones = k.dones }) h.is }

module _ (calls : List Invocation) (store : Storage) (workers gas : ℕ) (most : HasAtMostGas gas calls) where
  abbrev bounds : Bounds
  bounds = job calls store workers gas most

  abbrev comes_to : List ℕ → State → Result State DriveRefusal
  comes_to list s = driven calls store workers list s

  -- on the way from one state to another there was work; or they agree, and each worker of the list owes an idle asking
  pub data Goes (list : List ℕ) (s t : State) : Type 0 where
    works : Uses bounds 1 s t → Goes list s t
    rests : Agrees s t → AllByRecursion (OwesIdle calls s) list → Goes list s t

  -- a list meets a limit, or leads to a state, and whatever follows the list starts from there
  pub data Walks (list : List ℕ) (s : State) : Type 0 where
    refused : (limit : Limit) → ((more : List ℕ) → comes_to (list ++ more) s ≡ Err (Limited limit)) → Walks list s
    walked : (t : State) → DrivenTo calls store workers t → ((more : List ℕ) → comes_to (list ++ more) s ≡ comes_to more t) → Goes list s t → Walks list s

  -- ---- one step

  step_comes : (w : ℕ) (list : List ℕ) (s t : State) → w < workers → due_result calls store w s ≡ Some (Ok t) → comes_to (w ∷ list) s ≡ comes_to list t
  unfolding driven
  step_comes w list s t w_in is = cond-true (nat_lt w workers) _ _ (lt_is w workers w_in) ∙ ap (continue_drive (λ u. comes_to list u)) is

  step_refused : (w : ℕ) (list : List ℕ) (s : State) (limit : Limit) → w < workers → due_result calls store w s ≡ Some (Err limit) → comes_to (w ∷ list) s ≡ Err (Limited limit)
  unfolding driven
  step_refused w list s limit w_in is = cond-true (nat_lt w workers) _ _ (lt_is w workers w_in) ∙ ap (continue_drive (λ u. comes_to list u)) is

  -- it is work, or an idle asking
  step_goes : (w : ℕ) (s t : State) → DrivenTo calls store workers s → w < workers → due_result calls store w s ≡ Some (Ok t) → Uses bounds 1 s t ⊎ (Agrees s t × OwesIdle calls s w)
  step_goes w s t led w_in k = go (is_idle_asking (due_step calls (task_at s w)) s) refl
    where
      go : (idle : Bool) → is_idle_asking (due_step calls (task_at s w)) s ≡ idle → Uses bounds 1 s t ⊎ (Agrees s t × OwesIdle calls s w)
      go true h = inr ((idle_is (block_of calls store) w s (due_step calls (task_at s w)) t (made (block_of calls store) w s t (due_step calls (task_at s w)) k) h).0, h)
      go false h = inl (subst (λ x. Uses bounds x s t) (ap (λ idle. if idle then 0 else 1) h) (due_uses calls store workers gas most w s t (led_invariant calls store workers gas most s led) w_in k))

  -- ---- a list

  -- what is counted does not change what is owed
  same_idle : (s : State) (counts : List Counts) (dones : List ℕ) (step : Step) → is_idle_asking step (record s { counts = counts; dones = dones }) ≡ is_idle_asking step s
  same_idle s counts dones Ask = refl
  same_idle s counts dones step = refl

  still_idle : (s : State) (counts : List Counts) (dones : List ℕ) (list : List ℕ) → AllByRecursion (OwesIdle calls (record s { counts = counts; dones = dones })) list → AllByRecursion (OwesIdle calls s) list
  still_idle s counts dones [] h = tt
  still_idle s counts dones (w ∷ list) h = (sym (same_idle s counts dones (due_step calls (task_at s w))) ∙ h.0, still_idle s counts dones list h.1)

  -- a step and the rest of the list
  goes_then : (w : ℕ) (list : List ℕ) (s t u : State) → Uses bounds 1 s t ⊎ (Agrees s t × OwesIdle calls s w) → Goes list t u → Goes (w ∷ list) s u
  goes_then w list s t u (inl used) (works more) = works (omega (arith, used, more))
  goes_then w list s t u (inl used) (rests same idle) = works (subst (λ x. Uses bounds 1 s x) (sym same.is) used)
  goes_then w list s t u (inr quiet) (works more) = works (subst (λ x. Uses bounds 1 x u) quiet.0.is more)
  goes_then w list s t u (inr quiet) (rests same idle) = rests (agrees_on s t u quiet.0 same) (quiet.1, still_idle s quiet.0.counts quiet.0.dones list (subst (λ x. AllByRecursion (OwesIdle calls x) list) quiet.0.is idle))

  walks_then : (w : ℕ) (list : List ℕ) (s t : State) → w < workers → due_result calls store w s ≡ Some (Ok t) → Uses bounds 1 s t ⊎ (Agrees s t × OwesIdle calls s w) → Walks list t → Walks (w ∷ list) s
  walks_then w list s t w_in k first (refused limit h) = refused limit (λ more. step_comes w (list ++ more) s t w_in k ∙ h more)
  walks_then w list s t w_in k first (walked u led h goes) = walked u led (λ more. step_comes w (list ++ more) s t w_in k ∙ h more) (goes_then w list s t u first goes)

  walks_by : (w : ℕ) (list : List ℕ) (s : State) → DrivenTo calls store workers s → w < workers → ((t : State) → DrivenTo calls store workers t → Walks list t) → (o : Option (Result State Limit)) → due_result calls store w s ≡ o → IsSome o → Walks (w ∷ list) s
  walks_by w list s led w_in rest None is some = cc
  walks_by w list s led w_in rest (Some (Err limit)) is some = refused limit (λ more. step_refused w (list ++ more) s limit w_in is)
  walks_by w list s led w_in rest (Some (Ok t)) is some = walks_then w list s t w_in is (step_goes w s t led w_in is) (rest t (made_step w led w_in is))

  pub walks : (list : List ℕ) (s : State) → DrivenTo calls store workers s → AllByRecursion (λ w. w < workers) list → Walks list s
  walks [] s led within = walked s led (λ more. refl) (rests (record { counts = s.counts; dones = s.dones; is = refl }) tt)
  walks (w ∷ list) s led within = walks_by w list s led within.0 (λ t after. walks list t after within.1) (due_result calls store w s) refl (due_where_led calls store workers s w led within.0)

  -- ---- if workers are done

  -- a worker asks, and is answered Done
  abbrev asked : ℕ → State → State
  asked w s = counted one_asking w (after_ask w s)

  done_asks : (w : ℕ) (s : State) → is_done s ≡ true → due_result calls store w s ≡ Some (Ok (asked w s))
  done_asks w s done = ap (λ task. step_with (block_of calls store) w task (due_step calls task) s) (idle_at_done s done w)

  -- its asking is counted, and those of the others stay
  asked_dones : (w : ℕ) (s : State) → DrivenTo calls store workers s → w < workers → is_done s ≡ true → dones_of w (asked w s) ≡ dones_of w s + 1
  asked_dones w s led w_in done =
      let size = (led_invariant calls store workers gas most s led).sized.dones in
      let step = ap (λ task. step_with (block_of calls store) w task Ask s) (idle_at_done s done w) in
      dones_grow (block_of calls store) w s (asked w s) step (omega (arith, size, w_in)) ∙ cond-true (is_done s) _ _ done

  others_dones : (w x : ℕ) (s : State) → is_done s ≡ true → x ≢ w → dones_of x (asked w s) ≡ dones_of x s
  others_dones w x s done ne = others_stay (block_of calls store) w (due_step calls (task_at s w)) s (asked w s) (done_asks w s done) x ne

  -- a list from there on ends there, and each worker that it names is answered Done
  pub record Told (list : List ℕ) (s : State) : Type 0 where
    pub state : State
    pub comes : comes_to list s ≡ Ok state
    pub kept : (w : ℕ) → dones_of w s ≤ dones_of w state
    pub told : (w : ℕ) → Contains list w → 0 < dones_of w state

  pub done_comes : (list : List ℕ) (s : State) → DrivenTo calls store workers s → is_done s ≡ true → AllByRecursion (λ w. w < workers) list → Told list s
  unfolding driven
  done_comes [] s led done within = record { state = s; comes = cond-true (is_done s) _ _ done; kept = λ w. omega arith; told = λ w found. let at = found.1 in absurd (omega (arith, at)) }
  done_comes (w ∷ list) s led done within =
      let asks = done_asks w s done in
      let t = asked w s in
      let rest = done_comes list t (made_step w led within.0 asks) (done_after (block_of calls store) w (due_step calls (task_at s w)) s t done asks) within.1 in
      let own = asked_dones w s led within.0 done in record {
        state = rest.state;
        comes = step_comes w list s t within.0 asks ∙ rest.comes;
        kept = λ x. let more = rest.kept x in elim (cases_eq x w) [
          | inl e ↦ let one = ap (λ y. dones_of y t) e in let was = ap (λ y. dones_of y s) e in omega (arith, more, own, one, was)
          | inr ne ↦ let same = others_dones w x s done ne in omega (arith, more, same)
        ];
        told = λ x found. told_by w list s t rest own x found.0 found.1 found.2;
      }
    where
      told_by : (w : ℕ) (list : List ℕ) (s t : State) (rest : Told list t) → dones_of w t ≡ dones_of w s + 1 → (x k : ℕ) → k < length (w ∷ list) → slice_index_or (w ∷ list) k x ≡ x → 0 < dones_of x rest.state
      told_by w list s t rest own x zero at is = let more = rest.kept x in let one = ap (λ y. dones_of y t) is in omega (arith, more, own, one)
      told_by w list s t rest own x (suc k) at is = rest.told x (k, omega (arith, at), is)
