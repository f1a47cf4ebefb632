-- Rounds, and endless schedules in which each worker comes again and again, end.
use Rattle.std.proofs.Common.{◌≡◌, ◌<◌, ◌≤◌, ◌⊎◌, ◌+◌, ◌-◌, ◌*◌, ◌/◌, ◌++◌, ◌&&◌, nat_le, ℕ, zero, suc, Bool, true, false, List, [], ◌∷◌, length, Result, Ok, Err, arith, refl, sym, ap, subst, ◌∙◌, inl, inr}
use Rattle.std.specs.List.{AllByRecursion, Contains, concat}
use Rattle.std.specs.Cmp.Derive.{both_true}
use Rattle.std.proofs.lemmas.Bool.{cond-true}
use Rattle.std.proofs.lemmas.Bool.Decides.{nat_tests}
use Rattle.std.proofs.Math.Nat.{mul-le-mul_right}
use Rattle.rv_ledger.specs.Key.{Storage}
use Rattle.rv_ledger.specs.Call.{Invocation}
use Rattle.stm_state.specs.State.{State, start_state, is_done}
use Rattle.stm_state.specs.Steps.{Limit}
use Rattle.stm_state.specs.Dones.{dones_of}
use Rattle.stm_state.specs.Drive.{DrivenTo, at_start, DriveRefusal, Limited, driven, drive_of}
use Rattle.stm_state.specs.Done.{block_of}
use Rattle.stm_state.proofs.Lists.{all_append}
use Rattle.stm_state.proofs.DueSteps.{reached_where_led}
use Rattle.stm_state.proofs.InvariantKept.{invariant_kept}
use Rattle.never_stuck.specs.Far.{HasAtMostGas}
use Rattle.never_stuck.proofs.Lists.{total_gas, total_most}
use Rattle.always_ends.specs.Work.{HasAtMost, IsSmall, incarnations, most_incarnations, most_work, work_by_incarnation}
use Rattle.always_ends.specs.Schedules.{IsRound, first_entries, Ends, at_end, at_limit}
use Rattle.always_ends.specs.Laws.{FairRoundsEnd, FairScheduleEnds, IdleIsDone, SmallBlocksReachTheEnd, WorkIsBounded}
use Rattle.always_ends.proofs.Sums.{le_through}
use Rattle.always_ends.proofs.Measure.{Bounds, cost, cost_told, left, brought, Uses}
use Rattle.always_ends.proofs.WorkOfLists.{job, led_invariant, start_left, work_few}
use Rattle.stm_state.proofs.Refusals.{refused_list_meets}
use Rattle.always_ends.proofs.SmallBlocks.{small_blocks_meet_no_limit}
use Rattle.always_ends.proofs.Powers.{all_bounded, brought_most}
use Rattle.always_ends.proofs.Stretches.{rounds_of}
use Rattle.always_ends.proofs.IdleWorkers.{OwesIdle, idle_is_done_where}
use Rattle.always_ends.proofs.Walks.{Goes, works, rests, Walks, refused, walked, walks, done_comes}

-- what holds of each element holds of one that a list contains
held : (P : ℕ → Type 0) (xs : List ℕ) (x : ℕ) → AllByRecursion P xs → Contains xs x → P x
held P [] x all found = let at = found.1 in absurd (omega (arith, at))
held P (y ∷ ys) x all (zero, at, is) = subst P is all.0
held P (y ∷ ys) x all (suc k, at, is) = held P ys x all.1 (k, omega (arith, at), is)

-- what a list contains it contains with others after it
contained : (xs ys : List ℕ) (x : ℕ) → Contains xs x → Contains (xs ++ ys) x
contained [] ys x found = let at = found.1 in absurd (omega (arith, at))
contained (z ∷ zs) ys x (zero, at, is) = (0, omega arith, is)
contained (z ∷ zs) ys x (suc k, at, is) = let rest = contained zs ys x (k, omega (arith, at), is) in (suc rest.0, (let low = rest.1 in omega (arith, low)), rest.2)

module _ (calls : List Invocation) (store : Storage) (workers gas : ℕ) (some : 0 < workers) (most : HasAtMostGas gas calls) where
  abbrev bounds : Bounds
  bounds = job calls store workers gas most

  -- what all incarnations together can bring, those at the start among them
  abbrev top : ℕ
  top = most_incarnations (length calls) 256 * cost bounds

  abbrev begins_with : ℕ
  begins_with = length calls * cost bounds

  -- a list leads to the end, and each worker has been answered Done; or it meets a limit
  abbrev IsAtEnd : Result State DriveRefusal → Type 0
  IsAtEnd r = ((t : State) × (r ≡ Ok t) × ((w : ℕ) → w < workers → 0 < dones_of w t)) ⊎ ((limit : Limit) × (r ≡ Err (Limited limit)))

  abbrev Comes : List ℕ → State → Type 0
  Comes list s = IsAtEnd (driven calls store workers list s)

  comes_by : (list : List ℕ) (s : State) (r : Result State DriveRefusal) → driven calls store workers list s ≡ r → IsAtEnd r → Comes list s
  comes_by list s r e (inl h) = inl (h.0, e ∙ h.1, h.2)
  comes_by list s r e (inr h) = inr (h.0, e ∙ h.1)

  -- ---- one round

  -- if workers are not done, a list that names each worker meets a limit, or leads on with some work
  round_works : (list : List ℕ) (s t : State) → DrivenTo calls store workers s → IsRound workers list → is_done s ≡ false → Goes calls store workers gas most list s t → Uses bounds 1 s t
  round_works list s t led round not_yet (works used) = used
  round_works list s t led round not_yet (rests same idle) =
      let over = idle_is_done_where calls store workers s some (led_invariant calls store workers gas most s led) (λ w w_in. held (OwesIdle calls s) list w idle (round.each w w_in)) in cc

  -- ---- rounds

  within_all : (rounds : List (List ℕ)) → AllByRecursion (IsRound workers) rounds → AllByRecursion (λ w. w < workers) (concat rounds)
  within_all [] all = tt
  within_all (round ∷ rounds) all = all_append (λ w. w < workers) round (concat rounds) all.0.within (within_all rounds all.1)

  rounds_on : (round : List ℕ) (rounds : List (List ℕ)) (fuel : ℕ) (s : State) → DrivenTo calls store workers s → IsRound workers round → is_done s ≡ false → left bounds s + top ≤ fuel + (begins_with + brought bounds s) → fuel < suc (length rounds)
      → ((more : ℕ) (t : State) → DrivenTo calls store workers t → left bounds t + top ≤ more + (begins_with + brought bounds t) → more < length rounds → Comes (concat rounds) t) → Walks calls store workers gas most round s → Comes (round ++ concat rounds) s
  rounds_on round rounds fuel s led each not_yet enough long rest (refused limit h) = inr (limit, h (concat rounds))
  rounds_on round rounds fuel s led each not_yet enough long rest (walked t after h goes) =
      let used = round_works round s t led each not_yet goes in
      let bound = brought_most bounds t (reached_where_led calls store workers t after) in
      comes_by (round ++ concat rounds) s (driven calls store workers (concat rounds) t) (h (concat rounds)) (rest (fuel - 1) t after (omega (arith, used, enough, bound)) (omega (arith, used, enough, bound, long)))

  -- if workers are done, and if they are not
  rounds_by : (round : List ℕ) (rounds : List (List ℕ)) (fuel : ℕ) (s : State) → DrivenTo calls store workers s → AllByRecursion (IsRound workers) (round ∷ rounds) → left bounds s + top ≤ fuel + (begins_with + brought bounds s) → fuel < suc (length rounds)
      → ((more : ℕ) (t : State) → DrivenTo calls store workers t → left bounds t + top ≤ more + (begins_with + brought bounds t) → more < length rounds → Comes (concat rounds) t) → (over : Bool) → is_done s ≡ over → Comes (round ++ concat rounds) s
  rounds_by round rounds fuel s led all enough long rest true over =
      let told = done_comes calls store workers gas most (round ++ concat rounds) s led over (within_all (round ∷ rounds) all) in
      inl (told.state, told.comes, λ w w_in. told.told w (contained round (concat rounds) w (all.0.each w w_in)))
  rounds_by round rounds fuel s led all enough long rest false over = rounds_on round rounds fuel s led all.0 over enough long rest (walks calls store workers gas most round s led all.0.within)

  rounds_come : (rounds : List (List ℕ)) (fuel : ℕ) (s : State) → DrivenTo calls store workers s → AllByRecursion (IsRound workers) rounds → left bounds s + top ≤ fuel + (begins_with + brought bounds s) → fuel < length rounds → Comes (concat rounds) s
  rounds_come [] fuel s led all enough long = absurd (omega (arith, long))
  rounds_come (round ∷ rounds) fuel s led all enough long =
      rounds_by round rounds fuel s led all enough long (λ more t after left_more fewer. rounds_come rounds more t after all.1 left_more fewer) (is_done s) refl

  -- ---- from the start

  abbrev first : State
  first = start_state (length calls) workers

  -- enough rounds
  start_enough : left bounds first + top ≤ most_work workers (length calls) gas + (begins_with + brought bounds first)
  start_enough =
      let begins = start_left bounds in
      let told = ap (λ c. most_incarnations (length calls) 256 * c) (cost_told bounds) in
      omega (arith, begins, told)

  drives : (list : List ℕ) → workers ≤ 32 → drive_of calls store workers list ≡ driven calls store workers list first
  drives list few = cond-true (nat_le 1 workers && nat_le workers 32) _ _ (both_true (allowed_low some) (allowed_high few))
    where
      allowed_low : 0 < workers → nat_le 1 workers ≡ true
      allowed_low h = grind (arith, nat_tests)

      allowed_high : workers ≤ 32 → nat_le workers 32 ≡ true
      allowed_high h = grind (arith, nat_tests)

  ends_by : (list : List ℕ) → workers ≤ 32 → Comes list first → Ends calls store workers list
  ends_by list few (inl h) = at_end h.0 (drives list few ∙ h.1) h.2
  ends_by list few (inr h) = at_limit h.0 (drives list few ∙ h.1)

  -- whatever list came before
  left_after : (list : List ℕ) (s t : State) → Goes calls store workers gas most list s t → left bounds t + brought bounds s ≤ left bounds s + brought bounds t
  left_after list s t (works used) = omega (arith, used)
  left_after list s t (rests same idle) = subst (λ u. left bounds u + brought bounds s ≤ left bounds s + brought bounds u) (sym same.is) (omega arith)

  after_list : (list : List ℕ) (rounds : List (List ℕ)) → AllByRecursion (IsRound workers) rounds → most_work workers (length calls) gas < length rounds → Walks calls store workers gas most list first → Comes (list ++ concat rounds) first
  after_list list rounds all long (refused limit h) = inr (limit, h (concat rounds))
  after_list list rounds all long (walked t led h goes) =
      let begins = start_enough in
      let less = left_after list first t goes in
      comes_by (list ++ concat rounds) first (driven calls store workers (concat rounds) t) (h (concat rounds)) (rounds_come rounds (most_work workers (length calls) gas) t led all (omega (arith, begins, less)) long)

  pub rounds_end : (before : List ℕ) (rounds : List (List ℕ)) → workers ≤ 32 → AllByRecursion (λ w. w < workers) before → AllByRecursion (IsRound workers) rounds → most_work workers (length calls) gas < length rounds → Ends calls store workers (before ++ concat rounds)
  rounds_end before rounds few within all long = ends_by (before ++ concat rounds) few (after_list before rounds all long (walks calls store workers gas most before first at_start within))

-- ---- the laws

pub work_is_bounded : WorkIsBounded
work_is_bounded calls store workers gas work s most made =
    let few = work_few calls store workers gas most work s made in
    let b = job calls store workers gas most in
    let each = work_by_incarnation workers (length calls) (gas / 200 + 1) 256 in
    let all = mul-le-mul_right each (all_bounded b s (reached_where_led calls store workers s few.0)) in
    (few.1, (let bound = few.1 in le_through work ((length calls + incarnations s) * each) (most_work workers (length calls) gas) bound all))

pub fair_rounds_end : FairRoundsEnd
fair_rounds_end calls store workers gas before rounds some few most within all long = rounds_end calls store workers gas some most before rounds few within all long

pub fair_schedule_ends : FairScheduleEnds
fair_schedule_ends calls store workers schedule some few fair =
    let cut = rounds_of workers (suc (most_work workers (length calls) (total_gas calls))) schedule fair in
    let long = cut.size in
    (cut.number, subst (Ends calls store workers) cut.entries (fair_rounds_end calls store workers (total_gas calls) [] cut.rounds some few (total_most calls) tt cut.all (omega (arith, long))))

pub idle_is_done : IdleIsDone
idle_is_done calls store workers s some reached idle = idle_is_done_where calls store workers s some (invariant_kept (block_of calls store) workers s reached) idle

-- on a small block no limit ends it
end_of : (calls : List Invocation) (store : Storage) (workers reads writes : ℕ) (schedule : List ℕ) → HasAtMost reads writes (block_of calls store) → IsSmall (length calls) writes → Ends calls store workers schedule → (t : State) × (drive_of calls store workers schedule ≡ Ok t)
end_of calls store workers reads writes schedule most small (at_end t comes told) = (t, comes)
end_of calls store workers reads writes schedule most small (at_limit limit h) =
    absurd (small_blocks_meet_no_limit (block_of calls store) workers reads writes limit most small (refused_list_meets calls store workers limit schedule h))

pub small_blocks_reach_the_end : SmallBlocksReachTheEnd
small_blocks_reach_the_end calls store workers reads writes schedule some few most small fair =
    let ends = fair_schedule_ends calls store workers schedule some few fair in
    let end = end_of calls store workers reads writes (first_entries ends.0 schedule) most small ends.1 in
    (ends.0, end.0, end.1)
