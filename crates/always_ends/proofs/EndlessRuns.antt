-- An endless run of steps, whatever keys its runs read, reaches a state in which each worker has been answered Done.
use Rattle.std.proofs.Common.{◌≡◌, ◌<◌, ◌≤◌, ◌⊎◌, ◌+◌, ◌-◌, ◌*◌, ℕ, zero, suc, Bool, true, false, if◌then◌else◌, List, length, Option, None, Some, Ok, arith, refl, sym, ap, subst, ◌∙◌, inl, inr}
use Rattle.std.proofs.lemmas.Bool.{cases_eq, cases_lt, cond-true}
use Rattle.std.proofs.lemmas.List.{get_or_past}
use Rattle.rv_step.specs.declared.answer.StorageAnswer.{StorageAnswer}
use Rattle.stm_state.specs.declared.state.Task.TheVariants.{Idle, Running}
use Rattle.stm_state.specs.State.{State, start_state, task_at, is_done}
use Rattle.stm_state.specs.Steps.{Step, Ask, worker_step}
use Rattle.stm_state.specs.Done.{Reached, started, stepped}
use Rattle.stm_state.specs.Dones.{dones_of}
use Rattle.stm_state.proofs.StepsByTask.{IsMade, made}
use Rattle.stm_state.proofs.Dones.{asked_at_done, done_after, dones_grow, others_stay}
use Rattle.stm_state.proofs.InvariantKept.{invariant_kept}
use Rattle.never_stuck.proofs.IdleStates.{done_is}
use Rattle.always_ends.specs.Work.{is_idle_asking, most_incarnations}
use Rattle.always_ends.specs.Schedules.{IsFair}
use Rattle.always_ends.specs.Laws.{EndlessRunsReachTheEnd}
use Rattle.always_ends.proofs.Measure.{Bounds, cost, left, brought, Uses}
use Rattle.always_ends.proofs.UsedUp.{counts_all, made_uses}
use Rattle.always_ends.proofs.WorkOfLists.{start_left}
use Rattle.always_ends.proofs.Powers.{brought_most}
use Rattle.always_ends.proofs.IdleWorkers.{past_says}
use Rattle.always_ends.proofs.Walks.{Agrees, IsAsleep, agrees_on, idle_is}
use Rattle.always_ends.proofs.Stretches.{next_of, later, later_at, next_fair, Covers, covers}

module _ (b : Bounds) (some : 0 < b.workers) (counts : b.counts_reads ≡ true) where
  -- a run from a reached state on: each step is made, each worker comes again and again, and each run may read once more
  record IsRunOn (steps : ℕ → ℕ × Step) (states : ℕ → State) : Type 0 where
    reached : Reached b.block b.workers (states 0)
    each : (k : ℕ) → worker_step b.block (steps k).0 (steps k).1 (states k) ≡ Some (Ok (states (suc k)))
    fair : IsFair b.workers (λ k. (steps k).0)
    short : (k w i : ℕ) (answers : List StorageAnswer) (waits : Option ℕ) → task_at (states k) w ≡ Running i answers waits → length answers < b.reads

  -- from its second state on, and from a later one
  next_run : (steps : ℕ → ℕ × Step) (states : ℕ → State) → IsRunOn steps states → IsRunOn (next_of steps) (next_of states)
  next_run steps states h = record {
    reached = stepped (steps 0).0 (steps 0).1 h.reached (h.fair.within 0) (h.each 0);
    each = λ k. h.each (suc k);
    fair = next_fair b.workers (λ k. (steps k).0) h.fair;
    short = λ k. h.short (suc k);
  }

  later_run : (n : ℕ) (steps : ℕ → ℕ × Step) (states : ℕ → State) → IsRunOn steps states → IsRunOn (later n steps) (later n states)
  unfolding later
  later_run zero steps states h = h
  later_run (suc n) steps states h = later_run n (next_of steps) (next_of states) (next_run steps states h)

  -- ---- one step

  first_goes : (steps : ℕ → ℕ × Step) (states : ℕ → State) → IsRunOn steps states → Uses b 1 (states 0) (states 1) ⊎ (Agrees (states 0) (states 1) × IsAsleep (states 0) (steps 0).0)
  first_goes steps states h = go (is_idle_asking (steps 0).1 (states 0)) refl
    where
      is : IsMade b.block (steps 0).0 (states 0) (steps 0).1 (states 1)
      is = made b.block (steps 0).0 (states 0) (states 1) (steps 0).1 (h.each 0)

      go : (idle : Bool) → is_idle_asking (steps 0).1 (states 0) ≡ idle → Uses b 1 (states 0) (states 1) ⊎ (Agrees (states 0) (states 1) × IsAsleep (states 0) (steps 0).0)
      go true e = inr (idle_is b.block (steps 0).0 (states 0) (steps 0).1 (states 1) is e)
      go false e = inl (subst (λ x. Uses b x (states 0) (states 1)) (counts_all b counts (steps 0).1 (states 0) ∙ ap (λ idle. if idle then 0 else 1) e)
          (made_uses b (steps 0).0 (states 0) (invariant_kept b.block b.workers (states 0) h.reached) (h.fair.within 0) (steps 0).1 (states 1) is (λ i answers key same at counted. h.short 0 (steps 0).0 i answers None at)))

  -- ---- a stretch

  -- in m steps there was work, or each worker that made one of them was asleep
  data Goes (m : ℕ) (steps : ℕ → ℕ × Step) (states : ℕ → State) : Type 0 where
    works : Uses b 1 (states 0) (states m) → Goes m steps states
    rests : Agrees (states 0) (states m) → ((j : ℕ) → j < m → IsAsleep (states 0) (steps j).0) → Goes m steps states

  asleep_before : (s t : State) (w : ℕ) → Agrees s t → IsAsleep t w → IsAsleep s w
  asleep_before s t w same asleep = subst (λ x. IsAsleep x w) same.is asleep

  goes_then : (m : ℕ) (steps : ℕ → ℕ × Step) (states : ℕ → State) → Uses b 1 (states 0) (states 1) ⊎ (Agrees (states 0) (states 1) × IsAsleep (states 0) (steps 0).0) → Goes m (next_of steps) (next_of states) → Goes (suc m) steps states
  goes_then m steps states (inl used) (works more) = works (omega (arith, used, more))
  goes_then m steps states (inl used) (rests same asleep) = works (subst (λ x. Uses b 1 (states 0) x) (sym same.is) used)
  goes_then m steps states (inr quiet) (works more) = works (subst (λ x. Uses b 1 x (states (suc m))) quiet.0.is more)
  goes_then m steps states (inr quiet) (rests same asleep) = rests (agrees_on (states 0) (states 1) (states (suc m)) quiet.0 same) all
    where
      all : (j : ℕ) → j < suc m → IsAsleep (states 0) (steps j).0
      all zero less = quiet.1
      all (suc j) less = asleep_before (states 0) (states 1) (steps (suc j)).0 quiet.0 (asleep j (omega (arith, less)))

  stretch : (m : ℕ) (steps : ℕ → ℕ × Step) (states : ℕ → State) → IsRunOn steps states → Goes m steps states
  stretch zero steps states h = rests (record { counts = (states 0).counts; dones = (states 0).dones; is = refl }) (λ j less. absurd (omega (arith, less)))
  stretch (suc m) steps states h = goes_then m steps states (first_goes steps states h) (stretch m (next_of steps) (next_of states) (next_run steps states h))

  -- if all are asleep, workers are done
  all_asleep : (s : State) → Reached b.block b.workers s → ((w : ℕ) → w < b.workers → IsAsleep s w) → is_done s ≡ true
  all_asleep s reached asleep =
      let inv = invariant_kept b.block b.workers s reached in
      let past = past_says s (asleep 0 some).1 in
      let size = inv.sized.calls in
      let runs = past.0 in
      let checks = past.1 in
      done_is b.block b.workers s inv (omega (arith, runs, size)) (omega (arith, checks, size))
      (λ x. elim (cases_lt x b.workers) [
        | inl less ↦ (asleep x less).0
        | inr over ↦ let tasks = inv.sized.tasks in get_or_past s.tasks x Idle (omega (arith, over, tasks))
      ])

  -- if workers are not done, there is work in a stretch in which each worker comes
  stretch_works : (steps : ℕ → ℕ × Step) (states : ℕ → State) → IsRunOn steps states → is_done (states 0) ≡ false → (c : Covers b.workers (λ k. (steps k).0) b.workers) → Goes c.number steps states → Uses b 1 (states 0) (states c.number)
  stretch_works steps states h not_yet c (works used) = used
  stretch_works steps states h not_yet c (rests same asleep) =
      let over = all_asleep (states 0) h.reached (λ w w_in. let at = c.each w w_in in subst (IsAsleep (states 0)) at.2 (asleep at.0 at.1)) in cc

  -- ---- it reaches a state in which workers are done

  abbrev top : ℕ
  top = most_incarnations b.block.count b.writes * cost b

  abbrev begins_with : ℕ
  begins_with = b.block.count * cost b

  abbrev ReachesDone : (ℕ → State) → Type 0
  ReachesDone states = (k : ℕ) × (is_done (states k) ≡ true)

  comes_on : (bound fuel : ℕ) (steps : ℕ → ℕ × Step) (states : ℕ → State) → IsRunOn steps states → is_done (states 0) ≡ false → left b (states 0) + top ≤ fuel + (begins_with + brought b (states 0)) → fuel < suc bound
      → ((n more : ℕ) → left b (later n states 0) + top ≤ more + (begins_with + brought b (later n states 0)) → more < bound → ReachesDone (later n states)) → ReachesDone states
  comes_on bound fuel steps states h not_yet enough long rest =
      let c = covers b.workers b.workers (λ k. (steps k).0) h.fair (omega arith) in
      let used = stretch_works steps states h not_yet c (stretch c.number steps states h) in
      let there : later c.number states 0 ≡ states c.number = later_at c.number 0 states ∙ ap states (plus_none c.number) in
      let most = brought_most b (states c.number) (subst (Reached b.block b.workers) there (later_run c.number steps states h).reached) in
      let found = rest c.number (fuel - 1) (subst (λ s. left b s + top ≤ (fuel - 1) + (begins_with + brought b s)) (sym there) (omega (arith, used, enough, most))) (omega (arith, used, enough, most, long)) in
      (c.number + found.0, ap is_done (sym (later_at c.number found.0 states)) ∙ found.1)
    where
      plus_none : (n : ℕ) → n + 0 ≡ n
      plus_none n = omega arith

  comes_by : (bound fuel : ℕ) (steps : ℕ → ℕ × Step) (states : ℕ → State) → IsRunOn steps states → left b (states 0) + top ≤ fuel + (begins_with + brought b (states 0)) → fuel < suc bound
      → ((n more : ℕ) → left b (later n states 0) + top ≤ more + (begins_with + brought b (later n states 0)) → more < bound → ReachesDone (later n states)) → (over : Bool) → is_done (states 0) ≡ over → ReachesDone states
  comes_by bound fuel steps states h enough long rest true over = (0, over)
  comes_by bound fuel steps states h enough long rest false over = comes_on bound fuel steps states h over enough long rest

  reaches_done : (bound fuel : ℕ) (steps : ℕ → ℕ × Step) (states : ℕ → State) → IsRunOn steps states → left b (states 0) + top ≤ fuel + (begins_with + brought b (states 0)) → fuel < bound → ReachesDone states
  reaches_done zero fuel steps states h enough long = absurd (omega (arith, long))
  reaches_done (suc bound) fuel steps states h enough long =
      comes_by bound fuel steps states h enough long (λ n more left_more fewer. reaches_done bound more (later n steps) (later n states) (later_run n steps states h) left_more fewer) (is_done (states 0)) refl

  -- ---- if workers are done, each is answered Done

  asks : (steps : ℕ → ℕ × Step) (states : ℕ → State) → IsRunOn steps states → is_done (states 0) ≡ true → (is_done (states 1) ≡ true) × ((w : ℕ) → dones_of w (states 0) ≤ dones_of w (states 1)) × (0 < dones_of (steps 0).0 (states 1))
  asks steps states h done =
      let w = (steps 0).0 in
      let step : Step = (steps 0).1 in
      let asking = asked_at_done b.block w step (states 0) (states 1) done (h.each 0) in
      let asks_it : worker_step b.block w Ask (states 0) ≡ Some (Ok (states 1)) = subst (λ (x : Step). worker_step b.block w x (states 0) ≡ Some (Ok (states 1))) asking (h.each 0) in
      let size = (invariant_kept b.block b.workers (states 0) h.reached).sized.dones in
      let w_in = h.fair.within 0 in
      let one : dones_of w (states 1) ≡ dones_of w (states 0) + 1 = dones_grow b.block w (states 0) (states 1) asks_it (omega (arith, size, w_in)) ∙ cond-true (is_done (states 0)) _ _ done in (
        done_after b.block w step (states 0) (states 1) done (h.each 0),
        (λ x. elim (cases_eq x w) [
          | inl e ↦ let now = ap (λ y. dones_of y (states 1)) e in let was = ap (λ y. dones_of y (states 0)) e in omega (arith, one, now, was)
          | inr ne ↦ let same = others_stay b.block w step (states 0) (states 1) (h.each 0) x ne in omega (arith, same)
        ]),
        omega (arith, one),
      )

  kept : (m : ℕ) (steps : ℕ → ℕ × Step) (states : ℕ → State) → IsRunOn steps states → is_done (states 0) ≡ true → (w : ℕ) → dones_of w (states 0) ≤ dones_of w (states m)
  kept zero steps states h done w = omega arith
  kept (suc m) steps states h done w =
      let first = asks steps states h done in
      let more = first.1 w in
      let rest = kept m (next_of steps) (next_of states) (next_run steps states h) first.0 w in omega (arith, more, rest)

  told : (m j : ℕ) (steps : ℕ → ℕ × Step) (states : ℕ → State) → IsRunOn steps states → is_done (states 0) ≡ true → j < m → 0 < dones_of (steps j).0 (states m)
  told zero j steps states h done less = absurd (omega (arith, less))
  told (suc m) zero steps states h done less =
      let first = asks steps states h done in
      let one = first.2 in
      let rest = kept m (next_of steps) (next_of states) (next_run steps states h) first.0 (steps 0).0 in omega (arith, one, rest)
  told (suc m) (suc j) steps states h done less = told m j (next_of steps) (next_of states) (next_run steps states h) (asks steps states h done).0 (omega (arith, less))

  -- so from done on, in a stretch in which each worker comes
  all_told : (steps : ℕ → ℕ × Step) (states : ℕ → State) → IsRunOn steps states → is_done (states 0) ≡ true → (m : ℕ) × ((w : ℕ) → w < b.workers → 0 < dones_of w (states m))
  all_told steps states h done =
      let c = covers b.workers b.workers (λ k. (steps k).0) h.fair (omega arith) in
      (c.number, λ w w_in. let at = c.each w w_in in subst (λ x. 0 < dones_of x (states c.number)) at.2 (told c.number at.0 steps states h done at.1))

  comes_and_tells : (steps : ℕ → ℕ × Step) (states : ℕ → State) → IsRunOn steps states → states 0 ≡ start_state b.block.count b.workers → (k : ℕ) × ((w : ℕ) → w < b.workers → 0 < dones_of w (states k))
  comes_and_tells steps states h first =
      let enough = start_left b in
      let comes = reaches_done (suc top) top steps states h (subst (λ s. left b s + top ≤ top + (begins_with + brought b s)) (sym first) (omega (arith, enough))) (omega arith) in
      let over : is_done (later comes.0 states 0) ≡ true = ap is_done (later_at comes.0 0 states ∙ ap states (plus_nothing comes.0)) ∙ comes.1 in
      let tells = all_told (later comes.0 steps) (later comes.0 states) (later_run comes.0 steps states h) over in
      (comes.0 + tells.0, λ w w_in. subst (λ s. 0 < dones_of w s) (later_at comes.0 tells.0 states) (tells.1 w w_in))
    where
      plus_nothing : (n : ℕ) → n + 0 ≡ n
      plus_nothing n = omega arith

pub endless_runs_reach_the_end : EndlessRunsReachTheEnd
endless_runs_reach_the_end block workers reads writes steps states some small run short =
    let b : Bounds = record { block = block; workers = workers; reads = reads + 1; writes = writes; small = λ i replies r e. let bound = small i replies r e in (bound.0, (let few = bound.1 in omega (arith, few))); counts_reads = true } in
    comes_and_tells b some refl steps states (record {
      reached = subst (Reached block workers) (sym run.first) started;
      each = run.made;
      fair = run.fair;
      short = λ k w i answers waits at. let few = short k w i answers waits at in omega (arith, few);
    }) run.first
