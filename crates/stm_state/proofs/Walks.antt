-- A state is reached exactly if some list of steps leads to it.
use Rattle.std.proofs.Common.{◌≡◌, ◌<◌, ℕ, List, [], ◌∷◌, ◌++◌, Option, None, Some, Result, Ok, Err, refl, ap, subst, ◌∙◌}
use Rattle.std.specs.List.{AllByRecursion}
use Rattle.stm_state.specs.State.{State, start_state}
use Rattle.stm_state.specs.Steps.{Block, Step, Limit, worker_step}
use Rattle.stm_state.specs.Done.{Reached, started, stepped}
use Rattle.stm_state.specs.Walk.{after_step, walk, LeadsTo, ReachedByList}
use Rattle.stm_state.proofs.Lists.{all_append}

module _ (block : Block) where
  -- a list after its first step
  pub walk_on : (entry : ℕ × Step) (entries : List (ℕ × Step)) (s t : State) → worker_step block entry.0 entry.1 s ≡ Some (Ok t) → walk block (entry ∷ entries) s ≡ walk block entries t
  unfolding walk
  walk_on entry entries s t k = ap (after_step (λ u. walk block entries u)) k

  -- the first step of a list that leads to a state
  pub record First (entry : ℕ × Step) (entries : List (ℕ × Step)) (s t : State) : Type 0 where
    pub state : State
    pub step : worker_step block entry.0 entry.1 s ≡ Some (Ok state)
    pub rest : walk block entries state ≡ Some t

  first_of_result : (entry : ℕ × Step) (entries : List (ℕ × Step)) (s t : State) (o : Option (Result State Limit)) → worker_step block entry.0 entry.1 s ≡ o → after_step (λ u. walk block entries u) o ≡ Some t → First entry entries s t
  first_of_result entry entries s t None e h = cc
  first_of_result entry entries s t (Some (Ok u)) e h = record { state = u; step = e; rest = h }
  first_of_result entry entries s t (Some (Err limit)) e h = cc

  pub walk_first : (entry : ℕ × Step) (entries : List (ℕ × Step)) (s t : State) → walk block (entry ∷ entries) s ≡ Some t → First entry entries s t
  unfolding walk
  walk_first entry entries s t h = first_of_result entry entries s t (worker_step block entry.0 entry.1 s) refl h

  -- the empty list leads from a state only to that state
  pub walk_none : (s t : State) → walk block [] s ≡ Some t → s ≡ t
  unfolding walk
  walk_none s t h = cc

  pub walk_here : (s : State) → walk block [] s ≡ Some s
  unfolding walk
  walk_here s = refl

  -- two lists joined
  pub walk_joined : (xs ys : List (ℕ × Step)) (s t : State) → walk block xs s ≡ Some t → walk block (xs ++ ys) s ≡ walk block ys t
  walk_joined [] ys s t h = ap (walk block ys) (walk_none s t h)
  walk_joined (x ∷ xs) ys s t h =
      let first = walk_first x xs s t h in
      walk_on x (xs ++ ys) s first.state first.step ∙ walk_joined xs ys first.state t first.rest

-- the state that a list leads to from a reached state is reached
pub reached_on : (block : Block) (workers : ℕ) (entries : List (ℕ × Step)) (s t : State) → Reached block workers s → AllByRecursion (λ entry. entry.0 < workers) entries → walk block entries s ≡ Some t → Reached block workers t
reached_on block workers [] s t h within k = subst (Reached block workers) (walk_none block s t k) h
reached_on block workers (entry ∷ entries) s t h within k =
    let first = walk_first block entry entries s t k in
    reached_on block workers entries first.state t (stepped entry.0 entry.1 h within.0 first.step) within.1 first.rest

-- a list that leads to a reached state
list_of : (block : Block) (workers : ℕ) (s : State) → Reached block workers s → (entries : List (ℕ × Step)) × LeadsTo block workers entries s
list_of block workers s started = ([], record { within = tt; comes = walk_here block (start_state block.count workers) })
list_of block workers t (stepped {s} w step before w_in k) =
    let rest = list_of block workers s before in
    let last : List (ℕ × Step) = (w, step) ∷ [] in (
      rest.0 ++ last,
      record {
        within = all_append (λ entry. entry.0 < workers) rest.0 last rest.1.within (w_in, tt);
        comes = walk_joined block rest.0 last (start_state block.count workers) s rest.1.comes ∙ walk_on block (w, step) [] s t k ∙ walk_here block t;
      },
    )

pub reached_by_list : ReachedByList
reached_by_list block workers s = (list_of block workers s, λ h. reached_on block workers h.0 (start_state block.count workers) s started h.1.within h.1.comes)
