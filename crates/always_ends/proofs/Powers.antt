-- The incarnations grow at most as powers.
use Rattle.std.proofs.Common.{◌≡◌, ◌<◌, ◌≤◌, ◌+◌, ◌*◌, ◌^◌, ℕ, false, length, get_or, take, arith, sym, ap, subst, ◌∙◌}
use Rattle.std.proofs.lemmas.List.{get_or-take, length-take-le}
use Rattle.stm_state.specs.declared.state.CallState.{CallState}
use Rattle.stm_state.specs.Limits.{incarnation_limit}
use Rattle.stm_state.specs.State.{State, fresh, call_at, task_at}
use Rattle.stm_state.specs.Steps.{Block}
use Rattle.stm_state.specs.Done.{Reached, started, stepped}
use Rattle.stm_state.proofs.InvariantKept.{invariant_kept}
use Rattle.always_ends.specs.Work.{HasAtMost, incarnations, most_incarnations}
use Rattle.always_ends.specs.Laws.{AllIncarnationsAreBounded, IncarnationsAreBounded, IncarnationsHaveCauses}
use Rattle.always_ends.proofs.Sums.{sum_to, sum_alike, sum_le, sum_list, sum_none, sum_pair, sum_same, grown, grows}
use Rattle.std.proofs.Math.Nat.{mul-le-mul_left}
use Rattle.always_ends.proofs.Measure.{Bounds, cost, brought}
use Rattle.always_ends.proofs.WorkOfLists.{brought_is}
use Rattle.always_ends.proofs.Prices.{unchanged, one_more}
use Rattle.always_ends.proofs.Changes.{ChangesTo, changes, changes_few}
use Rattle.always_ends.proofs.Causes.{caused_most}

one_up : (n : ℕ) → n + 1 + 1 ≡ n + 2
one_up n = omega arith

at_least : (c n : ℕ) → n ≤ 1 + (c + 1) * n
at_least c n = omega arith

module _ (b : Bounds) where
  -- whatever steps led to a state, some number of changes was made on the way
  record HasChanges (top : ℕ) (s : State) : Type 0 where
    number : ℕ
    made : ChangesTo b top number s

  has_changes : (top : ℕ) (s : State) → Reached b.block b.workers s → HasChanges top s
  has_changes top s started = record { number = 0; made = unchanged }
  has_changes top t (stepped {s} w step before w_in k) = let rest = has_changes top s before in record { number = rest.number + changes top step (task_at s w) s.versions; made = one_more w step rest.made w_in k }

  -- the incarnation of a call is at most 2 * writes + 1 times the sum of those of the lower ones, with one more for each
  pub incarnation_caused : (s : State) → Reached b.block b.workers s → (i : ℕ) → (call_at s i).incarnation ≤ (2 * b.writes + 1) * sum_to i (λ j. (call_at s j).incarnation + 1)
  incarnation_caused s reached i =
      let h = has_changes i s reached in
      let few = changes_few b i h.number s h.made in
      let low = caused_most b i h.number s h.made in
      omega (arith, few, low)

  -- each is at most the limit
  limited : (s : State) → Reached b.block b.workers s → sum_to b.block.count (λ j. (call_at s j).incarnation + 1) ≤ b.block.count * (incarnation_limit + 1)
  limited s reached =
      let facts = (invariant_kept b.block b.workers s reached).facts in
      let all = sum_le b.block.count (λ j. (call_at s j).incarnation + 1) (λ j. incarnation_limit + 1) (λ j less. let most = facts.limit j in omega (arith, most)) in
      let same = sum_same b.block.count (incarnation_limit + 1) in
      omega (arith, all, same)

  -- all of them together, with one more for each
  pub all_of : (s : State) → length s.calls ≡ b.block.count → sum_to b.block.count (λ j. (call_at s j).incarnation + 1) ≡ b.block.count + incarnations s
  all_of s size =
      let each = sum_list (λ (c : CallState). c.incarnation) fresh s.calls in
      let sized = ap (λ n. sum_to n (λ j. (call_at s j).incarnation)) size in
      let ones = sum_same b.block.count 1 in
      let split = sum_pair b.block.count (λ j. (call_at s j).incarnation + 1) (λ j. 0) (λ j. (call_at s j).incarnation) (λ j. 1) (λ j less. omega arith) in
      let back = sum_pair b.block.count (λ j. (call_at s j).incarnation) (λ j. 1) (λ j. (call_at s j).incarnation + 1) (λ j. 0) (λ j less. omega arith) in
      let zeros = sum_none b.block.count in
      omega (arith, each, sized, ones, split, back, zeros)

  pub all_bounded : (s : State) → Reached b.block b.workers s → b.block.count + incarnations s ≤ most_incarnations b.block.count b.writes
  all_bounded s reached =
      let low = limited s reached in
      let powers = grown (2 * b.writes + 1) (λ j. (call_at s j).incarnation) (incarnation_caused s reached) b.block.count in
      let is = all_of s (invariant_kept b.block b.workers s reached).sized.calls in
      let more = at_least (2 * b.writes) (sum_to b.block.count (λ j. (call_at s j).incarnation + 1)) in
      let same : (2 * b.writes + 1 + 1) ^ b.block.count ≡ (2 * b.writes + 2) ^ b.block.count = ap (λ n. n ^ b.block.count) (one_up (2 * b.writes)) in
      omega (arith, low, powers, is, more, same)

  -- what all incarnations together bring, those at the start among them
  pub brought_most : (s : State) → Reached b.block b.workers s → b.block.count * cost b + brought b s ≤ most_incarnations b.block.count b.writes * cost b
  brought_most s reached =
      let inv = invariant_kept b.block b.workers s reached in
      let few = all_bounded s reached in
      let is = brought_is b s inv.sized.calls in
      let all = mul-le-mul_left (cost b) few in
      omega (arith, is, all)

-- a block with its bounds, if reads are not counted
abbrev pub bounds_of : (block : Block) (workers reads writes : ℕ) → HasAtMost reads writes block → Bounds
bounds_of block workers reads writes small = record { block = block; workers = workers; reads = reads; writes = writes; small = small; counts_reads = false }

pub incarnations_are_bounded : IncarnationsAreBounded
incarnations_are_bounded block workers reads writes s i small reached =
    subst (λ n. (call_at s i).incarnation < n ^ i) (one_up (2 * writes)) (grows (2 * writes + 1) (λ j. (call_at s j).incarnation) (incarnation_caused (bounds_of block workers reads writes small) s reached) i)

pub incarnations_have_causes : IncarnationsHaveCauses
incarnations_have_causes block workers reads writes s i small reached i_in =
    let size = (invariant_kept block workers s reached).sized.calls in
    let long : length (take i s.calls) ≡ i = length-take-le i s.calls (omega (arith, size, i_in)) in
    let list = sum_list (λ (c : CallState). c.incarnation + 1) fresh (take i s.calls) in
    let sized = ap (λ n. sum_to n (λ j. (get_or (take i s.calls) j fresh).incarnation + 1)) long in
    let same = sum_alike i (λ j. (get_or (take i s.calls) j fresh).incarnation + 1) (λ j. (call_at s j).incarnation + 1) (λ j less. ap (λ (c : CallState). c.incarnation + 1) (get_or-take i s.calls j fresh less)) in
    subst (λ n. (call_at s i).incarnation ≤ (2 * writes + 1) * n) (sym (list ∙ sized ∙ same)) (incarnation_caused (bounds_of block workers reads writes small) s reached i)

pub all_incarnations_are_bounded : AllIncarnationsAreBounded
all_incarnations_are_bounded block workers reads writes s small reached = all_bounded (bounds_of block workers reads writes small) s reached
