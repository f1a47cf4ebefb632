-- Each entry of the versions keeps a place.
use Rattle.std.proofs.Common.{◌≡◌, ℕ, Bool, true, false, cond, is_some, List, [], ◌∷◌, Option, None, Some, IsSome, IsTrue, refl, sym, ap, subst, ◌∙◌}
use Rattle.std.specs.List.{All}
use Rattle.std.proofs.lemmas.List.Elements.{All-head, All-tail}
use Rattle.std.specs.Option.{option_map}
use Rattle.std.specs.Ordering.{eq_by_cmp}
use Rattle.std.specs.FinMap.{get}
use Rattle.std.specs.FinSet.{FinSet, contains}
use Rattle.rv_ledger.specs.Change.{ContentChange}
use Rattle.mvmap.specs.Versions.{Entry, Stands, Estimate, Place, Versions, changed, place_cmp}
use Rattle.mvmap.proofs.Places.{get_changed, same_place}
use Rattle.stm_state.specs.declared.state.CallState.{CallState}
use Rattle.stm_state.specs.Steps.{version_of, write_of}
use Rattle.stm_core.specs.Inner.{AreOpen, with_write, writes_at}

-- each entry of versions has one of these places
abbrev pub Within : FinSet place_cmp → Versions → Type 0
Within places versions = (place : Place) → IsSome (get versions place) → IsTrue (contains places place)

module _ (places : FinSet place_cmp) where
  -- a choice that is there is one of two
  chosen : (b : Bool) (p q : Place) (x o : Option Entry) → (b ≡ true → q ≡ p) → (IsSome x → IsTrue (contains places p)) → (IsSome o → IsTrue (contains places q)) → IsSome (cond b x o) → IsTrue (contains places q)
  chosen true p q x o same h k there = subst (λ (r : Place). IsTrue (contains places r)) (sym (same refl)) (h there)
  chosen false p q x o same h k there = k there

  -- an entry that is changed at a place keeps this
  changed_within : (v : Versions) (p : Place) (x : Option Entry) → (IsSome x → IsTrue (contains places p)) → Within places v → Within places (changed v p x)
  changed_within v p x h within q there =
      chosen (eq_by_cmp place_cmp q p) p q x (get v q) (same_place q p) h (within q) (ap is_some (sym (get_changed v p x q)) ∙ there)

  -- so does a key that is marked
  pub marked_within : (i : ℕ) (key : List ℕ) (v : Versions) → IsTrue (contains places (key, i)) → Within places v → Within places (changed v (key, i) (Some Estimate))
  marked_within i key v open_ within = changed_within v (key, i) (Some Estimate) (λ _. open_) within

  -- and a key that is moved
  pub moved_within : (i : ℕ) (call : CallState) (key : List ℕ) (v : Versions) → AreOpen places i (writes_at call.last (key ∷ [])) → Within places v → Within places (changed v (key, i) (version_of call key))
  moved_within i call key v open_ within = changed_within v (key, i) (version_of call key) (go (write_of call.last key) open_) within
    where
      go : (o : Option ContentChange) → AreOpen places i (with_write key o []) → IsSome (option_map (λ content. Stands call.incarnation content) o) → IsTrue (contains places (key, i))
      go None open_ there = cc
      go (Some content) open_ there = open_.0

  -- open places stay open if there are more places
  pub open_grown : (more : FinSet place_cmp) → ((place : Place) → IsTrue (contains places place) → IsTrue (contains more place)) → (i : ℕ) (es : List (List ℕ × ContentChange)) → AreOpen places i es → AreOpen more i es
  open_grown more grows i [] open_ = tt
  open_grown more grows i (e ∷ es) open_ = (grows (e.0, i) open_.0, open_grown more grows i es open_.1)

  -- places at the keys of all writes are open
  pub open_writes : (i : ℕ) (es : List (List ℕ × ContentChange)) → All (λ write. IsTrue (contains places (write.0, i))) es → AreOpen places i es
  open_writes i [] h = tt
  open_writes i (e ∷ es) h = (
    All-head (λ write. IsTrue (contains places (write.0, i))) e es h,
    open_writes i es (All-tail (λ write. IsTrue (contains places (write.0, i))) e es h),
  )
