-- The slots at a key below those of a call, walked from the highest down.
use Rattle.std.proofs.Common.{◌≡◌, ◌==◌, ◌-◌, ◌<◌, ◌≤◌, ℕ, suc, Bool, true, false, cond, [], ◌∷◌, length, get_or, ltb, List, Option, None, Some, refl, sym, ap, ◌∙◌, arith, inl, inr}
use Rattle.std.specs.List.Sorted.{IsPartitionPoint, IsPartitionedBy}
use Rattle.std.specs.Option.{option_and_then}
use Rattle.std.proofs.lemmas.List.{get_or_default}
use Rattle.std.proofs.lemmas.List.Sorted.{IsNonDecreasingBy-from_default, IsPartitionedBy-ltb}
use Rattle.std.proofs.lemmas.Bool.{cases_lt, ltb-false, ltb-true}
use Rattle.std.proofs.lemmas.Bool.Decides.{nat_tests}
use Rattle.version_arena.specs.ArenaState.{Record}
use Rattle.mvmap.specs.Reading.{Base, reading, visible_over}
use Rattle.mvmap.specs.Slots.{SlotsByPlace, entries_in, entry_of, seen_in, slot_at, versions_of}
use Rattle.mvmap.specs.Versions.{entry_at}
use Rattle.mvmap.specs.Writers.{ByWriter, AreWritersAscending, slot_of, writer_at}
use Rattle.mvmap.specs.declared.slot.Slot.{Slot}
use Rattle.mvmap.specs.declared.slot.Slot.TheVariants as slot
use Rattle.mvmap.proofs.Places.{get_versions}
use Rattle.mvmap.proofs.Readings.{seen_at, seen_none, seen_same}
use Rattle.mvmap.proofs.Searches.{ascending_at, found_at, kept_at}

-- the slots before a place are of lower calls, and those of lower calls from it on are vacant
pub record IsWalked (ws : ByWriter) (i place : ℕ) : Type 0 where
  pub in_range : place ≤ length ws
  pub lower : (j : ℕ) → j < place → writer_at ws j < i
  pub vacant : (j : ℕ) → place ≤ j → j < length ws → writer_at ws j < i → kept_at ws j ≡ slot.Vacant

module _ (rs : List Record) where
  nothing_by : (b : Bool) (s : Slot) (o : Option Slot) → (b ≡ true → s ≡ slot.Vacant) → option_and_then (entry_of rs) o ≡ None → option_and_then (entry_of rs) (cond b (Some s) o) ≡ None
  nothing_by true s o vacant rest = ap (entry_of rs) (vacant refl)
  nothing_by false s o vacant rest = rest

  -- a writer whose slots are vacant has no entry
  no_entry : (ws : ByWriter) (w : ℕ) → ((j : ℕ) → j < length ws → writer_at ws j ≡ w → kept_at ws j ≡ slot.Vacant) → entries_in rs ws w ≡ None
  no_entry [] w vacant = refl
  no_entry (s ∷ ws) w vacant =
      nothing_by (s.0 == w) s.1 (slot_of ws w) (λ t. vacant 0 (omega arith) (grind (arith, nat_tests))) (no_entry ws w (λ j l e. vacant (suc j) (omega arith) e))

  -- at a slot the call sees the entry that the slot stands for, over what is seen below it
  pub walk_stops : (ws : ByWriter) (i place : ℕ) (e : ℕ × Slot) → AreWritersAscending ws → IsWalked ws i place → 0 < place → e ≡ get_or ws (place - 1) e
      → (slot_of ws e.0 ≡ Some e.1) × (seen_in rs ws i ≡ visible_over e.0 (entry_of rs e.1) (seen_in rs ws e.0)) × (e.0 < i)
  walk_stops ws i place e up h some is =
      let in_range : place - 1 < length ws = omega (arith, h.in_range) in
      let here : e ≡ get_or ws (place - 1) (0, slot.Vacant) = is ∙ get_or_default ws (place - 1) e (0, slot.Vacant) in_range in
      let writer : writer_at ws (place - 1) ≡ e.0 = ap (λ (x : ℕ × Slot). x.0) (sym here) in
      let found : slot_of ws e.0 ≡ Some e.1 = found_at ws up e.0 (place - 1) (record { in_range = in_range; of_key = λ d. ap (λ (x : ℕ × Slot). x.0) (get_or_default ws (place - 1) d (0, slot.Vacant) in_range) ∙ writer }) ∙ ap (λ (x : ℕ × Slot). Some x.1) (sym here) in
      let below : e.0 < i = let l = h.lower (place - 1) (omega arith) in omega (arith, l, writer) in (
        found,
        seen_at (entries_in rs ws) i e.0 below (λ w above lower. no_entry ws w (λ j l same. elim (cases_lt j place) [
          | inl sooner ↦ absurd (not_above ws up (place - 1) j (omega (arith, sooner)) w same (omega (arith, above, writer)) in_range)
          | inr later ↦ h.vacant j later l (omega (arith, same, lower))
        ]))
            ∙ ap (λ o. visible_over e.0 o (seen_in rs ws e.0)) (ap (option_and_then (entry_of rs)) found),
        below,
      )
    where
      not_above : (ws : ByWriter) → AreWritersAscending ws → (place j : ℕ) → j ≤ place → (w : ℕ) → writer_at ws j ≡ w → writer_at ws place < w → place < length ws → ⊥
      not_above ws up place j l w e above in_range = elim (cases_lt j place) [
        | inl less ↦ omega (arith, ascending_at ws up j place less in_range, e, above)
        | inr same ↦ let p : j ≡ place = omega arith in omega (arith, ap (writer_at ws) p, e, above)
      ]

  -- at its end the call sees the storage before the block
  pub walk_ends : (ws : ByWriter) (i place : ℕ) → IsWalked ws i place → place ≡ 0 → seen_in rs ws i ≡ Base
  walk_ends ws i place h e = seen_none (entries_in rs ws) i (λ w l. no_entry ws w (λ j in_range same. h.vacant j (omega arith) in_range (omega (arith, same, l))))

-- the slots of lower calls end at a place
abbrev pub IsCut : ByWriter → ℕ → ℕ → Type 0
IsCut ws i place = record {
  bound : place ≤ length ws;
  below : (j : ℕ) → j < place → writer_at ws j < i;
  above : (j : ℕ) → place ≤ j → j < length ws → i ≤ writer_at ws j;
}

-- they end at the place that the search for those below a call returns
pub cut_there : (ws : ByWriter) (i place : ℕ) → place ≤ length ws → IsPartitionPoint (λ e. ltb e.0 i ≡ true) (λ e. ltb e.0 i ≡ false) ws place → IsCut ws i place
cut_there ws i place in_range cut = record {
  bound = in_range;
  below = λ j l. ltb-true _ _ (cut.0 j (0, slot.Vacant) (omega arith) l);
  above = λ j l within. ltb-false _ _ (cut.1 j (0, slot.Vacant) l within);
}

-- they end at a place if the slot before it is of a lower call, and the slot at it is not
pub cut_at : (ws : ByWriter) (i place : ℕ) → AreWritersAscending ws → place ≤ length ws → (0 < place → writer_at ws (place - 1) < i) → (place < length ws → i ≤ writer_at ws place) → IsCut ws i place
cut_at ws i place up in_range before after = record {
  bound = in_range;
  below = λ j l. elim (cases_lt j (place - 1)) [
    | inl less ↦ omega (arith, ascending_at ws up j (place - 1) less (omega (arith, in_range, l)), before (omega (arith, l)))
    | inr same ↦ let p : j ≡ place - 1 = omega (arith, l, same) in omega (arith, ap (writer_at ws) p, before (omega (arith, l)))
  ];
  above = λ j l within. elim (cases_lt place j) [
    | inl less ↦ omega (arith, ascending_at ws up place j less within, after (omega (arith, l, within)))
    | inr same ↦ let p : place ≡ j = omega (arith, l, same) in omega (arith, ap (writer_at ws) p, after (omega (arith, l, within)))
  ];
}

-- a walk starts at the place at which the slots of lower calls end
pub walk_starts : (ws : ByWriter) (i place : ℕ) → IsCut ws i place → IsWalked ws i place
walk_starts ws i place cut = record {
  in_range = cut.bound;
  lower = cut.below;
  vacant = λ j l within lower. absurd (omega (arith, cut.above j l within, lower));
}

-- the writers do not fall, as the search for those below a call requires
pub parted : (ws : ByWriter) (i : ℕ) → AreWritersAscending ws → IsPartitionedBy (λ e. ltb e.0 i) ws
parted ws i up = IsPartitionedBy-ltb (λ e. e.0) ws i (IsNonDecreasingBy-from_default (λ e. e.0) ws (0, slot.Vacant) (λ i j le in_range. grind (arith, ascending_at ws up i j, λ (same : i ≡ j). ap (writer_at ws) same)))

-- what is seen of a key is seen in its slots
pub seen_at_key : (rs : List Record) (es : SlotsByPlace) (key : List ℕ) (ws : ByWriter) → ((w : ℕ) → slot_at es (key, w) ≡ slot_of ws w) → (i : ℕ) → seen_in rs ws i ≡ reading (versions_of rs es) key i
seen_at_key rs es key ws h i = seen_same (entries_in rs ws) (entry_at (versions_of rs es) key) i (λ w _. sym (get_versions rs es (key, w) ∙ ap (option_and_then (entry_of rs)) (h w)))
