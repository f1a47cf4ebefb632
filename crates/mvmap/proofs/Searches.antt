-- The slots at one key: what is found among them, and what an edit does to them.
use Rattle.std.proofs.Common.{◌≡◌, ◌==◌, ◌-◌, ◌<◌, ◌≤◌, ℕ, Bool, true, false, cond, if◌then◌else◌, [], ◌∷◌, ◌++◌, take, length, get_or, set, slice_get, Option, None, Some, is_some, IsSome, refl, sym, ap, ◌∙◌, arith, inl, inr}
use mathlib.Core.Bool.{false≢true}
use Rattle.std.specs.BTreeMap.{is_at}
use Rattle.std.specs.List.{insert, refill}
use Rattle.std.specs.List.Sorted.{IsStrictlySortedBy}
use Rattle.std.specs.Map.{keys_of, lookup}
use Rattle.std.specs.Option.{option_map, unwrap_or}
use Rattle.std.specs.Ordering.{nat_cmp, is_eq}
use Rattle.std.specs.declared.cmp.Ordering.TheVariants.{Greater}
use Rattle.std.specs.Cmp.{nat_cmp_is, nat_cmp_total, ranked}
use Rattle.std.specs.FinMap.{nat_cmp-IsAntisymmetric}
use Rattle.std.proofs.Math.ListN.{get_or-map}
use Rattle.std.proofs.lemmas.Bool.{cases_lt}
use Rattle.std.proofs.lemmas.Bool.Decides.{nat_tests}
use Rattle.std.proofs.lemmas.Cmp.{by_ranked}
use Rattle.std.proofs.lemmas.List.{drop_all, get_or_default, take_at}
use Rattle.std.proofs.lemmas.Map.Entries.{length-keys_of}
use Rattle.std.proofs.lemmas.Map.Keys.{below_from_sorted}
use Rattle.std.proofs.lemmas.Option.{get_or_from_slice_get, slice_get_within}
use Rattle.rv_ledger.specs.Entries.{IsAt}
use Rattle.rv_ledger.proofs.Searches.{absent, lookup_insert, lookup_set, there}
use Rattle.mvmap.specs.Writers.{ByWriter, AreWritersAscending, IsWriterGap, slot_of, writer_at}
use Rattle.mvmap.specs.declared.slot.Slot.{Slot}
use Rattle.mvmap.specs.declared.slot.Slot.TheVariants as slot

-- the slot at place i
abbrev pub kept_at : ByWriter → ℕ → Slot
kept_at ws i = let e = get_or ws i (0, slot.Vacant) in e.1

-- new has what old has, but the slot of one writer is this one
abbrev pub IsSetTo : ByWriter → ByWriter → ℕ → Slot → Type 0
IsSetTo old new w s = (v : ℕ) → slot_of new v ≡ (if w == v then Some s else slot_of old v)

same_sides : (a b : ℕ) → (a == b) ≡ (b == a)
same_sides a b = grind (arith, nat_tests)

-- the order of writers finds a writer exactly if it is the same number
at_writer : (w v : ℕ) → is_at (nat_cmp w) v ≡ (w == v)
at_writer w v = by_ranked (w < v) (w ≡ v) (v < w) (nat_cmp w v) (ranked w v (nat_cmp w v) refl)
    (λ e p. let apart : (w == v) ≡ false = grind (arith, nat_tests) in ap is_eq e ∙ sym apart)
    (λ e p. let same : (w == v) ≡ true = grind (arith, nat_tests) in ap is_eq e ∙ sym same)
    (λ e p. let apart : (w == v) ≡ false = grind (arith, nat_tests) in ap is_eq e ∙ sym apart)

slot_looked_up : (ws : ByWriter) (w : ℕ) → lookup (is_at (nat_cmp w)) ws ≡ slot_of ws w
slot_looked_up [] w = refl
slot_looked_up (x ∷ ws) w =
    ap (λ b. cond b (Some x.1) (lookup (is_at (nat_cmp w)) ws)) (at_writer w x.0 ∙ same_sides w x.0) ∙ ap (cond (x.0 == w) (Some x.1)) (slot_looked_up ws w)

-- what is looked up after an edit, in terms of slots
set_to : (old new : ByWriter) (w : ℕ) (s : Slot) → ((v : ℕ) → lookup (is_at (nat_cmp v)) new ≡ (if is_at (nat_cmp w) v then Some s else lookup (is_at (nat_cmp v)) old)) → IsSetTo old new w s
set_to old new w s h v =
    sym (slot_looked_up new v) ∙ h v ∙ ap (λ b. cond b (Some s) (lookup (is_at (nat_cmp v)) old)) (at_writer w v) ∙ ap (cond (w == v) (Some s)) (slot_looked_up old v)

-- an empty list of writers is ascending
pub no_writers : AreWritersAscending []
unfolding IsStrictlySortedBy
no_writers = tt

-- the writers at two places
pub ascending_at : (ws : ByWriter) → AreWritersAscending ws → (i j : ℕ) → i < j → j < length ws → writer_at ws i < writer_at ws j
ascending_at ws up i j lt in_range =
    let key_at = λ (k : ℕ). get_or-map (λ (e : ℕ × Slot). e.0) ws k (0, slot.Vacant) in
    omega (arith, key_at i, key_at j, below_from_sorted (keys_of ws) i j 0 up lt (omega (arith, length-keys_of ws, in_range)))

-- if the slot that was read at a place is of a writer below n, so is each slot up to it
pub lower_up_to : (ws : ByWriter) → AreWritersAscending ws → (n place : ℕ) (e : ℕ × Slot) → place < length ws → e ≡ get_or ws place e → e.0 < n → (j : ℕ) → j ≤ place → writer_at ws j < n
lower_up_to ws up n place e in_range is lower j upto =
    let here : writer_at ws place ≡ e.0 = ap (λ (x : ℕ × Slot). x.0) (sym (is ∙ get_or_default ws place e (0, slot.Vacant) in_range)) in
    elim (cases_lt j place) [
      | inl sooner ↦ omega (arith, ascending_at ws up j place sooner in_range, here, lower)
      | inr later ↦ let same : j ≡ place = omega (arith, later, upto) in omega (arith, ap (writer_at ws) same, here, lower)
    ]

-- a writer above the last one would go at the end
pub gap_at_end : (ws : ByWriter) → AreWritersAscending ws → (w : ℕ) (last : ℕ × Slot) → Some last ≡ slice_get ws (length ws - 1) → last.0 < w → IsWriterGap ws w (length ws)
gap_at_end ws up w last is lower = record {
  in_range = omega arith;
  lower_before = λ j e sooner at.
      let below : writer_at ws j < w = lower_up_to ws up w (length ws - 1) last (slice_get_within ws (length ws - 1) last (sym is)) (sym (get_or_from_slice_get ws (length ws - 1) last last (sym is))) lower j (omega (arith, sooner)) in
      let here : writer_at ws j ≡ e.0 = ap (λ (x : ℕ × Slot). x.0) (get_or_from_slice_get ws j e (0, slot.Vacant) at) in
      let above : e.0 < w = omega (arith, below, here) in
      sym (nat_cmp_is w e.0 Greater above);
  higher_at = λ e at. absurd (omega (arith, slice_get_within ws (length ws) e at));
}

module _ (ws : ByWriter) (up : AreWritersAscending ws) (w at : ℕ) (h : IsAt ws w at) where
  -- the writer's slot is the one at its place
  pub found_at : slot_of ws w ≡ Some (kept_at ws at)
  found_at = sym (there nat_cmp_total nat_cmp-IsAntisymmetric ws w at (0, slot.Vacant) up h ∙ slot_looked_up ws w)

  -- a write there changes only that writer's slot
  pub set_at : (s : Slot) → IsSetTo ws (set ws at (w, s)) w s
  set_at s = set_to ws _ w s (lookup_set nat_cmp_total nat_cmp-IsAntisymmetric ws w at s up h)

module _ (ws : ByWriter) (up : AreWritersAscending ws) (w at : ℕ) (gap : IsWriterGap ws w at) where
  -- a writer that has a gap has no slot
  pub none_in_gap : slot_of ws w ≡ None
  none_in_gap = sym (slot_looked_up ws w) ∙ absent nat_cmp_total nat_cmp-IsAntisymmetric ws w at up gap

  -- a slot that is added there changes only that writer's slot
  added_in_gap : (s : Slot) → IsSetTo ws (insert ws at (w, s)) w s
  added_in_gap s = set_to ws _ w s (lookup_insert nat_cmp_total nat_cmp-IsAntisymmetric ws w at s up gap)

-- what all writers have after a vacant slot is made for one that had none
made_by : (b : Bool) (o : Option Slot) → (b ≡ true → o ≡ None) → cond b (Some slot.Vacant) o ≡ cond b (Some (unwrap_or o slot.Vacant)) o
made_by true o none = ap (λ (x : Option Slot). Some (unwrap_or x slot.Vacant)) (sym (none refl))
made_by false o none = refl

pub made_in_gap : (ws : ByWriter) → AreWritersAscending ws → (w at : ℕ) → IsWriterGap ws w at → (v : ℕ) → slot_of (insert ws at (w, slot.Vacant)) v ≡ (if w == v then Some (unwrap_or (slot_of ws v) slot.Vacant) else slot_of ws v)
made_in_gap ws up w at gap v = added_in_gap ws up w at gap slot.Vacant v ∙ made_by (w == v) (slot_of ws v) (λ t. let same : w ≡ v = grind (arith, nat_tests) in ap (slot_of ws) (sym same) ∙ none_in_gap ws up w at gap)

-- and if it had one already
there_by : (b : Bool) (o : Option Slot) → (b ≡ true → IsSome o) → o ≡ cond b (Some (unwrap_or o slot.Vacant)) o
there_by true None there = absurd (false≢true (there refl))
there_by true (Some s) there = refl
there_by false o there = refl

pub there_already : (ws : ByWriter) → AreWritersAscending ws → (w at : ℕ) → IsAt ws w at → (v : ℕ) → slot_of ws v ≡ (if w == v then Some (unwrap_or (slot_of ws v) slot.Vacant) else slot_of ws v)
there_already ws up w at h v = there_by (w == v) (slot_of ws v) (λ t. let same : w ≡ v = grind (arith, nat_tests) in ap is_some (ap (slot_of ws) (sym same) ∙ found_at ws up w at h))

-- what all writers have after the slot of one is written into
put_by : (b : Bool) (o : Option Slot) (s : Slot) → (b ≡ true → IsSome o) → cond b (Some s) o ≡ cond b (option_map (λ _. s) o) o
put_by true None s there = absurd (false≢true (there refl))
put_by true (Some t) s there = refl
put_by false o s there = refl

pub put_at : (ws : ByWriter) → AreWritersAscending ws → (w at : ℕ) → IsAt ws w at → (s : Slot) (v : ℕ) → slot_of (set ws at (w, s)) v ≡ (if w == v then option_map (λ _. s) (slot_of ws v) else slot_of ws v)
put_at ws up w at h s v = set_at ws up w at h s v ∙ put_by (w == v) (slot_of ws v) s (λ t. let same : w ≡ v = grind (arith, nat_tests) in ap is_some (ap (slot_of ws) (sym same) ∙ found_at ws up w at h))

-- and if it has none
nowhere_by : (b : Bool) (o : Option Slot) (s : Slot) → (b ≡ true → o ≡ None) → o ≡ cond b (option_map (λ _. s) o) o
nowhere_by true o s none = none refl ∙ sym (ap (option_map (λ (_ : Slot). s)) (none refl))
nowhere_by false o s none = refl

pub put_nowhere : (ws : ByWriter) → AreWritersAscending ws → (w at : ℕ) → IsWriterGap ws w at → (s : Slot) (v : ℕ) → slot_of ws v ≡ (if w == v then option_map (λ _. s) (slot_of ws v) else slot_of ws v)
put_nowhere ws up w at gap s v = nowhere_by (w == v) (slot_of ws v) s (λ t. let same : w ≡ v = grind (arith, nat_tests) in ap (slot_of ws) (sym same) ∙ none_in_gap ws up w at gap)

-- a slice that was written back whole
pub refilled : (ws us : ByWriter) → length us ≡ length ws → refill (length ws) ws us ≡ us
refilled ws us e = ap (λ n. take (length ws) (us ++ n)) (drop_all (length us) ws (omega (arith, e))) ∙ take_at us [] (length ws) e
