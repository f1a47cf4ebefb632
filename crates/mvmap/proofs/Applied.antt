-- What a value becomes if the slots of a table are applied to it one key after the other, in the order of the list.
use Rattle.std.proofs.Common.{◌≡◌, ◌<◌, ◌≤◌, ◌+◌, ℕ, suc, zero, Bool, true, false, cond, List, [], ◌∷◌, take, get_or, length, slice_get, Option, None, Some, refl, sym, ap, subst, ◌∙◌, arith, inl, inr}
use Rattle.std.specs.BTreeMap.{is_at}
use Rattle.std.specs.Cmp.{eq_by_cmp_equiv}
use Rattle.std.specs.Cmp.Lexicographic.{nat_list_cmp_total}
use Rattle.std.specs.List.Sorted.{IsStrictlySortedBy}
use Rattle.std.specs.Map.{keys_of, lookup}
use Rattle.std.specs.Option.{option_map, unwrap_or}
use Rattle.std.specs.Ordering.{eq_by_cmp}
use Rattle.std.proofs.lemmas.Bool.{cases_eq, cases_lt}
use Rattle.std.proofs.lemmas.List.{take_all}
use Rattle.std.proofs.lemmas.Map.{lookup-none}
use Rattle.std.proofs.lemmas.Map.Entries.{none_past_head}
use Rattle.std.proofs.lemmas.Map.Keys.{IsDistinct-from_sorted}
use Rattle.std.proofs.lemmas.Option.{slice_get-get_or}
use Rattle.rv_ledger.specs.Change.{Content}
use Rattle.rv_ledger.specs.Key.{key_cmp}
use Rattle.version_arena.specs.ArenaState.{Record}
use Rattle.rv_ledger.specs.Positions.{Positions, position_of}
use Rattle.mvmap.specs.KeyTable.{AreSlotsIndexed, slot_key_at, slots_in, slots_in_order, writers_at}
use Rattle.mvmap.specs.Slots.{ByKey, at_places, entry_of, flat, value_over, value_over_slots}
use Rattle.mvmap.specs.Writers.{AreWritersAscending, ByWriter}
use Rattle.mvmap.specs.declared.key_table.KeySlots.{KeySlots}
use Rattle.mvmap.proofs.KeyTables.{in_order_sorted, key_found, key_itself, lookup_in_order, same_key}
use Rattle.mvmap.proofs.Buckets.{get_past}
use Rattle.mvmap.proofs.Nests.{AreAllAscending, value_over_both}
use Rattle.mvmap.proofs.Searches.{no_writers}

-- ---- what the slots at one key do

-- the slots at another key change nothing
apart : (rs : List Record) (key k : List ℕ) (ws : ByWriter) (base : Content) → eq_by_cmp key_cmp k key ≡ false → value_over_slots rs (at_places key ws) k base ≡ base
apart rs key k [] base h = refl
apart rs key k (w ∷ ws) base h =
    ap (λ (b : Bool). value_over_slots rs (at_places key ws) k (cond b (value_over base (entry_of rs w.1)) base)) h ∙ apart rs key k ws base h

-- if a key is not there, nothing changes
absent : (rs : List Record) (k : List ℕ) (es : ByKey) (base : Content) → lookup (is_at (key_cmp k)) es ≡ None → value_over_slots rs (flat es) k base ≡ base
absent rs k [] base h = refl
absent rs k (e ∷ es) base h = by (is_at (key_cmp k) e.0) refl h (λ none. absent rs k es base none)
  where
    by : (b : Bool) → is_at (key_cmp k) e.0 ≡ b → cond b (Some e.1) (lookup (is_at (key_cmp k)) es) ≡ None → (lookup (is_at (key_cmp k)) es ≡ None → value_over_slots rs (flat es) k base ≡ base)
        → value_over_slots rs (flat (e ∷ es)) k base ≡ base
    by true t none rest = cc
    by false t none rest = value_over_both rs (at_places e.0 e.1) (flat es) k base ∙ ap (value_over_slots rs (flat es) k) (apart rs e.0 k e.1 base t) ∙ rest none

-- only the slots at a key change its value
pub at_its_key : (rs : List Record) (es : ByKey) → IsStrictlySortedBy key_cmp (keys_of es) → (k : List ℕ) (base : Content)
    → value_over_slots rs (flat es) k base ≡ value_over_slots rs (at_places k (writers_at es k)) k base
unfolding IsStrictlySortedBy
at_its_key rs [] order k base = refl
at_its_key rs (e ∷ es) order k base = value_over_both rs (at_places e.0 e.1) (flat es) k base ∙ by (is_at (key_cmp k) e.0) refl (at_its_key rs es order.1 k base)
  where
    none : is_at (key_cmp k) e.0 ≡ true → lookup (is_at (key_cmp k)) es ≡ None
    none t = lookup-none (is_at (key_cmp k)) es (none_past_head (eq_by_cmp_equiv nat_list_cmp_total) k e es (IsDistinct-from_sorted key_cmp (keys_of (e ∷ es)) order) t)

    by : (b : Bool) → is_at (key_cmp k) e.0 ≡ b → value_over_slots rs (flat es) k base ≡ value_over_slots rs (at_places k (writers_at es k)) k base
        → value_over_slots rs (flat es) k (value_over_slots rs (at_places e.0 e.1) k base) ≡ value_over_slots rs (at_places k (unwrap_or (cond b (Some e.1) (lookup (is_at (key_cmp k)) es)) [])) k base
    by true t rest = absent rs k es (value_over_slots rs (at_places e.0 e.1) k base) (none t) ∙ ap (λ (q : List ℕ). value_over_slots rs (at_places q e.1) k base) (sym (same_key k e.0 t))
    by false t rest = ap (value_over_slots rs (flat es) k) (apart rs e.0 k e.1 base t) ∙ rest

-- ---- the first keys of a list

get_in_part : {X : Type 0} (xs : List X) (n p : ℕ) → p < n → slice_get (take n xs) p ≡ slice_get xs p
get_in_part [] zero p l = absurd (omega arith)
get_in_part [] (suc n) p l = refl
get_in_part (x ∷ xs) zero p l = absurd (omega arith)
get_in_part (x ∷ xs) (suc n) zero l = refl
get_in_part (x ∷ xs) (suc n) (suc p) l = get_in_part xs n p (omega arith)

get_past_part : {X : Type 0} (xs : List X) (n p : ℕ) → n ≤ p → slice_get (take n xs) p ≡ None
get_past_part [] zero p l = refl
get_past_part [] (suc n) p l = refl
get_past_part (x ∷ xs) zero p l = refl
get_past_part (x ∷ xs) (suc n) zero l = absurd (omega arith)
get_past_part (x ∷ xs) (suc n) (suc p) l = get_past_part xs n p (omega arith)

abbrev slots_if : Option KeySlots → ByWriter
slots_if o = unwrap_or (option_map (λ s. s.writers) o) []

-- the slots at a key, among the first n keys of a list
abbrev pub writers_before : Positions → List KeySlots → ℕ → List ℕ → ByWriter
writers_before es list n key = writers_at (slots_in_order es (take n list)) key

-- among the first 0 keys there are no slots
pub none_before : (es : Positions) (list : List KeySlots) (k : List ℕ) → writers_before es list 0 k ≡ []
none_before es list k = ap (λ (o : Option ByWriter). unwrap_or o []) (lookup_in_order (is_at (key_cmp k)) es (take 0 list)) ∙ by (position_of es k)
  where
    by : (o : Option ℕ) → unwrap_or (option_map (slots_in (take 0 list)) o) [] ≡ []
    by None = refl
    by (Some p) = ap slots_if (get_past_part list 0 p (omega arith))

module _ (rs : List Record) (es : Positions) (list : List KeySlots) (h : AreSlotsIndexed es list) where
  -- if n is at least the length of the list, the slots at a key among the first n keys are all of them
  pub all_before : (n : ℕ) → length list ≤ n → (k : List ℕ) (base : Content) → value_over_slots rs (at_places k (writers_before es list n k)) k base ≡ value_over_slots rs (flat (slots_in_order es list)) k base
  all_before n past k base =
      ap (λ (xs : List KeySlots). value_over_slots rs (at_places k (writers_at (slots_in_order es xs) k)) k base) (take_all n list past)
      ∙ sym (at_its_key rs (slots_in_order es list) (in_order_sorted es list h) k base)

  module _ (i : ℕ) (s : KeySlots) (within : i < length list) (is : s ≡ get_or list i s) where
    stands : slot_key_at list i ≡ Some s.key
    stands = key_found list i s within is

    here : slots_in list i ≡ s.writers
    here = ap slots_if (slice_get-get_or list i s within ∙ ap Some (sym is))

    -- the slots at a key, after one more key of the list
    abbrev AreNext : List ℕ → Bool → Type 0
    AreNext k b = (writers_before es list (i + 1) k ≡ cond b s.writers (writers_before es list i k)) × (b ≡ true → writers_before es list i k ≡ [])

    one_more : (k : List ℕ) → AreNext k (is_at (key_cmp k) s.key)
    one_more k = by (position_of es k) refl (is_at (key_cmp k) s.key) refl
      where
        writers_are : (n : ℕ) (o : Option ℕ) → position_of es k ≡ o → writers_before es list n k ≡ unwrap_or (option_map (slots_in (take n list)) o) []
        writers_are n o e = ap (λ (o : Option ByWriter). unwrap_or o []) (lookup_in_order (is_at (key_cmp k)) es (take n list) ∙ ap (option_map (slots_in (take n list))) e)

        place_of : is_at (key_cmp k) s.key ≡ true → position_of es k ≡ Some i
        place_of t = ap (position_of es) (same_key k s.key t) ∙ h.indexed s.key i stands

        itself : position_of es k ≡ Some i → is_at (key_cmp k) s.key ≡ true
        itself e = let one : Some k ≡ Some s.key = sym (h.listed k i e) ∙ stands in let same : k ≡ s.key = cc in ap (is_at (key_cmp k)) (sym same) ∙ key_itself k

        by : (o : Option ℕ) → position_of es k ≡ o → (b : Bool) → is_at (key_cmp k) s.key ≡ b → AreNext k b
        by None e true t = let at : position_of es k ≡ Some i = place_of t in cc
        by None e false t = (writers_are (i + 1) None e ∙ sym (writers_are i None e), λ no. cc)
        by (Some p) e b t = elim (cases_eq p i) [
          | inl same ↦ at_it p e b t same
          | inr ne ↦ elsewhere p e b t ne
        ]
          where
            at_it : (p : ℕ) → position_of es k ≡ Some p → (b : Bool) → is_at (key_cmp k) s.key ≡ b → p ≡ i → AreNext k b
            at_it p e true t same = (
              writers_are (i + 1) (Some p) e ∙ ap slots_if (get_in_part list (i + 1) p (omega (arith, same))) ∙ ap (slots_in list) same ∙ here,
              λ yes. writers_are i (Some p) e ∙ ap slots_if (get_past_part list i p (omega (arith, same))),
            )
            at_it p e false t same = let yes : is_at (key_cmp k) s.key ≡ true = itself (e ∙ ap Some same) in cc

            elsewhere : (p : ℕ) → position_of es k ≡ Some p → (b : Bool) → is_at (key_cmp k) s.key ≡ b → (p ≡ i → ⊥) → AreNext k b
            elsewhere p e true t ne = absurd (ne (let one : Some p ≡ Some i = sym e ∙ place_of t in cc))
            elsewhere p e false t ne = elim (cases_lt p i) [
              | inl l ↦ (writers_are (i + 1) (Some p) e ∙ ap slots_if (get_in_part list (i + 1) p (omega arith) ∙ sym (get_in_part list i p l)) ∙ sym (writers_are i (Some p) e), λ no. cc)
              | inr past ↦ (writers_are (i + 1) (Some p) e ∙ ap slots_if (get_past_part list (i + 1) p (omega arith) ∙ sym (get_past_part list i p past)) ∙ sym (writers_are i (Some p) e), λ no. cc)
            ]

    -- the slots at one more key are applied
    pub next_applied : (k : List ℕ) (base : Content)
        → value_over_slots rs (at_places s.key s.writers) k (value_over_slots rs (at_places k (writers_before es list i k)) k base) ≡ value_over_slots rs (at_places k (writers_before es list (i + 1) k)) k base
    next_applied k base = by (is_at (key_cmp k) s.key) refl (one_more k)
      where
        by : (b : Bool) → is_at (key_cmp k) s.key ≡ b → AreNext k b
            → value_over_slots rs (at_places s.key s.writers) k (value_over_slots rs (at_places k (writers_before es list i k)) k base) ≡ value_over_slots rs (at_places k (writers_before es list (i + 1) k)) k base
        by true t next =
            ap (λ (ws : ByWriter). value_over_slots rs (at_places s.key s.writers) k (value_over_slots rs (at_places k ws) k base)) (next.1 refl)
            ∙ ap (λ (q : List ℕ). value_over_slots rs (at_places q s.writers) k base) (sym (same_key k s.key t))
            ∙ ap (λ (ws : ByWriter). value_over_slots rs (at_places k ws) k base) (sym next.0)
        by false t next =
            apart rs s.key k s.writers _ t ∙ ap (λ (ws : ByWriter). value_over_slots rs (at_places k ws) k base) (sym next.0)

    -- the writers rise at one more position
    pub next_ascending : AreWritersAscending s.writers → ((p : ℕ) → p < i → AreWritersAscending (slots_in list p)) → (p : ℕ) → p < i + 1 → AreWritersAscending (slots_in list p)
    next_ascending up before p l = elim (cases_eq p i) [
      | inl same ↦ subst AreWritersAscending (sym (ap (slots_in list) same ∙ here)) up
      | inr ne ↦ before p (omega (arith, ne))
    ]

-- if the writers rise at each position of the list, they rise at each key
pub all_ascending : (es : Positions) (list : List KeySlots) (n : ℕ) → length list ≤ n → ((p : ℕ) → p < n → AreWritersAscending (slots_in list p)) → AreAllAscending (slots_in_order es list)
all_ascending [] list n past up = tt
all_ascending (e ∷ es) list n past up = (
  elim (cases_lt e.1 n) [
    | inl l ↦ up e.1 l
    | inr beyond ↦ subst AreWritersAscending (sym (ap slots_if (get_past list e.1 (omega arith)))) no_writers
  ],
  all_ascending es list n past up,
)
