-- The gas of a call over the greatest path of those that it waits for is its own path.
use Rattle.std.proofs.Common.{◌≡◌, ◌<◌, ◌≤◌, ◌+◌, ◌*◌, ◌^◌, All, slice_index_or, get_or, add-one, drop-cons, drop, ◌⊎◌, ◌++◌, inl, inr, ℕ, zero, suc, nat_lt, Bool, true, false, if◌then◌else◌, List, [], ◌∷◌, length, reverse, Option, Some, refl, sym, ap, subst, ◌∙◌, arith}
use Rattle.std.specs.FinMap as finite
use Rattle.std.specs.List.{flat_map, slice_get}
use Rattle.std.specs.Option.{unwrap_or}
use Rattle.std.proofs.lemmas.Bool.{ltb-true, ltb-false}
use Rattle.std.proofs.lemmas.List.{map-append, reverse-append}
use Rattle.std.proofs.lemmas.List.Sums.{fold-append}
use Rattle.rv_ledger.specs.Call.{Invocation}
use Rattle.rv_ledger.specs.Key.{Storage}
use Rattle.rv_ledger.specs.declared.receipt.Receipt.{Receipt}
use Rattle.rv_step.specs.Fold.{receipts_of, store_before}
use Rattle.conflicts.specs.Calls.{CallLists, calls_at}
use Rattle.conflicts.specs.Reads.{keys_read}
use Rattle.conflicts.specs.Table.{waits_in}
use Rattle.conflicts.specs.Waits.{CallView, Wait, keys_read_by, waits_at, waits_for, waits_of, waits_over, writers_named}
use Rattle.conflicts.specs.Greatest.{greater, greatest_from, path_at}
use Rattle.conflicts.specs.Paths.{ArePaths, IsPath, IsWaitChain, WaitsFor, gas_along, gas_in_call, waits_in_call}
use Rattle.conflicts.proofs.Noted.{Names}
use Rattle.conflicts.proofs.Earlier.{AreEarlier}

-- the greater of two numbers is one of them, and neither is above it
greater_is : (a b : ℕ) → (a ≤ greater a b) × (b ≤ greater a b) × ((greater a b ≡ a) ⊎ (greater a b ≡ b))
greater_is a b = by_test (nat_lt a b) refl
  where
    by_test : (t : Bool) → nat_lt a b ≡ t → (a ≤ (if t then b else a)) × (b ≤ (if t then b else a)) × (((if t then b else a) ≡ a) ⊎ ((if t then b else a) ≡ b))
    by_test true e = (omega (arith, ltb-true a b e), omega arith, inr refl)
    by_test false e = (omega arith, omega (arith, ltb-false a b e), inl refl)

module _ (paths : List ℕ) where
  not_less : (least : ℕ) (waits : List Wait) → least ≤ greatest_from paths least waits
  not_less least [] = omega arith
  not_less least (wait ∷ waits) =
      let here = greater_is least (path_at paths wait.writer) in
      let rest = not_less (greater least (path_at paths wait.writer)) waits in
      omega (arith, here.0, rest)

  no_path_above : (least : ℕ) (waits : List Wait) (k : ℕ) (wait : Wait) → slice_get waits k ≡ Some wait → path_at paths wait.writer ≤ greatest_from paths least waits
  no_path_above least [] k wait e = cc
  no_path_above least (first ∷ waits) zero wait e =
      let same : first ≡ wait = cc in
      let here = greater_is least (path_at paths first.writer) in
      let rest = not_less (greater least (path_at paths first.writer)) waits in
      subst (λ (w : Wait). path_at paths w.writer ≤ greatest_from paths least (first ∷ waits)) same (omega (arith, here.1, rest))
  no_path_above least (first ∷ waits) (suc k) wait e = no_path_above (greater least (path_at paths first.writer)) waits k wait e

  abbrev IsOf : ℕ → List Wait → ℕ → Type 0
  IsOf least waits g = (g ≡ least) ⊎ ((k : ℕ) × (wait : Wait) × (slice_get waits k ≡ Some wait) × (g ≡ path_at paths wait.writer))

  is_of : (least : ℕ) (waits : List Wait) → IsOf least waits (greatest_from paths least waits)
  is_of least [] = inl refl
  is_of least (first ∷ waits) = onward (is_of (greater least (path_at paths first.writer)) waits) (greater_is least (path_at paths first.writer)).2
    where
      onward : IsOf (greater least (path_at paths first.writer)) waits (greatest_from paths (greater least (path_at paths first.writer)) waits) → ((greater least (path_at paths first.writer) ≡ least) ⊎ (greater least (path_at paths first.writer) ≡ path_at paths first.writer)) → IsOf least (first ∷ waits) (greatest_from paths (greater least (path_at paths first.writer)) waits)
      onward (inl e) (inl own) = inl (e ∙ own)
      onward (inl e) (inr other) = inr (zero, first, refl, e ∙ other)
      onward (inr (k, wait, at, e)) own = inr (suc k, wait, at, e)

greater_within : (a b n : ℕ) → a ≤ n → b ≤ n → greater a b ≤ n
greater_within a b n left right = either (greater_is a b).2
  where
    either : ((greater a b ≡ a) ⊎ (greater a b ≡ b)) → greater a b ≤ n
    either (inl e) = omega (arith, e, left)
    either (inr e) = omega (arith, e, right)

path_within : (paths : List ℕ) (i n : ℕ) → All (λ path. path ≤ n) paths → path_at paths i ≤ n
path_within [] i n all = omega arith
path_within (x ∷ paths) zero n all = all 0 0 (omega arith)
path_within (x ∷ paths) (suc i) n all = path_within paths i n (λ k d h. all (suc k) d (omega (arith, h)))

-- so the greater of two is within a bound
pub next_within : (paths : List ℕ) (g i n : ℕ) → g ≤ n → All (λ path. path ≤ n) paths → greater g (path_at paths i) ≤ n
next_within paths g i n less all = greater_within g (path_at paths i) n less (path_within paths i n all)

pub more_within : (paths : List ℕ) (path n : ℕ) → All (λ p. p ≤ n * 2 ^ 32) paths → path < n * 2 ^ 32 + 2 ^ 32 → All (λ p. p ≤ (n + 1) * 2 ^ 32) (paths ++ path ∷ [])
more_within [] path n all less = λ k d h. at_end k d h
  where
    at_end : (k d : ℕ) → k < 1 → slice_index_or (path ∷ []) k d ≤ (n + 1) * 2 ^ 32
    at_end zero d h = omega (arith, less)
    at_end (suc k) d h = absurd (omega (arith, h))
more_within (x ∷ paths) path n all less = λ k d h. step k d h (more_within paths path n (λ k d h. all (suc k) d (omega (arith, h))) less)
  where
    step : (k d : ℕ) → k < suc (length (paths ++ path ∷ [])) → All (λ p. p ≤ (n + 1) * 2 ^ 32) (paths ++ path ∷ []) → slice_index_or (x ∷ (paths ++ path ∷ [])) k d ≤ (n + 1) * 2 ^ 32
    step zero d h rest = let first = all 0 0 (omega arith) in omega (arith, first)
    step (suc k) d h rest = rest k d (omega (arith, h))

module _ (calls : List CallView) (earlier : AreEarlier calls) (paths : List ℕ) (are : ArePaths calls paths) (call : CallView) (at : slice_get calls (length paths) ≡ Some call) where
  abbrev j : ℕ
  j = length paths

  abbrev path : ℕ
  path = call.gas + greatest_from paths 0 call.waits

  own_gas : gas_in_call (slice_get calls j) ≡ call.gas
  own_gas = ap gas_in_call at

  waited : (i : ℕ) → WaitsFor calls j i → (key : List ℕ) × (k : ℕ) × (slice_get call.waits k ≡ Some (record { writer = i; key = key }))
  waited i (key, (k, e)) = (key, k, ap (λ (c : Option CallView). slice_get (waits_in_call c) k) (sym at) ∙ e)

  waits : (k : ℕ) (wait : Wait) → slice_get call.waits k ≡ Some wait → WaitsFor calls j wait.writer
  waits k wait e = (wait.key, (k, ap (λ (c : Option CallView). slice_get (waits_in_call c) k) at ∙ e))

  there : (i : ℕ) → i < j → slice_get paths i ≡ Some (path_at paths i)
  there i less = slice_get_there paths i less
    where
      slice_get_there : (xs : List ℕ) (n : ℕ) → n < length xs → slice_get xs n ≡ Some (unwrap_or (slice_get xs n) 0)
      slice_get_there [] n h = absurd (omega (arith, h))
      slice_get_there (x ∷ xs) zero h = refl
      slice_get_there (x ∷ xs) (suc n) h = slice_get_there xs n (omega (arith, h))

  path_of : (i : ℕ) → i < j → IsPath calls i (path_at paths i)
  path_of i less = are i (path_at paths i) (there i less)

  abbrev HasChain : ℕ → Type 0
  HasChain p = (chain : List ℕ) × IsWaitChain calls j chain × (gas_along calls j chain ≡ p)

  some_chain : IsOf paths 0 call.waits (greatest_from paths 0 call.waits) → HasChain path
  some_chain (inl none) = ([], tt, omega (arith, own_gas, none))
  some_chain (inr (k, wait, e, is)) =
      let for : WaitsFor calls j wait.writer = waits k wait e in
      let below = (path_of wait.writer (earlier j wait.writer for)).some_chain in
      (wait.writer ∷ below.0, (for, below.1), omega (arith, own_gas, is, below.2))

  no_greater : (chain : List ℕ) → IsWaitChain calls j chain → gas_along calls j chain ≤ path
  no_greater [] is = omega (arith, own_gas)
  no_greater (i ∷ chain) is =
      let for = waited i is.0 in
      let below = (path_of i (earlier j i is.0)).no_greater chain is.1 in
      let less = no_path_above paths 0 call.waits for.1 (record { writer = i; key = for.0 }) for.2 in
      omega (arith, own_gas, below, less)

  is_path : IsPath calls j path
  is_path = record { some_chain = some_chain (is_of paths 0 call.waits); no_greater = no_greater }

  pub paths_more : ArePaths calls (paths ++ path ∷ [])
  paths_more i p e = by_place (place paths i p e)
    where
      place : (xs : List ℕ) (n q : ℕ) → slice_get (xs ++ path ∷ []) n ≡ Some q → (slice_get xs n ≡ Some q) ⊎ ((n ≡ length xs) × (q ≡ path))
      place [] zero q e = let same : path ≡ q = cc in inr (refl, sym same)
      place [] (suc n) q e = cc
      place (x ∷ xs) zero q e = inl e
      place (x ∷ xs) (suc n) q e = later (place xs n q e)
        where
          later : ((slice_get xs n ≡ Some q) ⊎ ((n ≡ length xs) × (q ≡ path))) → (slice_get xs n ≡ Some q) ⊎ ((suc n ≡ suc (length xs)) × (q ≡ path))
          later (inl before) = inl before
          later (inr (same, is)) = inr (ap suc same, is)

      by_place : ((slice_get paths i ≡ Some p) ⊎ ((i ≡ length paths) × (p ≡ path))) → IsPath calls i p
      by_place (inl before) = are i p before
      by_place (inr (same, is)) = subst (λ (n : ℕ). IsPath calls n p) (sym same) (subst (IsPath calls j) (sym is) is_path)

-- ---- the waits of a call as the run in order has them

not_above : (g a b : ℕ) → greater (greater g a) b ≤ greater (greater g b) a
not_above g a b =
    let outer = greater_is (greater g b) a in
    let inner = greater_is g b in
    greater_within (greater g a) b (greater (greater g b) a) (greater_within g a (greater (greater g b) a) (omega (arith, outer.0, inner.0)) outer.1) (omega (arith, outer.0, inner.1))

either_first : (g a b : ℕ) → greater (greater g a) b ≡ greater (greater g b) a
either_first g a b = let up = not_above g a b in let down = not_above g b a in omega (arith, up, down)

module _ (paths : List ℕ) where
  one_last : (g p : ℕ) (waits : List Wait) → greatest_from paths (greater g p) waits ≡ greater (greatest_from paths g waits) p
  one_last g p [] = refl
  one_last g p (wait ∷ waits) =
      ap (λ n. greatest_from paths n waits) (either_first g p (path_at paths wait.writer)) ∙ one_last (greater g (path_at paths wait.writer)) p waits

  same_order : (key calls : List ℕ) (g : ℕ) → greatest_from paths g (waits_for key (reverse calls)) ≡ greatest_from paths g (waits_for key calls)
  same_order key [] g = refl
  same_order key (call ∷ calls) g =
      ap (λ l. greatest_from paths g (waits_for key l)) (reverse-append (call ∷ []) calls)
      ∙ ap (greatest_from paths g) (map-append _ (reverse calls) (call ∷ []))
      ∙ fold-append _ g (waits_for key (reverse calls)) (waits_for key (call ∷ []))
      ∙ ap (λ n. greater n (path_at paths call)) (same_order key calls g)
      ∙ sym (one_last g (path_at paths call) (waits_for key calls))

  same_keys : (table : CallLists) (receipts : List Receipt) (i : ℕ) → Names table receipts i → (keys : List (List ℕ)) (g : ℕ)
      → greatest_from paths g (flat_map (λ key. waits_for key (calls_at table key)) keys) ≡ greatest_from paths g (flat_map (waits_at receipts i) keys)
  same_keys table receipts i names [] g = refl
  same_keys table receipts i names (key ∷ keys) g =
      fold-append _ g (waits_for key (calls_at table key)) (flat_map (λ k. waits_for k (calls_at table k)) keys)
      ∙ ap (λ n. greatest_from paths n (flat_map (λ k. waits_for k (calls_at table k)) keys)) (ap (λ l. greatest_from paths g (waits_for key l)) (names key) ∙ same_order key (writers_named receipts key i) g)
      ∙ same_keys table receipts i names keys (greatest_from paths g (waits_at receipts i key))
      ∙ sym (fold-append _ g (waits_at receipts i key) (flat_map (waits_at receipts i) keys))

  pub same_greatest : (block : List Invocation) (store : Storage) (i : ℕ) (call : Invocation) → slice_get block i ≡ Some call → (table : CallLists) → Names table (receipts_of block store) i
      → greatest_from paths 0 (waits_in table (keys_read call (store_before block i store))) ≡ greatest_from paths 0 (waits_of block store i)
  same_greatest block store i call at table names =
      same_keys table (receipts_of block store) i names (finite.keys (keys_read call (store_before block i store))) 0
      ∙ ap (λ k. greatest_from paths 0 (waits_over (receipts_of block store) i (keys_read_by k (store_before block i store)))) (sym at)

pub paths_none : (calls : List CallView) → ArePaths calls []
paths_none calls i p e = cc

-- the next item, and what is left
pub next_left : {X : Type 0} (xs : List X) (i : ℕ) (x : X) → x ≡ get_or xs i x → i < length xs → x ∷ drop (i + 1) xs ≡ drop i xs
next_left xs i x is less = rw add-one (ap (λ y. y ∷ drop (suc i) xs) is ∙ sym (drop-cons xs i x less))
