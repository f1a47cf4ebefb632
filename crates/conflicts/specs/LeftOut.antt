-- What is left of a block when some of its calls are left out.
use Rattle.std.specs.Prelude.{◌≡◌, ◌⊎◌, ◌++◌, ℕ, Bool, true, List, [], ◌∷◌, filter, map}
use Rattle.std.specs.FinMap as finite
use Rattle.std.specs.List.{enumerate_from}
use Rattle.rv_ledger.specs.Key.{Storage}
use Rattle.conflicts.specs.Paths.{IsWaitChain, WaitsFor}
use Rattle.conflicts.specs.Reads.{Keys}
use Rattle.conflicts.specs.Waits.{CallView}

-- the items of a list whose indices pass a test, in order
abbrev pub items_where : {A : Type 0} → (ℕ → Bool) → List A → List A
items_where test items = map (λ item. item.1) (filter (λ item. test item.0) (enumerate_from 0 items))

-- each call that stays waits for calls that stay only
abbrev pub IsClosedUnderWaits : (ℕ → Bool) → List CallView → Type 0
IsClosedUnderWaits stays calls = (j i : ℕ) → stays j ≡ true → WaitsFor calls j i → stays i ≡ true

-- call j is call i, or waits for it, directly or through others
abbrev pub Needs : List CallView → ℕ → ℕ → Type 0
Needs calls j i = (i ≡ j) ⊎ ((chain : List ℕ) × IsWaitChain calls j (chain ++ i ∷ []))

-- two storages have the same at each of these keys
abbrev pub AgreeAt : Keys → Storage → Storage → Type 0
AgreeAt keys one other = (key : List ℕ) → finite.contains_key keys key ≡ true → finite.get one key ≡ finite.get other key
