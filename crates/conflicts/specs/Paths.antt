-- The chains of waits of a block, and the greatest sum of gas over those that end in a call.
use Rattle.std.specs.Prelude.{◌≡◌, ◌≤◌, ◌+◌, ℕ, List, [], ◌∷◌, Option, Some, None}
use Rattle.std.specs.List.{slice_get}
use Rattle.conflicts.specs.Waits.{CallView, Wait}

-- the waits of a call, if there is one
abbrev pub waits_in_call : Option CallView → List Wait
waits_in_call (Some call) = call.waits
waits_in_call None = []

-- the gas of a call, if there is one
abbrev pub gas_in_call : Option CallView → ℕ
gas_in_call (Some call) = call.gas
gas_in_call None = 0

-- one of the waits of call j names call i, at a key
abbrev pub WaitsAt : List CallView → ℕ → ℕ → List ℕ → Type 0
WaitsAt calls j i key = (k : ℕ) × (slice_get (waits_in_call (slice_get calls j)) k ≡ Some (record { writer = i; key = key }))

-- one of the waits of call j names call i
abbrev pub WaitsFor : List CallView → ℕ → ℕ → Type 0
WaitsFor calls j i = (key : List ℕ) × WaitsAt calls j i key

-- a chain that ends in call j: it waits for the first of these calls, which waits for the next, and so on
abbrev pub IsWaitChain : List CallView → ℕ → List ℕ → Type 0
IsWaitChain calls j [] = Unit {0}
IsWaitChain calls j (i ∷ chain) = WaitsFor calls j i × IsWaitChain calls i chain

-- the gas of all calls of a chain that ends in call j
abbrev pub gas_along : List CallView → ℕ → List ℕ → ℕ
gas_along calls j [] = gas_in_call (slice_get calls j)
gas_along calls j (i ∷ chain) = gas_in_call (slice_get calls j) + gas_along calls i chain

-- the greatest sum of gas over the chains that end in call j
pub record IsPath (calls : List CallView) (j path : ℕ) : Type 0 where
  pub some_chain : (chain : List ℕ) × IsWaitChain calls j chain × (gas_along calls j chain ≡ path)
  pub no_greater : (chain : List ℕ) → IsWaitChain calls j chain → gas_along calls j chain ≤ path

-- each of these is the path of its call
abbrev pub ArePaths : List CallView → List ℕ → Type 0
ArePaths calls paths = (j path : ℕ) → slice_get paths j ≡ Some path → IsPath calls j path
