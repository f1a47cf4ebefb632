-- The keys at which some call waits, each with the calls that change it and its number of waits; and the sums over all calls.
use Rattle.std.specs.Prelude.{ℕ, Bool, List, length, map, max, fold}
use Rattle.std.specs.FinMap as finite
use Rattle.std.specs.List.{enumerate_from, filter, flat_map, sum_by}
use Rattle.std.specs.Str.{bytes_eq}
use Rattle.rv_ledger.specs.Call.{Invocation}
use Rattle.rv_ledger.specs.Key.{Storage}
use Rattle.rv_ledger.specs.declared.receipt.Receipt.{Receipt}
use Rattle.rv_step.specs.Fold.{receipts_of}
use Rattle.conflicts.specs.ByKey.{CallByKey}
use Rattle.conflicts.specs.Reads.{Keys}
use Rattle.conflicts.specs.Waits.{CallView, Wait, calls_of}

-- the waits of all calls
abbrev pub all_waits : List CallView → List Wait
all_waits calls = flat_map (λ call. call.waits) calls

-- the keys at which some call waits
abbrev pub keys_waited : List CallView → Keys
keys_waited calls = fold (λ keys wait. finite.insert keys wait.key tt) finite.empty (all_waits calls)

-- a receipt has a key in its writes
abbrev pub changes_key : List ℕ → Receipt → Bool
changes_key key receipt = finite.contains_key receipt.writes key

-- the calls that change a key, ascending
abbrev pub calls_changing : List Receipt → List ℕ → List ℕ
calls_changing receipts key = map (λ item. item.0) (filter (λ item. changes_key key item.1) (enumerate_from 0 receipts))

-- how many waits there are at a key
abbrev pub waits_at_key : List CallView → List ℕ → ℕ
waits_at_key calls key = length (filter (λ wait. bytes_eq wait.key key) (all_waits calls))

-- a key at which some call waits: the calls that change it, and how many waits there are at it
pub record HotKeyView : Type 0 where
  pub key : List ℕ
  pub writers : List ℕ
  pub waits : ℕ

-- the same of a key
abbrev pub hot_key_of : List Receipt → List CallView → List ℕ → HotKeyView
hot_key_of receipts calls key = record { key = key; writers = calls_changing receipts key; waits = waits_at_key calls key }

-- the keys at which some call of a block waits, ascending
abbrev pub keys_of_calls : List Invocation → Storage → List HotKeyView
keys_of_calls block store = map (hot_key_of (receipts_of block store) (calls_of block store)) (finite.keys (keys_waited (calls_of block store)))

-- the gas of all calls
abbrev pub gas_of_all : List CallByKey → ℕ
gas_of_all calls = sum_by (λ call. call.gas) calls

-- the greatest of some paths, or 0 if there is none
abbrev pub greatest_path : List ℕ → ℕ
greatest_path paths = fold max 0 paths
