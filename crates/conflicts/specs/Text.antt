-- The text of a block's conflicts, and the waits that its lines name.
use Rattle.std.specs.Prelude.{◌≡◌, ◌<◌, ◌≤◌, ℕ, List, [], ◌∷◌, ◌++◌, codes, length, map, Option, Some, None}
use Rattle.std.specs.Fmt.{decimal}
use Rattle.std.specs.List.{enumerate_from, flat_map, slice_get, zip}
use Rattle.hex.specs.Hex.{encode_lower}
use Rattle.receipts.specs.Text.{printed_line}
use Rattle.conflicts.specs.declared.key_waits.KeyWaits.{KeyWaits}
use Rattle.conflicts.specs.ByKey.{CallByKey}
use Rattle.conflicts.specs.Sums.{HotKeyView, gas_of_all, greatest_path}

-- the calls that change a key
abbrev pub writers_line : HotKeyView → List ℕ
writers_line key = printed_line (codes "writers") (encode_lower key.key ∷ map decimal key.writers)

-- what the call of an index waits for at a key: each writer of the key from `wait.from` on that is below the index
abbrev pub wait_line : ℕ → KeyWaits → List ℕ
wait_line index wait = printed_line (codes "wait") (decimal index ∷ decimal wait.from ∷ encode_lower wait.key ∷ [])

-- the gas and the path of the call of an index
abbrev pub path_line : ℕ → ℕ → ℕ → List ℕ
path_line index gas path = printed_line (codes "call") (decimal index ∷ codes "gas" ∷ decimal gas ∷ codes "path" ∷ decimal path ∷ [])

-- all lines of a call
abbrev pub conflict_lines : ℕ × (CallByKey × ℕ) → List ℕ
conflict_lines (index, (call, path)) = flat_map (wait_line index) call.waits ++ path_line index call.gas path

-- how many calls change a key, and how many waits there are at it
abbrev pub key_line : HotKeyView → List ℕ
key_line key = printed_line (codes "key") (encode_lower key.key ∷ codes "writers" ∷ decimal (length key.writers) ∷ codes "waits" ∷ decimal key.waits ∷ [])

-- the sums: how many calls there are, the gas of all, and the greatest path
abbrev pub sum_line : ℕ → ℕ → ℕ → List ℕ
sum_line calls gas path = printed_line (codes "all") (codes "calls" ∷ decimal calls ∷ codes "gas" ∷ decimal gas ∷ codes "path" ∷ decimal path ∷ [])

-- all lines: the writers of the keys at which some call waits, the calls in block order, numbered from 0, each with its path, the
-- numbers of these keys, and the sums
abbrev pub conflicts_text : List CallByKey → List ℕ → List HotKeyView → List ℕ
conflicts_text calls paths keys =
    flat_map writers_line keys ++ flat_map conflict_lines (enumerate_from 0 (zip calls paths)) ++ flat_map key_line keys
    ++ sum_line (length calls) (gas_of_all calls) (greatest_path paths)

-- the waits of a call, if there is one
abbrev pub key_waits_in_call : Option CallByKey → List KeyWaits
key_waits_in_call (Some call) = call.waits
key_waits_in_call None = []

-- the lines name a wait of call j for call i at a key: a line `wait` of call j has the key, and i is in the line `writers` of the
-- key. It is not before the call that the line `wait` names, and it is below j
pub record IsNamed (calls : List CallByKey) (keys : List HotKeyView) (j i : ℕ) (key : List ℕ) : Type 0 where
  pub from : ℕ
  pub hot : HotKeyView
  pub wait : (k : ℕ) × (slice_get (key_waits_in_call (slice_get calls j)) k ≡ Some (record { from = from; key = key }))
  pub writers : (k : ℕ) × (slice_get keys k ≡ Some hot)
  pub key_is : hot.key ≡ key
  pub writer : (k : ℕ) × (slice_get hot.writers k ≡ Some i)
  pub behind : from ≤ i
  pub below : i < j
