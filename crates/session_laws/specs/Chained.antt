-- A storage, from the text of a result to the text of a block file.
use Rattle.std.specs.Prelude.{◌≡◌, ◌≤◌, ◌++◌, ℕ, List, [], ◌∷◌, length, codes, flat_map, All, Ok}
use Rattle.std.specs.FinMap.{empty, entries}
use Rattle.rv_ledger.specs.Key.{Storage}
use Rattle.rv_ledger.specs.Rules.{longest_value}
use Rattle.rv_ledger.specs.declared.rules.Rules.{Rules}
use Rattle.rv_ledger.specs.declared.rules.Rules.TheVariants.{One, Two, Three}
use Rattle.receipts.specs.Ranges.{AreBytes}
use Rattle.receipts.specs.Text.{store_line}
use Rattle.block_file.specs.Block.{BlockValue, CallValue, parsed_block}

-- no value is longer than these rules allow: 64 bytes, or 256
abbrev pub AreShort : Rules → Storage → Type 0
AreShort rules store = All (λ entry. length entry.1 ≤ longest_value rules) (entries store)

-- a key of 32 bytes, and a value that these rules allow
pub record IsEntry (rules : Rules) (entry : List ℕ × List ℕ) : Type 0 where
  pub key : AreBytes entry.0
  pub key_length : length entry.0 ≡ 32
  pub value : AreBytes entry.1
  pub value_length : length entry.1 ≤ longest_value rules

-- a result's `store` lines
abbrev pub store_lines : Storage → List ℕ
store_lines store = flat_map store_line (entries store)

-- a block with this storage, and neither programs nor calls
abbrev pub block_with : Rules → Storage → BlockValue
block_with rules store = record { rules = rules; programs = []; store = store; calls = [] }

-- the beginnings of a block file that name these rules
abbrev pub beginnings : Rules → List (List ℕ)
beginnings One = codes "rvblock 1\n" ∷ codes "rvblock 2\ngas 1\n" ∷ []
beginnings Two = codes "rvblock 2\ngas 2\n" ∷ []
beginnings Three = codes "rvblock 2\ngas 3\n" ∷ []

-- after each such beginning of a block file, the `store` lines are read as that storage
abbrev pub IsStorageReadBack : Rules → Storage → Type 0
IsStorageReadBack rules store = All (λ beginning. parsed_block (beginning ++ store_lines store) ≡ Ok (block_with rules store)) (beginnings rules)

-- the same between the programs and the calls of a block file of these rules without storage; its programs and calls stay
abbrev pub IsReadInBlocks : Rules → Storage → Type 0
IsReadInBlocks rules store =
    (front back : List ℕ) (programs : List (List ℕ)) (calls : List CallValue)
    → parsed_block front ≡ Ok (record { rules = rules; programs = programs; store = empty; calls = [] })
    → parsed_block (front ++ back) ≡ Ok (record { rules = rules; programs = programs; store = empty; calls = calls })
    → parsed_block (front ++ store_lines store ++ back) ≡ Ok (record { rules = rules; programs = programs; store = store; calls = calls })
