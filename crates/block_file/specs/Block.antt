-- Block files of formats 1 and 2.
use Rattle.std.specs.Prelude.{ℕ, ◌+◌, ◌==◌, nat_le, nat_lt, Bool, true, not, ◌&&◌, ◌||◌, List, [], ◌∷◌, ◌++◌, length, map, codes, Option, Some, None, is_none, Result, Ok, Err, if◌then◌else◌}
use Rattle.std.specs.List.{list_all}
use Rattle.std.specs.Option.{ok_or}
use Rattle.std.specs.Result.{result_map_both}
use Rattle.std.specs.Ordering.{is_lt}
use Rattle.std.specs.Str.{bytes_eq}
use Rattle.std.specs.String.{string_bytes}
use Rattle.std.specs.FinMap as finite
use Rattle.rv_ledger.specs.Key.{Storage, key_cmp}
use Rattle.rv_ledger.specs.Rules.{longest_value}
use Rattle.rv_ledger.specs.declared.rules.Rules.{Rules}
use Rattle.rv_ledger.specs.declared.rules.Rules.TheVariants.{One, Two, Three}
use Rattle.block_file.specs.declared.block_text.BlockText.{BlockText}
use Rattle.block_file.specs.declared.block_text.CallLine.{CallLine}
use Rattle.block_file.specs.declared.fault.Cause.{Cause}
use Rattle.block_file.specs.declared.fault.Cause.TheVariants.{BadHeader, BadLine, BadNumber, KeyOrder, UnknownProgram, Limit}
use Rattle.block_file.specs.declared.fault.BlockFault.{BlockFault}
use Rattle.block_file.specs.Line.{◌>>=◌, cut, decimal_of, path_of, field_bytes, field_key, on_line, read_parts}

-- a call: the number of its program, its gas limit and its input
pub record CallValue : Type 0 where
  pub program : ℕ
  pub gas : ℕ
  pub input : List ℕ

-- what a block file says: the rules of its calls, the paths of its programs, the storage that it starts from, and its
-- calls
pub record BlockValue : Type 0 where
  pub rules : Rules
  pub programs : List (List ℕ)
  pub store : Storage
  pub calls : List CallValue

-- what a `CallLine` and a `BlockText` say
abbrev pub call_value : CallLine → CallValue
call_value call = record { program = call.program; gas = call.gas; input = call.input.items }

abbrev pub block_value : BlockText → BlockValue
block_value text = record { rules = text.rules; programs = map string_bytes text.programs.items; store = text.store; calls = map call_value text.calls.items }

-- what the lines so far say, and the KEY of the last `store` line
pub record Parsed : Type 0 where
  pub block : BlockValue
  pub last : Option (List ℕ)

-- before the first line
abbrev pub nothing_parsed : Rules → Parsed
nothing_parsed rules = record { block = record { rules = rules; programs = []; store = finite.empty; calls = [] }; last = None }

-- the PATH of a line `program N PATH` that follows n others
abbrev pub program_path : ℕ → List ℕ → List ℕ → Result (List ℕ) Cause
program_path n number path = do
  p ← path_of path
  next ← ok_or (decimal_of number) BadNumber
  if not (next == n) then Err BadNumber else
      if nat_le 64 n then Err Limit else Ok p

-- whether a key is above the last one
abbrev pub is_above : Option (List ℕ) → List ℕ → Bool
is_above None key = true
is_above (Some last) key = is_lt (key_cmp last key)

-- the key and the value of a line `store KEY VALUE` that follows the key `last`
abbrev pub stored_of : Rules → Option (List ℕ) → List ℕ → List ℕ → Result (List ℕ × List ℕ) Cause
stored_of rules last key value = do
  k ← field_key key
  v ← field_bytes value
  if not (is_above last k) then Err KeyOrder else
      if nat_lt (longest_value rules) (length v) then Err Limit else Ok (k, v)

-- the call of a line `call PROGRAM GAS INPUT` that follows `programs` programs and `calls` calls
abbrev pub line_call : ℕ → ℕ → List ℕ → List ℕ → List ℕ → Result CallValue Cause
line_call programs calls program gas input = do
  p ← ok_or (decimal_of program) BadNumber
  g ← ok_or (decimal_of gas) BadNumber
  bytes ← field_bytes input
  if not (nat_lt p programs) then Err UnknownProgram else
      if (nat_le 1024 calls || g == 0 || nat_lt 10000000 g || nat_lt 4096 (length bytes)) then Err Limit else
      Ok (record { program = p; gas = g; input = bytes })

-- what each kind of line adds
abbrev pub with_program_line : Parsed → List ℕ → List ℕ → Result Parsed Cause
with_program_line s number path = do
  p ← program_path (length s.block.programs) number path
  Ok (record s { block = record s.block { programs = s.block.programs ++ p ∷ [] } })

abbrev pub with_stored : Parsed → List ℕ → List ℕ → Result Parsed Cause
with_stored s key value = do
  entry ← stored_of s.block.rules s.last key value
  Ok (record { block = record s.block { store = finite.insert s.block.store entry.0 entry.1 }; last = Some entry.0 })

abbrev pub with_call_line : Parsed → List ℕ → List ℕ → List ℕ → Result Parsed Cause
with_call_line s program gas input = do
  call ← line_call (length s.block.programs) (length s.block.calls) program gas input
  Ok (record s { block = record s.block { calls = s.block.calls ++ call ∷ [] } })

-- what a line of three or four fields adds; the first field is its kind, and the kinds come in the order program,
-- store, call
abbrev pub with_kind : Parsed → List (List ℕ) → Result Parsed Cause
with_kind s (kind ∷ a ∷ b ∷ []) =
    if bytes_eq kind (codes "program") && is_none s.last && length s.block.calls == 0 then with_program_line s a b else
    if bytes_eq kind (codes "store") && length s.block.calls == 0 then with_stored s a b else Err BadLine
with_kind s (kind ∷ a ∷ b ∷ c ∷ []) = if bytes_eq kind (codes "call") then with_call_line s a b c else Err BadLine
with_kind s _ = Err BadLine

-- what a line adds: no field is empty, and one space separates two fields
abbrev pub with_fields : Parsed → List (List ℕ) → Result Parsed Cause
with_fields s fields = if list_all (λ field. not (length field == 0)) fields then with_kind s fields else Err BadLine

abbrev pub with_line : Parsed → List ℕ → Result Parsed Cause
with_line s line = with_fields s (cut 32 line)

-- what the lines from line n on add
abbrev pub lines_from : ℕ → Rules → List (List ℕ) → Result Parsed BlockFault
lines_from n rules parts = read_parts with_line BadLine n (nothing_parsed rules) parts

-- what the parts after line n say, if the lines up to line n name the rules
abbrev pub parts_after : ℕ → Rules → List (List ℕ) → Result BlockValue BlockFault
parts_after n rules parts =
    if length parts == 0 then Err (record { line = n; cause = BadLine }) else
    result_map_both (λ s. s.block) (λ fault. fault) (lines_from (n + 1) rules parts)

-- what the parts after the line `rvblock 1` say
abbrev pub first_format : List (List ℕ) → Result BlockValue BlockFault
first_format parts = parts_after 1 One parts

-- the rules that a `gas` line names
abbrev pub rules_of : List ℕ → Option Rules
rules_of line =
    if bytes_eq line (codes "gas 1") then Some One else
    if bytes_eq line (codes "gas 2") then Some Two else
    if bytes_eq line (codes "gas 3") then Some Three else None

-- what the parts after the line `rvblock 2` say: the first one names the rules
abbrev pub second_format : List (List ℕ) → Result BlockValue BlockFault
second_format [] = Err (record { line = 1; cause = BadLine })
second_format (line ∷ rest) = on_line 2 (ok_or (rules_of line) BadLine) (λ rules. parts_after 2 rules rest)

-- what the parts between the LFs say
abbrev pub block_of_parts : List (List ℕ) → Result BlockValue BlockFault
block_of_parts [] = Err (record { line = 1; cause = BadHeader })
block_of_parts (header ∷ rest) =
    if bytes_eq header (codes "rvblock 1") then first_format rest else
    if bytes_eq header (codes "rvblock 2") then second_format rest else Err (record { line = 1; cause = BadHeader })

-- what a block file says, or its first fault
abbrev pub parsed_block : List ℕ → Result BlockValue BlockFault
parsed_block bytes = block_of_parts (cut 10 bytes)
