-- Schedule files: one decimal of at most 65,535 per line.
use Rattle.std.specs.Prelude.{ℕ, nat_le, List, [], ◌∷◌, ◌++◌, Result, Ok, Err, if◌then◌else◌}
use Rattle.std.specs.Option.{ok_or}
use Rattle.block_file.specs.declared.fault.Cause.{Cause}
use Rattle.block_file.specs.declared.fault.Cause.TheVariants.{BadNumber}
use Rattle.block_file.specs.declared.fault.BlockFault.{BlockFault}
use Rattle.block_file.specs.Line.{◌>>=◌, cut, decimal_of, read_parts}

-- the entry of a line
abbrev pub schedule_entry : List ℕ → Result ℕ Cause
schedule_entry line = do
  n ← ok_or (decimal_of line) BadNumber
  if nat_le n 65535 then Ok n else Err BadNumber

-- the entries with that of another line
abbrev pub with_entry : List ℕ → List ℕ → Result (List ℕ) Cause
with_entry entries line = do
  entry ← schedule_entry line
  Ok (entries ++ entry ∷ [])

-- the entries of a schedule file, or its first fault
abbrev pub parsed_schedule : List ℕ → Result (List ℕ) BlockFault
parsed_schedule bytes = read_parts with_entry BadNumber 1 [] (cut 10 bytes)
