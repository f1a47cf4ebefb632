-- A block file of format 1, written in format 2.
use Rattle.std.specs.Prelude.{ℕ, ◌==◌, Bool, List, ◌++◌, drop, codes, Result, Err, if◌then◌else◌}
use Rattle.std.specs.List.{before_first}
use Rattle.std.specs.Result.{result_map_both}
use Rattle.std.specs.Str.{bytes_eq}
use Rattle.block_file.specs.declared.fault.Cause.TheVariants.{BadHeader}
use Rattle.block_file.specs.declared.fault.BlockFault.{BlockFault}
use Rattle.block_file.specs.Block.{parsed_block}

-- whether the first line, the text before the first LF, is that of format 1
abbrev pub is_first_format : List ℕ → Bool
is_first_format bytes = bytes_eq (before_first (λ b. b == 10) bytes) (codes "rvblock 1")

-- the first two lines of format 2 under rules one replace the first line and its LF, which are ten bytes
abbrev pub in_second_format : List ℕ → List ℕ
in_second_format bytes = codes "rvblock 2\ngas 1\n" ++ drop 10 bytes

-- a file of format 1 in format 2, or its first fault
abbrev pub migrated : List ℕ → Result (List ℕ) BlockFault
migrated bytes =
    if is_first_format bytes then result_map_both (λ _. in_second_format bytes) (λ fault. fault) (parsed_block bytes) else
    Err (record { line = 1; cause = BadHeader })
