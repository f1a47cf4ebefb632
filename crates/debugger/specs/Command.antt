-- The commands of `debug`, and the lines that give them.
use Rattle.std.specs.Prelude.{ℕ, nat_le, Bool, true, false, List, [], ◌∷◌, codes, Option, Some, None, if◌then◌else◌}
use Rattle.std.specs.Int.{from_be_bytes, w32}
use Rattle.std.specs.List.{list_all}
use Rattle.std.specs.Option.{option_and_then, option_map}
use Rattle.std.specs.Result.{result_ok}
use Rattle.std.specs.Str.{bytes_eq}
use Rattle.hex.specs.Hex.{decode_sized}
use Rattle.block_file.specs.Line.{cut, decimal_of, field_key, is_lower_digit}
use Rattle.debugger.specs.declared.command.Command.{Command}
use Rattle.debugger.specs.declared.command.Command.TheVariants.{Step, Back, RunTo, Where, Registers, Bytes, Quit, GoTo, RunToChange, End, Value, Help}

-- an address: eight lower-case hex digits, the highest first
abbrev pub typed_address : List ℕ → Option ℕ
typed_address text =
    if list_all is_lower_digit text then option_map (from_be_bytes w32) (result_ok (decode_sized text 4)) else None

-- a number of bytes: a decimal up to 4096
abbrev pub typed_byte_count : List ℕ → Option ℕ
typed_byte_count text = option_and_then (λ n. if nat_le n 4096 then Some n else None) (decimal_of text)

-- a line of one field
abbrev pub word_command : List ℕ → Option Command
word_command word =
    if bytes_eq word (codes "s") then Some Step else
    if bytes_eq word (codes "b") then Some Back else
    if bytes_eq word (codes "w") then Some Where else
    if bytes_eq word (codes "r") then Some Registers else
    if bytes_eq word (codes "q") then Some Quit else None

-- `g HHHHHHHH`
abbrev pub run_to_command : List ℕ → List ℕ → Option Command
run_to_command word address = if bytes_eq word (codes "g") then option_map RunTo (typed_address address) else None

-- `m HHHHHHHH LEN`
abbrev pub bytes_command_of : Option ℕ → Option ℕ → Option Command
bytes_command_of (Some address) (Some count) = Some (Bytes address count)
bytes_command_of _ _ = None

abbrev pub bytes_command : List ℕ → List ℕ → List ℕ → Option Command
bytes_command word address count =
    if bytes_eq word (codes "m") then bytes_command_of (typed_address address) (typed_byte_count count) else None

abbrev pub command_of_fields : List (List ℕ) → Option Command
command_of_fields (word ∷ []) = word_command word
command_of_fields (word ∷ address ∷ []) = run_to_command word address
command_of_fields (word ∷ address ∷ count ∷ []) = bytes_command word address count
command_of_fields _ = None

-- the command of a line, with one blank between two fields; None if the line is not a command
abbrev pub typed_command : List ℕ → Option Command
typed_command line = command_of_fields (cut 32 line)

-- a moment: a decimal up to 4294967295
abbrev pub moment_of : List ℕ → Option ℕ
moment_of text = option_and_then (λ n. if nat_le n 0xffff_ffff then Some n else None) (decimal_of text)

-- the lines of `--more`, besides those above: `e` and `h`
abbrev pub more_word_command : List ℕ → Option Command
more_word_command word =
    if bytes_eq word (codes "e") then Some End else
    if bytes_eq word (codes "h") then Some Help else None

-- `t MOMENT` and `v KEY`
abbrev pub more_operand_command : List ℕ → List ℕ → Option Command
more_operand_command word operand =
    if bytes_eq word (codes "t") then option_map GoTo (moment_of operand) else
    if bytes_eq word (codes "v") then option_map Value (result_ok (field_key operand)) else None

-- `c HHHHHHHH LEN`
abbrev pub change_command_of : Option ℕ → Option ℕ → Option Command
change_command_of (Some address) (Some count) = Some (RunToChange address count)
change_command_of _ _ = None

abbrev pub change_command : List ℕ → List ℕ → List ℕ → Option Command
change_command word address count =
    if bytes_eq word (codes "c") then change_command_of (typed_address address) (typed_byte_count count) else None

abbrev pub more_command_of_fields : List (List ℕ) → Option Command
more_command_of_fields (word ∷ []) = more_word_command word
more_command_of_fields (word ∷ operand ∷ []) = more_operand_command word operand
more_command_of_fields (word ∷ address ∷ count ∷ []) = change_command word address count
more_command_of_fields _ = None

-- the first command, or the second if there is no first
abbrev pub command_or : Option Command → Option Command → Option Command
command_or (Some command) other = Some command
command_or None other = other

-- the command of a line; the flag says whether the lines of `--more` are commands too
abbrev pub heard_of : Bool → List ℕ → Option Command
heard_of false line = typed_command line
heard_of true line = command_or (typed_command line) (more_command_of_fields (cut 32 line))
