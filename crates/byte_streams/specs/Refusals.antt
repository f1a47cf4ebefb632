-- What a refusal prints, in its parts.
use Rattle.std.specs.Prelude.{List, [], ℕ, ◌++◌, Option, Some, None, codes}
use Rattle.std.specs.Fmt.{decimal}
use Rattle.byte_streams.specs.declared.line_parts.LineParts.{LineParts}

-- the area, the number of the line if it has one, the name and the number
pub record Parts : Type 0 where
  pub area : List ℕ
  pub line : Option ℕ
  pub name : List ℕ
  pub number : ℕ

-- the texts that a value lends
abbrev pub parts_in : LineParts → Parts
parts_in parts = record { area = parts.area.now; line = parts.line; name = parts.name.now; number = parts.number }

-- the parts of a refusal of no line
abbrev pub without_line : List ℕ → List ℕ → ℕ → Parts
without_line area name number = record { area = area; line = None; name = name; number = number }

-- what is printed of the number of a line
abbrev pub number_text : Option ℕ → List ℕ
number_text None = []
number_text (Some line) = decimal line ++ codes " "

-- what is printed
abbrev pub parts_text : Parts → List ℕ
parts_text parts = parts.area ++ codes " " ++ number_text parts.line ++ parts.name ++ codes " " ++ decimal parts.number

-- a line that prints it after a beginning
abbrev pub line_text : List ℕ → Parts → List ℕ
line_text beginning parts = beginning ++ parts_text parts ++ codes "\n"
