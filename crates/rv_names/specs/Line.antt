-- What a line of source says.
use Rattle.std.specs.Prelude.{ℕ, ◌==◌, Bool, List, length, Option, Some, None, Result, Ok, Err, if◌then◌else◌}
use Rattle.std.specs.List.{list_any, before_first, after_first}
use Rattle.std.specs.Option.{ok_or, option_map}
use Rattle.rv_names.specs.Operands.{◌>>=◌, is_blank, trimmed, is_name}
use Rattle.rv_names.specs.Mnemonics.{keyword_of}
use Rattle.rv_names.specs.Statements.{TextLine, saying, statement_of}
use Rattle.rv_names.specs.declared.keywords.Keyword.{Keyword}
use Rattle.rv_names.specs.declared.lines.Section.{Section}
use Rattle.rv_names.specs.declared.lines.LineCause.{LineCause}
use Rattle.rv_names.specs.declared.lines.LineCause.TheVariants.{UnknownMnemonic, BadOperand}
use Rattle.rv_names.specs.declared.lines.Line.{Line}
use Rattle.rv_names.specs.declared.lines.Statement.TheVariants.{Empty}

-- a line without its comment, which begins with `#`, and without the blanks at both ends
unfoldable pub content_of : List ℕ → List ℕ
content_of text = trimmed (before_first (λ b. b == 35) text)

-- whether a text has a `:`
abbrev pub has_label : List ℕ → Bool
has_label content = list_any (λ b. b == 58) content

-- the text before the first `:` is the label
unfoldable pub label_of : List ℕ → Result (Option (List ℕ)) LineCause
label_of content =
    if has_label content then
    (let label = before_first (λ b. b == 58) content in
    if is_name label then Ok (Some label) else Err BadOperand)
    else Ok None

-- the statement is the text after the first `:`, or the whole content if there is no label
unfoldable pub body_of : List ℕ → List ℕ
body_of content = if has_label content then trimmed (after_first (λ b. b == 58) content) else content

-- the first word of a statement, and what follows it
abbrev pub word_of_body : List ℕ → List ℕ
word_of_body body = before_first is_blank body

abbrev pub rest_of_body : List ℕ → List ℕ
rest_of_body body = trimmed (after_first is_blank body)

-- the keyword of a statement; None if the statement is empty
unfoldable pub command_of : List ℕ → Result (Option Keyword) LineCause
command_of body =
    if length body == 0 then Ok None else ok_or (option_map Some (keyword_of (word_of_body body))) UnknownMnemonic

abbrev pub said_by : Section → List ℕ → Option Keyword → Result TextLine LineCause
said_by section body None = Ok (saying Empty)
said_by section body (Some keyword) = statement_of section keyword (rest_of_body body)

-- what a line says, or the least-numbered cause that holds of it
unfoldable pub line_of : Section → List ℕ → Result (Line (List ℕ)) LineCause
line_of section text =
    let content = content_of text in
    let body = body_of content in
    do
      command ← command_of body
      label ← label_of content
      said ← said_by section body command
      Ok (record said { label = label })
