-- Private help of contracts: what the code's values say. No public clause cites it.
use Rattle.std.specs.Prelude.{ℕ, List, [], ◌∷◌, map}
use denote.Ref.{Bor}
use Rattle.std.specs.Option.{option_map}
use Rattle.rv_text.specs.Assembly.{Item, Labels}
use Rattle.rv_text.specs.declared.item.Item as code
use Rattle.rv_text.specs.declared.words.Words.{Words}
use Rattle.rv_text.specs.declared.words.Words.TheVariants.{Nothing, One, Two}

-- a statement of text, whose label is borrowed from the source
abbrev pub shown_item : code.Item → Item
shown_item item = record { line = item.line; address = item.address; statement = item.statement; target = option_map (λ name. name.now) item.target }

-- labels, whose names are borrowed from the source
abbrev pub shown_labels : List (Bor (List ℕ) × ℕ) → Labels
shown_labels entries = map (λ entry. (entry.0.now, entry.1)) entries

-- the words of one statement
abbrev pub shown_words : Words → List ℕ
shown_words Nothing = []
shown_words (One word) = word ∷ []
shown_words (Two first second) = first ∷ second ∷ []
