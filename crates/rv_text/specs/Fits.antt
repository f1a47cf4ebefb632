-- Private help of contracts: the sizes of the sections. No public clause cites it.
use Rattle.std.specs.Prelude.{ℕ, ◌+◌, List, [], ◌∷◌}
use Rattle.rv_text.specs.Assembly.{Item, text_bytes_of}

-- the bytes that some statements take in text
abbrev pub bytes_of_items : List Item → ℕ
bytes_of_items [] = 0
bytes_of_items (item ∷ items) = text_bytes_of item.statement + bytes_of_items items
