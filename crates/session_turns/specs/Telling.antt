-- What a session reports of its state.
use Rattle.std.specs.Prelude.{ℕ, List, [], ◌∷◌, ◌++◌, codes, take, flat_map, Option, Some, None, if◌then◌else◌}
use Rattle.std.specs.Fmt.{decimal}
use Rattle.std.specs.FinMap.{entries, len}
use Rattle.std.specs.List.{filter}
use Rattle.hex.specs.Hex.{encode_lower}
use Rattle.receipts.specs.Text.{bytes_text, printed_line, store_line}
use Rattle.rv_ledger.specs.Key.{Storage}
use Rattle.rv_ledger.specs.Ranges.{is_from}
use Rattle.rv_ledger.specs.Rules.{rules_number}
use Rattle.rv_ledger.specs.declared.rules.Rules.{Rules}
use Rattle.session_turns.specs.declared.settings.Settings.{Settings}
use Rattle.session_turns.specs.declared.state.State.{State}

-- `get KEY`: the value, or that there is none
abbrev pub value_line : Option (List ℕ) → List ℕ
value_line (Some value) = printed_line (codes "value") (bytes_text value ∷ [])
value_line None = codes "absent\n"

-- `list FROM COUNT`: the first COUNT entries from FROM on, itself included
abbrev pub listed : Storage → List ℕ → ℕ → List ℕ
listed store from count = flat_map store_line (take count (filter (is_from from) (entries store)))

-- `dump`: a block file of the session's rules, with all of its storage
abbrev pub dump_head : Rules → List ℕ
dump_head rules = codes "rvblock 2\ngas " ++ decimal (rules_number rules) ++ codes "\n"

abbrev pub dump_text : Rules → Storage → List ℕ
dump_text rules store = dump_head rules ++ flat_map store_line (entries store)

-- `programs`: the names, ascending
abbrev pub names_text : List (List ℕ) → List ℕ
names_text names = flat_map (λ name. encode_lower name ++ codes "\n") names

-- `state`: the session's counts and settings
abbrev pub number_line : List ℕ → ℕ → List ℕ
number_line word number = printed_line word (decimal number ∷ [])

abbrev pub number_text_or_none : Option ℕ → List ℕ
number_text_or_none None = codes "none"
number_text_or_none (Some number) = decimal number

abbrev pub digest_line : Option (List ℕ) → List ℕ
digest_line None = []
digest_line (Some digest) = printed_line (codes "digest") (encode_lower digest ∷ [])

abbrev pub state_text : Settings → State → List ℕ
state_text settings s =
    number_line (codes "rules") (rules_number s.rules)
    ++ number_line (codes "height") s.height
    ++ number_line (codes "keys") (len s.store)
    ++ number_line (codes "programs") (len s.programs)
    ++ number_line (codes "frame-limit") settings.frame_limit
    ++ printed_line (codes "frame-gas") (number_text_or_none settings.frame_gas ∷ [])
    ++ number_line (codes "brief") (if settings.is_brief then 1 else 0)
    ++ digest_line s.digest
