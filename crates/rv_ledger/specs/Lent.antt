-- What lent values stand for.
use Rattle.std.specs.Option.{option_map}
use Rattle.std.specs.Prelude.{Option}
use Rattle.rv_ledger.specs.Change.{Content, ContentChange, change_map}
use Rattle.rv_ledger.specs.declared.change.Change.{Change}
use Rattle.rv_ledger.specs.declared.lent_value.LentValue.{LentValue}

-- the content that is lent
abbrev pub lent_content : Option LentValue → Content
lent_content content = option_map (λ value. value.bytes.now) content

-- the change whose value is lent
abbrev pub lent_change : Change LentValue → ContentChange
lent_change c = change_map (λ value. value.bytes.now) c
