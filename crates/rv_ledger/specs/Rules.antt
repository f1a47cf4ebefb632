-- The rules that a call runs under (this project's own profile).
use Rattle.std.specs.Prelude.{ℕ}
use Rattle.rv_ledger.specs.declared.rules.Rules.{Rules}
use Rattle.rv_ledger.specs.declared.rules.Rules.TheVariants as rules

-- the greatest length of a value that a call reads or writes, in bytes
abbrev pub longest_value : Rules → ℕ
longest_value rules.One = 64
longest_value rules.Two = 256
longest_value rules.Three = 256

-- the number by which a session's file, its lines and its blocks name the rules
abbrev pub rules_number : Rules → ℕ
rules_number rules.One = 1
rules_number rules.Two = 2
rules_number rules.Three = 3
