use Rattle.std.proofs.Common.{All}
use Rattle.std.specs.FinMap.{entries}
use Rattle.rv_ledger.specs.declared.rules.Rules.TheVariants.{Two}
use Rattle.session_laws.specs.Chained.{IsEntry}
use Rattle.session_laws.proofs.storage.are_entries.Given as goal

-- if the entries that are left have their lengths, all have them
abbrev pub invariant-loop-key : goal.invariant-loop-key
invariant-loop-key l = All (IsEntry Two) l.key-iterator → All (IsEntry Two) (entries l.fn.store)
