-- What a lent record says.
use Rattle.rv_ledger.specs.Lent.{lent_change}
use Rattle.version_arena.specs.declared.record.Record as declared
use Rattle.version_arena.specs.ArenaState.{Record}

abbrev pub lent : declared.Record → Record
lent r = record { writer = r.writer; incarnation = r.incarnation; change = lent_change r.change }
