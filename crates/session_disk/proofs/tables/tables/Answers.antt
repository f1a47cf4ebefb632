use Rattle.std.proofs.Common.{refl}
use Rattle.session_disk.specs.Tables.{session_schema}
use Rattle.session_disk.proofs.tables.tables.Goals as goal

pub returns : goal.returns
unfolding session_schema
returns c = rw (c.table.ensures, c.table-2.ensures, c.table-3.ensures, c.table-4.ensures) refl
