use Rattle.std.proofs.Common.{sym}
use Rattle.std.specs.Cmp.Lexicographic.{nat_list_cmp_total}
use Rattle.rv_ledger.proofs.Entries.{key_cmp-IsAntisymmetric}
use Rattle.rv_ledger.proofs.Searches.{absent, there}
use Rattle.rv_ledger.proofs.writes.get.Goals as goal

pub returns-in-Ok : goal.returns-in-Ok
returns-in-Ok c = there nat_list_cmp_total key_cmp-IsAntisymmetric c.args.entries.now c.args.key.now c.in-Ok.at c.index-entries-at.result c.requires c.in-Ok.ensures.found

pub returns-in-Err : goal.returns-in-Err
returns-in-Err c = sym (absent nat_list_cmp_total key_cmp-IsAntisymmetric c.args.entries.now c.args.key.now _ c.requires c.in-Err.ensures.absent)
