use Rattle.std.specs.Cmp.Lexicographic.{nat_list_cmp_total}
use Rattle.rv_ledger.proofs.Entries.{key_cmp-IsAntisymmetric}
use Rattle.rv_ledger.proofs.Searches.{ascending_insert, ascending_set, length_insert, length_set, lookup_insert, lookup_set}
use Rattle.rv_ledger.proofs.writes.put.Goals as goal

pub returns-in-Ok-clause-ascending : goal.returns-in-Ok-clause-ascending
returns-in-Ok-clause-ascending c = ascending_set nat_list_cmp_total key_cmp-IsAntisymmetric c.args.entries.now.items c.args.key c.in-Ok.at c.args.change c.requires (rw c.as_slice.ensures.value at c.in-Ok.ensures.found)

pub returns-in-Ok-clause-ok : goal.returns-in-Ok-clause-ok
returns-in-Ok-clause-ok c = lookup_set nat_list_cmp_total key_cmp-IsAntisymmetric c.args.entries.now.items c.args.key c.in-Ok.at c.args.change c.requires (rw c.as_slice.ensures.value at c.in-Ok.ensures.found)

pub returns-in-Ok-clause-len : goal.returns-in-Ok-clause-len
returns-in-Ok-clause-len c = length_set nat_list_cmp_total key_cmp-IsAntisymmetric c.args.entries.now.items c.args.key c.in-Ok.at c.args.change c.requires (rw c.as_slice.ensures.value at c.in-Ok.ensures.found)

pub returns-in_ok-insert-in-Err-clause-ascending : goal.returns-in_ok-insert-in-Err-clause-ascending
returns-in_ok-insert-in-Err-clause-ascending c =
    rw (c.in_ok-insert-in-Err.ensures.items, c.reserve_first.ensures) (ascending_insert nat_list_cmp_total key_cmp-IsAntisymmetric c.args.entries.now.items c.args.key c.in-Err.at c.args.change c.requires (rw c.as_slice.ensures.value at c.in-Err.ensures.absent))

pub returns-in_ok-insert-in-Err-clause-ok : goal.returns-in_ok-insert-in-Err-clause-ok
returns-in_ok-insert-in-Err-clause-ok c =
    rw (c.in_ok-insert-in-Err.ensures.items, c.reserve_first.ensures) (lookup_insert nat_list_cmp_total key_cmp-IsAntisymmetric c.args.entries.now.items c.args.key c.in-Err.at c.args.change c.requires (rw c.as_slice.ensures.value at c.in-Err.ensures.absent))

pub returns-in_ok-insert-in-Err-clause-len : goal.returns-in_ok-insert-in-Err-clause-len
returns-in_ok-insert-in-Err-clause-len c =
    rw (c.in_ok-insert-in-Err.ensures.items, c.reserve_first.ensures) (length_insert nat_list_cmp_total key_cmp-IsAntisymmetric c.args.entries.now.items c.args.key c.in-Err.at c.args.change c.requires (rw c.as_slice.ensures.value at c.in-Err.ensures.absent))
