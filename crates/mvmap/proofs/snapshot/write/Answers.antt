use Rattle.std.proofs.Common.{ap}
use Rattle.rv_ledger.specs.Lent.{lent_change}
use Rattle.mvmap.proofs.Storages.{amount_added, key_removed, value_written}
use Rattle.mvmap.proofs.snapshot.write.Goals as goal

pub returns-in_ok-insert_lent-in-Value : goal.returns-in_ok-insert_lent-in-Value
returns-in_ok-insert_lent-in-Value c =
    value_written c.args.store.now c.insert_lent.new.self c.args.key.now (lent_change c.args.change.now) c.in-Value.value.bytes.now
    c.in_ok-insert_lent-in-Value.ensures.ok (ap lent_change c.in-Value.is)

pub returns-in-Gone : goal.returns-in-Gone
returns-in-Gone c = key_removed c.args.store.now c.remove.new.self c.args.key.now (lent_change c.args.change.now) c.remove.ensures (ap lent_change c.in-Gone.is)

pub returns-in_ok-add-in-Sum : goal.returns-in_ok-add-in-Sum
returns-in_ok-add-in-Sum c =
    amount_added c.args.store.now c.add.new.self c.args.key.now (lent_change c.args.change.now) c.in-Sum.amount c.in_ok-add-in-Sum.ensures.ok (ap lent_change c.in-Sum.is)
