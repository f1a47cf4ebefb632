use Rattle.std.proofs.Common.{sym, ap, ◌∙◌}
use Rattle.std.specs.Option.{is_some}
use Rattle.rv_ledger.proofs.Entries.{copied_is_some, room_by_count, room_by_key}
use Rattle.rv_ledger.proofs.writes.Writes.has_room.Goals as goal

pub returns-then-len-lt-WRITE_LIMIT : goal.returns-then-len-lt-WRITE_LIMIT
returns-then-len-lt-WRITE_LIMIT c = room_by_count c.self.inside.entries.items c.args.key.now c.len.result c.args.self.now c.self.invariant.ascending c.self.view_is (c.len.ensures ∙ c.self.inside.entries.ok.0) c.if-len-lt-WRITE_LIMIT.true

pub returns-else-len-lt-WRITE_LIMIT : goal.returns-else-len-lt-WRITE_LIMIT
returns-else-len-lt-WRITE_LIMIT c =
    c.is_some.ensures ∙ sym (copied_is_some c.get.result) ∙ ap is_some c.get.ensures
    ∙ room_by_key c.self.inside.entries.items c.args.key.now c.len.result c.args.self.now c.self.invariant.ascending c.self.view_is (c.len.ensures ∙ c.self.inside.entries.ok.0) c.if-len-lt-WRITE_LIMIT.false
