use Rattle.std.proofs.Common.{◌∙◌}
use Rattle.rv_ledger.specs.Lent.{lent_content}
use Rattle.conflicts.proofs.Used.{from_answered}
use Rattle.conflicts.proofs.reading.answer_from.Goals as goal

pub returns-clause-from : goal.returns-clause-from
returns-clause-from c =
    from_answered c.answer_lent.result c.args.store.now c.args.run.now c.answer_lent.new.self c.args.key.now (lent_content c.of_stored-content.result) c.base.result c.requires
    (c.of_stored-content.ensures ∙ c.get.ensures) c.answer_lent.ensures.ok
