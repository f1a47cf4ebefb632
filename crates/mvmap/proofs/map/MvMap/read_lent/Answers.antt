use Rattle.std.proofs.Common.{◌∙◌, ap, subst}
use Rattle.mvmap.specs.Answers.{Tells, added}
use Rattle.mvmap.specs.Reading.{Visible, reading}
use Rattle.mvmap.specs.Table.{Table}
use Rattle.mvmap.proofs.Walks.{seen_at_key}
use Rattle.mvmap.proofs.map.MvMap.read_lent.Goals as goal

pub returns-clause-tells : goal.returns-clause-tells
returns-clause-tells c =
    subst (λ (seen : Visible). Tells (added c.walk.result) c.walk.new.passed.items seen)
    (seen_at_key c.self.inside.arena.records c.self.inside.slots c.args.key.now c.at.result.now c.at.ensures.slots c.args.i
    ∙ ap (λ (t : Table). reading t.versions c.args.key.now c.args.i) c.self.view_is)
    c.walk.ensures.tells
