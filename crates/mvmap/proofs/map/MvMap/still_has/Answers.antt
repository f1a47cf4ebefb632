use Rattle.std.proofs.Common.{◌∙◌, ap}
use Rattle.mvmap.specs.Reading.{is_origin, reading}
use Rattle.mvmap.specs.Table.{Table}
use Rattle.mvmap.proofs.Walks.{seen_at_key}
use Rattle.mvmap.proofs.map.MvMap.still_has.Goals as goal

pub returns : goal.returns
returns c =
    c.has_walk.ensures
    ∙ ap (is_origin c.args.origin.now)
    (seen_at_key c.self.inside.arena.records c.self.inside.slots c.args.key.now c.at.result.now c.at.ensures.slots c.args.i
    ∙ ap (λ (t : Table). reading t.versions c.args.key.now c.args.i) c.self.view_is)
