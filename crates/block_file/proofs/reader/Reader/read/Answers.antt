use Rattle.std.proofs.Common.{inr}
use Rattle.block_file.specs.Reader.{parsed}
use Rattle.block_file.proofs.Cuts.{too_many}
use Rattle.block_file.proofs.reader.Reader.read.Goals as goal

pub returns-in-Some-cut_once-3 : goal.returns-in-Some-cut_once-3
returns-in-Some-cut_once-3 c =
    let kind = c.in-Some in
    let first = c.in-Some-cut_once in
    let second = c.in-Some-cut_once-2 in
    let third = c.in-Some-cut_once-3 in
    inr (too_many (parsed c.args.self.now) c.args.line.now kind.kind.now kind.rest.now first.first.now first.rest.now second.second.now second.third.now third.field-0.0.now third.field-0.1.now kind.ensures.parts first.ensures.parts second.ensures.parts third.ensures.parts)
