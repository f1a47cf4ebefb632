use Rattle.std.proofs.Common.{sym, ◌∙◌}
use Rattle.block_file.proofs.Cuts.{cut_at, cut_nowhere}
use Rattle.block_file.proofs.fields.cut_once.Goals as goal

pub returns-in-Some-clause-parts : goal.returns-in-Some-clause-parts
returns-in-Some-clause-parts c = cut_at c.args.byte c.in-Some.place c.args.text.now (sym c.in-Some.is ∙ c.place_of.ensures)

pub returns-in-None-clause-parts : goal.returns-in-None-clause-parts
returns-in-None-clause-parts c = cut_nowhere c.args.byte c.args.text.now (sym c.in-None.is ∙ c.place_of.ensures)
