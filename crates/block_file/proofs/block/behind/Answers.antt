use Rattle.std.proofs.Common.{[], ap, sym, subst, ◌∙◌}
use Rattle.std.specs.Option.{option_map_or}
use Rattle.block_file.specs.Answer.{ReadsFile}
use Rattle.block_file.specs.Block.{block_value, parts_after}
use Rattle.block_file.specs.Line.{cut}
use Rattle.block_file.proofs.Blocks.{behind_some}
use Rattle.block_file.proofs.block.behind.Goals as goal

pub returns-in-Some : goal.returns-in-Some
returns-in-Some c =
    let same = ap (λ text. parts_after c.args.line c.args.rules (option_map_or (λ rest. cut 10 rest.now) text [])) c.in-Some.is
    ∙ behind_some c.args.line c.args.rules c.in-Some.text.now in
    subst (ReadsFile block_value c.body.result) (sym same) c.body.ensures
