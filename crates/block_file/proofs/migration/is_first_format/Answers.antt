use Rattle.std.proofs.Common.{rules, tests, sym, ◌∙◌, ◌==◌}
use Rattle.std.proofs.lemmas.Iterator.{YieldsList-from_slice}
use Rattle.std.proofs.lemmas.Iterator.Search.{position_from_yields_List}
use Rattle.block_file.proofs.Migrations.{ends_at, ends_nowhere}
use Rattle.block_file.proofs.migration.is_first_format.Goals as goal

pub returns-in-Some : goal.returns-in-Some
returns-in-Some c =
    let place = position_from_yields_List (λ b. b == 10) _ _ c.position.result c.position.ensures.ran (YieldsList-from_slice c.args.bytes.now cc) (λ x b q k. search (rules, tests)) in
    c.eq.ensures ∙ ends_at c.args.bytes.now c.in-Some.end (sym c.in-Some.is ∙ place)

pub returns-in-None : goal.returns-in-None
returns-in-None c =
    let place = position_from_yields_List (λ b. b == 10) _ _ c.position.result c.position.ensures.ran (YieldsList-from_slice c.args.bytes.now cc) (λ x b q k. search (rules, tests)) in
    c.eq-in-None.ensures ∙ ends_nowhere c.args.bytes.now (sym c.in-None.is ∙ place)
