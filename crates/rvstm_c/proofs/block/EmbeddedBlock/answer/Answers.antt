use Rattle.std.proofs.Common.{◌≡◌, IsSome, false, true, nat_lt, length, refl, ap, rules, arith}
use Rattle.std.proofs.lemmas.Bool.Decides.{nat_tests}
use Rattle.rvstm_c.specs.Blocks.{Runs, stage_of}
use Rattle.rvstm_c.proofs.Bases.{is_absent, is_present}
use Rattle.rvstm_c.proofs.block.EmbeddedBlock.answer.Goals as goal

pub returns-then-not-present : goal.returns-then-not-present
returns-then-not-present c =
    let absent : c.args.present ≡ false = search rules in
    let asked : IsSome c.in-Run.run'.asked = search rules in
    (refl, is_absent (stage_of c.args.self.now.stage) c.in-Run.run' c.args.present c.args.value.now c.keep_base.result (Runs c.keep_base.new.run) (ap stage_of c.in-Run.is) absent asked c.keep_base.ensures)

pub returns : goal.returns
returns c =
    let present : c.args.present ≡ true = search rules in
    let asked : IsSome c.in-Run.run'.asked = search rules in
    let fits : nat_lt 256 (length c.args.value.now) ≡ false = grind (arith, nat_tests) in
    (refl, is_present (stage_of c.args.self.now.stage) c.in-Run.run' c.args.present c.args.value.now c.keep_base-2.result (Runs c.keep_base-2.new.run) (ap stage_of c.in-Run.is) present asked fits (rw c.of.ensures at c.keep_base-2.ensures))
