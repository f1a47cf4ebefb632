use Rattle.std.proofs.Common.{arith, sym}
use Rattle.std.proofs.lemmas.Bool.Decides.{nat_tests}
use Rattle.block_file.specs.Line.{is_path_byte}
use Rattle.block_file.proofs.FieldLemmas.{text_of_passing}
use Rattle.block_file.proofs.fields.path.Goals as goal

pub unreachable-requires : goal.unreachable-requires
unreachable-requires c = c.in-Err.ensures.cases.0 (text_of_passing is_path_byte (λ b h. grind (arith, nat_tests)) c.args.text.now (sym c.if-not-is_path.ensures))
