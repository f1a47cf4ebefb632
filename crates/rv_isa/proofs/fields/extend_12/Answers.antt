use Rattle.std.proofs.Common.{sym, subst}
use Rattle.rv_isa.specs.Ranges.{IsImmediate}
use Rattle.rv_isa.specs.InRange.{immediate_small}
use Rattle.rv_isa.proofs.Same.{same_immediate}
use Rattle.rv_isa.proofs.Signs.{shifted_12}
use Rattle.rv_isa.proofs.fields.extend_12.Goals as goal

pub invariant_of-result : goal.invariant_of-result
invariant_of-result c = record { in_range = subst IsImmediate (sym (shifted_12 c.args.number c.cast_signed.result c.requires c.cast_signed.ensures)) (immediate_small c.args.number) }

pub returns : goal.returns
returns c = same_immediate _ _ (shifted_12 c.args.number c.cast_signed.result c.requires c.cast_signed.ensures)
