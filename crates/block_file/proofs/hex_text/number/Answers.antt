use Rattle.std.proofs.Common.{refl, arith}
use Rattle.block_file.specs.declared.hex_text.TheConstants.{NUMBERS}
use Rattle.block_file.proofs.HexText.{has_numbers, number_at}
use Rattle.block_file.proofs.hex_text.number.Goals as goal

pub returns : goal.returns
unfolding has_numbers
returns c = number_at NUMBERS 256 c.args.byte refl (omega arith)
