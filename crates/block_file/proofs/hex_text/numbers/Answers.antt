use Rattle.block_file.proofs.HexLanes.{sixteen_read}
use Rattle.block_file.proofs.hex_text.numbers.Goals as goal

pub returns : goal.returns
returns c = sixteen_read c.args.text c.fits-text
