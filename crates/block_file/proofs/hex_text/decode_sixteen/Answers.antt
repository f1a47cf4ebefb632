use Rattle.block_file.proofs.HexLanes.{decoded_lanes}
use Rattle.block_file.proofs.hex_text.decode_sixteen.Goals as goal

pub returns : goal.returns
returns c = decoded_lanes c.args.text.now c.args.out.now c.numbers-front.result c.numbers-back.result c.requires.text c.requires.out c.numbers-front.ensures c.numbers-back.ensures
