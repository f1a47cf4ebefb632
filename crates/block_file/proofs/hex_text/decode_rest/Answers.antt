use Rattle.std.proofs.Common.{ℕ, List, ◌+◌, ◌*◌, slice_index, arith}
use Rattle.hex.proofs.Pairs.{decode_step, decode_done}
use Rattle.block_file.proofs.HexText.{is_digit, pair_read, two_more, read_whole}
use Rattle.block_file.proofs.hex_text.decode_rest.Goals as goal

pub loop-i-preserved : goal.loop-i-preserved
loop-i-preserved c =
    let text : List ℕ = c.args.text.now in
    let first : ℕ = slice_index text (2 * c.loop-i.i) in
    let second : ℕ = slice_index text (2 * c.loop-i.i + 1) in
    record {
      lower = two_more text c.loop-i.i c.loop-i.invariant.lower
          (is_digit first _ c.number-high.ensures (omega arith)) (is_digit second _ c.number-low.ensures (omega arith));
      decoded = decode_step text _ c.loop-i.i _ (omega arith) (omega arith)
          (pair_read first second _ _ (2 * c.loop-i.i) c.number-high.ensures c.number-low.ensures (omega arith) (omega arith))
          c.loop-i.invariant.decoded;
    }

pub returns : goal.returns
returns c =
    read_whole c.args.text.now c.loop-i.out (omega arith) (λ k h. c.loop-i.invariant.lower k (omega arith))
    (decode_done _ _ c.loop-i.i (omega arith) (omega arith) c.loop-i.invariant.decoded)
