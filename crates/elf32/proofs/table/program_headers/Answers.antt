-- The headers so far are those of the first places.
use Rattle.std.proofs.Common.{length, ap, arith, zero-add}
use Rattle.std.proofs.lemmas.List.FromFn.{length-map-range_with_len, map-range_with_len_more}
use Rattle.elf32.specs.Header.{header_at}
use Rattle.elf32.proofs.table.program_headers.Goals as goal

pub push-requires : goal.push-requires
push-requires c =
    omega (arith, length-map-range_with_len (header_at c.args.bytes.now) 0 c.loop-n.n, ap length c.loop-n.invariant)

pub loop-n-preserved : goal.loop-n-preserved
loop-n-preserved c =
    let more = map-range_with_len_more (header_at c.args.bytes.now) 0 c.loop-n.n c.loop-n.n (zero-add _) in
    cc
