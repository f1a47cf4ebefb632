use Rattle.elf32.specs.Faults.{loads}
use Rattle.elf32.proofs.Sound.{loads_in_range, segments_placed}
use Rattle.elf32.proofs.reading.image.Goals as goal

pub segments-requires : goal.segments-requires
unfolding loads
segments-requires c = rw (c.as_slice.ensures.value, c.loads-loads.ensures, c.program_headers.ensures) (loads_in_range c.args.bytes.now c.requires.in_range)

pub new-requires : goal.new-requires
unfolding loads
new-requires c =
    rw (c.in_ok-segments.ensures, c.as_slice.ensures.value, c.loads-loads.ensures, c.program_headers.ensures)
    (segments_placed c.args.bytes.now _ (loads_in_range c.args.bytes.now c.requires.in_range))
