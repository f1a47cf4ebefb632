use Rattle.std.proofs.Common.{◌*◌, ◌-◌, ◌≡◌, ◌∙◌, length, take, fold, ap, arith}
use Rattle.std.proofs.lemmas.List.{take_all}
use Rattle.elf32.specs.Pages.{bytes_of_page, segment_bytes, with_segment, zeros}
use Rattle.elf32.proofs.Paged.{part_of_zeros, one_more, over_elsewhere, length_before, placed_item}
use Rattle.elf32.proofs.base_pages.has_bytes.Goals as goal

pub loop-segment-init : goal.loop-segment-init
loop-segment-init c = part_of_zeros 1048576 (c.args.page * 4096) 4096 (omega arith)

pub loop-segment-preserved : goal.loop-segment-preserved
loop-segment-preserved c =
    let segments = c.args.segments.now in
    let i = c.loop-segment.segment-index in
    let s = c.segment-item.result in
    let memory = fold with_segment (zeros 1048576) (take i segments) in
    let size : length memory ≡ 1048576 = length_before segments i c.requires.placed in
    let place = placed_item segments i s c.requires.placed c.loop-segment-test.true c.segment-item.is in
    ap (bytes_of_page c.args.page) (one_more (zeros 1048576) segments i s c.loop-segment-test.true c.segment-item.is)
    ∙ over_elsewhere memory s.content (s.address - 65536) (c.args.page * 4096) 4096 (omega arith) (omega arith) (omega arith)
    ∙ c.loop-segment.invariant

pub returns : goal.returns
unfolding segment_bytes
returns c = λ _. rw (take_all c.loop-segment.segment-index c.args.segments.now c.loop-segment-test.false) at c.loop-segment.invariant
