use Rattle.std.proofs.Common.{◌*◌, ◌∙◌, take, fold, refl, sym, ap, arith}
use Rattle.std.proofs.lemmas.List.{take_all}
use Rattle.elf32.specs.Pages.{bytes_of_page, segment_bytes, with_segment, zeros}
use Rattle.elf32.proofs.Paged.{part_of_zeros, one_more, length_before}
use Rattle.elf32.proofs.base_pages.page_with.Goals as goal

pub loop-segment-init : goal.loop-segment-init
unfolding zeros
loop-segment-init c = record {
  value = sym (part_of_zeros 1048576 (c.args.page * 4096) 4096 (omega arith));
  size = refl;
}

pub loop-segment-preserved : goal.loop-segment-preserved
loop-segment-preserved c =
    let segments = c.args.segments.now in
    let i = c.loop-segment.segment-index in
    let s = c.segment-item.result in
    let memory = fold with_segment (zeros 1048576) (take i segments) in
    record {
      value =
          c.put_part.ensures.value memory (length_before segments i c.requires.placed) c.loop-segment.invariant.value
          ∙ sym (ap (bytes_of_page c.args.page) (one_more (zeros 1048576) segments i s c.loop-segment-test.true c.segment-item.is));
      size = c.put_part.ensures.size;
    }

pub returns-clause-value : goal.returns-clause-value
unfolding segment_bytes
returns-clause-value c =
    rw (take_all c.loop-segment.segment-index c.args.segments.now c.loop-segment-test.false) at c.loop-segment.invariant.value
