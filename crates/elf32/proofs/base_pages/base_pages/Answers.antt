use Rattle.std.proofs.Common.{◌≡◌, ap, length, refl, replicate, arith}
use Rattle.elf32.specs.Pages.{segment_bytes, zeros}
use Rattle.elf32.proofs.Paged.{length_segment_bytes}
use Rattle.elf32.proofs.Filled.{Filled, filled_none, filled_page, filled_zeros, filled_all}
use Rattle.elf32.proofs.base_pages.base_pages.Goals as goal
use Rattle.elf32.proofs.base_pages.base_pages.Goals.{then-has_bytes+in_ok-push-2, else-has_bytes}

pub loop-page-init : goal.loop-page-init
unfolding zeros
loop-page-init c =
    filled_none c.push.new.self.items _ (segment_bytes c.args.segments.now) (rw (c.in_ok-push.ensures.items, c.in_ok-pages.ensures.items) refl) (ap (replicate 256) c.of_program-index.ensures)

pub loop-page-preserved : goal.loop-page-preserved
loop-page-preserved c =
    let pages = c.loop-page.pages.items in
    let index = c.loop-page.index in
    let page = c.loop-page.page in
    let memory = segment_bytes c.args.segments.now in
    elim c.if-has_bytes.branch [
      | then-has_bytes+in_ok-push-2 w ↦
          let place : w.of_program.result ≡ length pages = omega (arith, w.of_program.ensures) in
          let more = filled_page pages index page memory c.loop-page-test.true c.loop-page.invariant w.page_with.result w.page_with.ensures.value w.page_with.ensures.size in
          rw (w.pages-is, w.index-is, w.in_ok-push-2.ensures.items, place) more
      | else-has_bytes w ↦
          rw (w.pages-is, w.index-is) (filled_zeros pages index page memory c.loop-page-test.true c.loop-page.invariant (c.has_bytes.ensures w.if-has_bytes.false))
    ]

pub returns : goal.returns
returns c =
    let memory = segment_bytes c.args.segments.now in
    let end : c.loop-page.page ≡ 256 = omega arith in
    let all : Filled c.loop-page.pages.items c.loop-page.index 256 memory = rw end at c.loop-page.invariant in
    record {
      sizes = all.sizes;
      count = all.count;
      index_len = all.len;
      places = all.places;
      bytes = filled_all c.loop-page.pages.items c.loop-page.index memory (length_segment_bytes c.args.segments.now c.requires) all;
      rights = c.page_rights.ensures.value;
      rights_len = c.page_rights.ensures.len;
    }
