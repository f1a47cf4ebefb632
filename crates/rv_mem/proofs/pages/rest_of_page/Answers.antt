use Rattle.std.proofs.Common.{arith, ◌≡◌, ◌-◌, ◌/◌, ◌%◌, length, drop, get_or, ◌∙◌, refl, ap, length-take, length-drop}
use Rattle.std.proofs.lemmas.List.{get_or_read, take_all}
use Rattle.elf32.specs.Pages.{page_at}
use Rattle.rv_mem.specs.Paged.{all_pages}
use Rattle.rv_mem.proofs.Flat.{rest_one}
use Rattle.rv_mem.proofs.Calls.{all_sized, page_is}
use Rattle.rv_mem.proofs.pages.rest_of_page.Goals as goal

pub returns-clause-value : goal.returns-clause-value
returns-clause-value c =
    let p = c.pages.inside in
    let place = c.args.at % 4096 in
    let number = c.args.at / 4096 in
    let len = c.pages.invariant.placed.len in
    let there = get_or_read p.index.items number c.index-place.result.now (omega arith) c.index-place.ensures 0 in
    let read = rw (c.deref-2.ensures.value, c.deref-3.ensures.value, c.deref.ensures, there) at c.page_at.ensures in
    let page = page_is p c.pages.invariant (get_or p.index.items number 0) c.page_at.result.now (c.pages.invariant.placed.inside number 0 (omega arith)) read.shared read.own in
    let size : length c.page_at.result.now ≡ 4096 = ap length page ∙ all_sized p c.pages.invariant number 0 (omega arith) in
    rw (← c.pages.view_is)
    (take_all (4096 - place) (drop place c.page_at.result.now) (omega (arith, length-drop place c.page_at.result.now))
    ∙ ap (drop place) page
    ∙ rest_one (page_at (all_pages p)) p.index.items c.args.at number 0 (all_sized p c.pages.invariant) refl (omega arith))

pub returns-clause-len : goal.returns-clause-len
returns-clause-len c =
    let p = c.pages.inside in
    let place = c.args.at % 4096 in
    let number = c.args.at / 4096 in
    let len = c.pages.invariant.placed.len in
    let there = get_or_read p.index.items number c.index-place.result.now (omega arith) c.index-place.ensures 0 in
    let read = rw (c.deref-2.ensures.value, c.deref-3.ensures.value, c.deref.ensures, there) at c.page_at.ensures in
    let page = page_is p c.pages.invariant (get_or p.index.items number 0) c.page_at.result.now (c.pages.invariant.placed.inside number 0 (omega arith)) read.shared read.own in
    let size : length c.page_at.result.now ≡ 4096 = ap length page ∙ all_sized p c.pages.invariant number 0 (omega arith) in
    omega (arith, length-take (4096 - place) (drop place c.page_at.result.now), length-drop place c.page_at.result.now)
