use Rattle.std.proofs.Common.{◌≡◌, ◌+◌, refl, ap, length, set, arith}
use Rattle.std.proofs.lemmas.List.{get_or_read}
use Rattle.std.specs.Vec.{with_item}
use Rattle.rv_mem.specs.declared.pages.Pages.TheInside.{Inside}
use Rattle.rv_mem.proofs.Calls.{paged_more, space_more}
use Rattle.rv_mem.proofs.pages.copy_page.Goals as goal

pub invariant_of-pages-2 : goal.invariant_of-pages-2
invariant_of-pages-2 c =
    let p = c.pages.inside in
    let items = rw c.from_ref.ensures.value at c.in_ok-extend_from_slice.ensures.items in
    let len = c.pages.invariant.placed.len in
    let there = get_or_read p.index.items c.args.page c.index.result.now (omega arith) c.index.ensures 0 in
    let read = rw (c.deref.ensures, c.in_program.ensures, there) at c.index-2.ensures in
    let end : c.of_own.result ≡ 512 + length p.own.items = omega (arith, c.of_own.ensures) in
    paged_more p _ c.args.page c.index-2.result.now c.pages.invariant c.requires.page (rw (← c.pages.view_is) at c.requires.shared) refl items (ap (set p.index.items c.args.page) end) read (rw (← c.pages.view_is) at c.requires.writable)

pub returns-clause-space : goal.returns-clause-space
returns-clause-space c =
    let p = c.pages.inside in
    let items = rw c.from_ref.ensures.value at c.in_ok-extend_from_slice.ensures.items in
    let len = c.pages.invariant.placed.len in
    let there = get_or_read p.index.items c.args.page c.index.result.now (omega arith) c.index.ensures 0 in
    let read = rw (c.deref.ensures, c.in_program.ensures, there) at c.index-2.ensures in
    let end : c.of_own.result ≡ 512 + length p.own.items = omega (arith, c.of_own.ensures) in
    let q : Inside = record { base = p.base; index = with_item p.index c.args.page c.of_own.result; own = c.extend_from_slice.new.self } in
    rw (← c.pages.view_is)
    (space_more p q c.args.page c.index-2.result.now c.pages.invariant c.requires.page (rw (← c.pages.view_is) at c.requires.shared) refl items (ap (set p.index.items c.args.page) end) read (rw (← c.pages.view_is) at c.requires.writable))
