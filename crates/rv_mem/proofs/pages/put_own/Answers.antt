use Rattle.std.proofs.Common.{◌≡◌, ◌∙◌, ◌+◌, ◌<◌, ◌/◌, refl, get_or, length, arith}
use Rattle.std.specs.Vec.{with_item}
use Rattle.rv_mem.specs.declared.pages.Pages.TheInside.{Inside}
use Rattle.rv_mem.proofs.Calls.{own_sized, paged_put, space_put}
use Rattle.rv_mem.proofs.pages.put_own.Goals as goal

pub invariant_of-pages : goal.invariant_of-pages
invariant_of-pages c =
    let p = c.pages.inside in
    let here : get_or p.index.items (c.args.at / 4096) 0 ≡ 512 + c.args.place = rw (← c.pages.view_is) at c.requires.place in
    let inside : c.args.place < length p.own.items = omega (arith, c.pages.invariant.placed.places (c.args.at / 4096) 0) in
    paged_put p _ c.args.place c.put.new.bytes c.pages.invariant inside refl refl refl (c.put.ensures.len ∙ own_sized p c.pages.invariant c.args.place c.index_mut.result.now inside c.index_mut.ensures.value)

pub returns-clause-space : goal.returns-clause-space
returns-clause-space c =
    let p = c.pages.inside in
    let here : get_or p.index.items (c.args.at / 4096) 0 ≡ 512 + c.args.place = rw (← c.pages.view_is) at c.requires.place in
    let inside : c.args.place < length p.own.items = omega (arith, c.pages.invariant.placed.places (c.args.at / 4096) 0) in
    let q : Inside = record { base = p.base; index = p.index; own = with_item p.own c.args.place c.put.new.bytes } in
    rw (← c.pages.view_is)
    (space_put p q c.args.place c.put.new.bytes c.pages.invariant inside refl refl refl c.index_mut.result.now c.args.new.now c.args.at c.requires.first here c.requires.room c.index_mut.ensures.value c.put.ensures.value)
