use Rattle.std.proofs.Common.{◌≡◌, ◌∙◌, ap, length, sym}
use Rattle.std.proofs.lemmas.List.{with_items_is}
use Rattle.std.specs.Arc.{arc_value}
use Rattle.std.specs.Vec.{with_items}
use Rattle.elf32.specs.Pages.{HoldSegments}
use Rattle.rv_mem.proofs.Calls.{bytes_none, paged_none}
use Rattle.rv_mem.proofs.InputPage.{input_writable}
use Rattle.rv_mem.proofs.pages.begin.Goals as goal

pub returns-clause-bytes : goal.returns-clause-bytes
returns-clause-bytes c =
    let held : HoldSegments (arc_value c.in_ok-base.base) c.args.image.now.segments = rw c.in_ok-base.ensures c.base.ensures in
    let index = c.pages.inside.index in
    let is : c.copy_from_slice.new.self ≡ (arc_value c.in_ok-base.base).index = rw c.deref.ensures at c.copy_from_slice.ensures.after in
    let len : length c.copy_from_slice.new.self ≡ index.len = ap length is ∙ held.index_len ∙ sym (index.ok.0 ∙ c.pages.invariant.placed.len) in
    bytes_none (record { base = c.in_ok-base.base; index = with_items index c.copy_from_slice.new.self; own = c.clear.new.self }) c.args.image.now.segments held
    c.clear.ensures.items (with_items_is index c.copy_from_slice.new.self len ∙ is)

pub invariant_of-pages : goal.invariant_of-pages
invariant_of-pages c =
    let held : HoldSegments (arc_value c.in_ok-base.base) c.args.image.now.segments = rw c.in_ok-base.ensures c.base.ensures in
    let index = c.pages.inside.index in
    let is : c.copy_from_slice.new.self ≡ (arc_value c.in_ok-base.base).index = rw c.deref.ensures at c.copy_from_slice.ensures.after in
    let len : length c.copy_from_slice.new.self ≡ index.len = ap length is ∙ held.index_len ∙ sym (index.ok.0 ∙ c.pages.invariant.placed.len) in
    paged_none _ c.args.image.now.segments held c.clear.ensures.items (with_items_is index c.copy_from_slice.new.self len ∙ is)

pub returns-clause-input : goal.returns-clause-input
returns-clause-input c =
    let held : HoldSegments (arc_value c.in_ok-base.base) c.args.image.now.segments = rw c.in_ok-base.ensures c.base.ensures in
    input_writable (arc_value c.in_ok-base.base) c.args.image.now.segments (rw c.segments.ensures.value at c.segments.ensures.placed) held.rights
