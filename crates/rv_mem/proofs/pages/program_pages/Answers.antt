use Rattle.std.specs.Arc.{arc_value}
use Rattle.elf32.specs.Pages.{HoldSegments}
use Rattle.rv_mem.proofs.Calls.{bytes_none, paged_none}
use Rattle.rv_mem.proofs.InputPage.{input_writable}
use Rattle.rv_mem.proofs.pages.program_pages.Goals as goal

pub returns-clause-bytes : goal.returns-clause-bytes
returns-clause-bytes c =
    bytes_none (record { base = c.in_ok-base.base; index = c.extend_from_slice.new.self; own = c.in_ok-own.own }) c.args.image.now.segments (rw c.in_ok-base.ensures c.base.ensures)
    c.in_ok-own.ensures.items (rw (c.new-index.ensures.items, c.deref.ensures) at c.in_ok-extend_from_slice.ensures.items)

pub invariant_of-result : goal.invariant_of-result
invariant_of-result c =
    paged_none _ c.args.image.now.segments (rw c.in_ok-base.ensures c.base.ensures) c.in_ok-own.ensures.items (rw (c.new-index.ensures.items, c.deref.ensures) at c.in_ok-extend_from_slice.ensures.items)

pub returns-clause-input : goal.returns-clause-input
returns-clause-input c =
    let held : HoldSegments (arc_value c.in_ok-base.base) c.args.image.now.segments = rw c.in_ok-base.ensures c.base.ensures in
    input_writable (arc_value c.in_ok-base.base) c.args.image.now.segments (rw c.segments.ensures.value at c.segments.ensures.placed) held.rights
