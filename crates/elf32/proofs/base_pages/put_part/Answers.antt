use Rattle.std.proofs.Common.{◌≡◌, ◌∙◌, ◌-◌, ◌*◌, sym, arith}
use Rattle.elf32.proofs.Paged.{over_here, over_elsewhere}
use Rattle.elf32.proofs.base_pages.put_part.Goals as goal

pub returns-then-from-to-clause-value : goal.returns-then-from-to-clause-value
returns-then-from-to-clause-value c memory size is =
    let s = c.args.segment.now in
    let at = s.address - 65536 in
    let start = c.args.page * 4096 in
    let part = c.part_in_page-from in
    let count : part.result.1 - at - (part.result.0 - at) ≡ part.result.1 - part.result.0 = omega arith in
    let here = over_here memory s.content at start 4096 (omega arith) (omega arith) part.result.0 part.result.1 part.ensures.first part.ensures.end c.if-from-to.true in
    c.put.ensures.value ∙ rw (c.bytes.ensures, count, is) (sym here)

pub returns-else-from-to-clause-value : goal.returns-else-from-to-clause-value
returns-else-from-to-clause-value c memory size is =
    let s = c.args.segment.now in
    let at = s.address - 65536 in
    let start = c.args.page * 4096 in
    is ∙ sym (over_elsewhere memory s.content at start 4096 (omega arith) (omega arith) (omega arith))
