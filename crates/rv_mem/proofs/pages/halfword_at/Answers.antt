use Rattle.std.proofs.Common.{arith, ◌-◌, ◌%◌, drop, ◌∙◌, ap}
use Rattle.byteorder.specs.Endian.{little_number}
use Rattle.byteorder.specs.Numbers.{little_from-take}
use Rattle.rv_mem.proofs.pages.halfword_at.Goals as goal

pub returns : goal.returns
returns c =
    c.read_u16.ensures
    ∙ ap (little_number 2) c.rest_of_page.ensures.value
    ∙ little_from-take 0 2 (4096 - c.args.at % 4096) (drop c.args.at c.args.pages.now.space.bytes) (omega arith)
