use Rattle.std.proofs.Common.{arith, ◌-◌, ◌%◌, drop, ◌∙◌, ap}
use Rattle.byteorder.specs.Endian.{little_number}
use Rattle.byteorder.specs.Numbers.{little_from-take}
use Rattle.rv_mem.proofs.pages.word_at.Goals as goal

pub returns : goal.returns
returns c =
    c.read_u32.ensures
    ∙ ap (little_number 4) c.rest_of_page.ensures.value
    ∙ little_from-take 0 4 (4096 - c.args.at % 4096) (drop c.args.at c.args.pages.now.space.bytes) (omega arith)
