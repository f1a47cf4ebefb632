use Rattle.std.proofs.Common.{arith, ◌≡◌, ◌-◌, ◌%◌, drop, ◌∙◌, ap}
use Rattle.byteorder.specs.Endian.{little_number}
use Rattle.byteorder.specs.Numbers.{little_from-take}
use Rattle.rv_mem.proofs.pages.byte_at.Goals as goal

pub returns : goal.returns
returns c =
    let bytes = drop c.args.at c.args.pages.now.space.bytes in
    let number : little_number 1 c.rest_of_page.result.now ≡ little_number 1 bytes =
    ap (little_number 1) c.rest_of_page.ensures.value ∙ little_from-take 0 1 (4096 - c.args.at % 4096) bytes (omega arith) in
    omega (arith, number)
