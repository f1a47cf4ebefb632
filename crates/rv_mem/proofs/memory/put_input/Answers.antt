use Rattle.std.proofs.Common.{◌≡◌, ap, arith, length, sym}
use Rattle.std.proofs.lemmas.Bool.Decides.{nat_tests}
use Rattle.rv_mem.proofs.Copied.{over_nothing}
use Rattle.rv_mem.proofs.memory.put_input.Goals as goal

pub returns-then-is_empty : goal.returns-then-is_empty
returns-then-is_empty c =
    let space = c.args.pages.now.space in
    let none : length c.args.input.now ≡ 0 = grind (arith, nat_tests) in
    sym (ap (λ bytes. record space { bytes = bytes }) (over_nothing space.bytes 983040 c.args.input.now none))
