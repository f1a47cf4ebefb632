use Rattle.std.proofs.Common.{rules, ◌*◌, ◌^◌, ◌<◌, arith}
use Rattle.conflicts.proofs.paths.path_over.Goals as goal

pub overflow_add-result : goal.overflow_add-result
overflow_add-result c =
    let less = c.greatest_over.ensures.bound (1024 * 2 ^ 32) c.requires in
    let gas : c.args.gas < 2 ^ 32 = search rules in
    omega (arith, less, gas, c.from.ensures)
