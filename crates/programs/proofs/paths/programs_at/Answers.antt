use Rattle.std.proofs.Common.{map, arith}
use Rattle.std.specs.Arc.{arc_value}
use Rattle.std.specs.String.{string_bytes}
use Rattle.programs.proofs.Loads.{next_fault}
use Rattle.programs.proofs.paths.programs_at.Goals as goal

pub returns-in-Err-clause-err : goal.returns-in-Err-clause-err
returns-in-Err-clause-err g c =
    next_fault (g.L.Loader.program_at c.args.loader.now) (g.L.Loader.program_at c.loop-path.loader) string_bytes
    c.args.paths.now c.loop-path.path-index c.path-item.result c.as_str.result.now (map arc_value c.loop-path.images.items) c.in-Err.fault
    c.loop-path.invariant.same (omega arith) c.path-item.is c.as_str.ensures.value c.loop-path.invariant.loaded c.in-Err.ensures.err
