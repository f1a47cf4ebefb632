use Rattle.std.proofs.Common.{◌≡◌, vec_len, map, drop}
use Rattle.std.specs.Arc.{arc_value}
use Rattle.std.specs.String.{string_bytes}
use Rattle.programs.proofs.Loads.{Loaded}
use Rattle.programs.proofs.paths.programs_at.Given as goal

abbrev pub invariant-loop-path : goal.invariant-loop-path
invariant-loop-path g l = record {
  made : vec_len l.images ≡ l.path-index;
  same : g.L.Loader.program_at l.loader ≡ g.L.Loader.program_at l.fn.loader;
  loaded : Loaded (g.L.Loader.program_at l.fn.loader) (map string_bytes l.paths) (map string_bytes (drop l.path-index l.paths)) (map arc_value l.images.items);
}
