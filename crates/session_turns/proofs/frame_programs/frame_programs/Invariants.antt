use Rattle.std.proofs.Common.{◌≡◌, ◌<◌, drop, map, vec_len}
use Rattle.std.specs.Arc.{arc_value}
use Rattle.std.specs.String.{string_bytes}
use Rattle.session_turns.specs.Programs.{IsFirstNamed, frame_programs}
use Rattle.session_turns.proofs.Named.{after}
use Rattle.session_turns.proofs.frame_programs.frame_programs.Given as goal

abbrev pub invariant-loop-name : goal.invariant-loop-name
invariant-loop-name l = record {
  all : vec_len l.images ≡ l.name-index;
  found : frame_programs l.programs (map string_bytes l.names) ≡ after (map arc_value l.images.items) (frame_programs l.programs (map string_bytes (drop l.name-index l.names)));
  first : 0 < l.name-index → IsFirstNamed l.programs (map string_bytes l.names);
}
