use Rattle.library_tests.proofs.InMap.{in_map}
use Rattle.library_tests.proofs.weak_validation.has_version.Goals as goal

pub returns : goal.returns
returns c = λ h. in_map c.names_what_stands.ensures _ _ _ _ _ _ _ c.new.ensures.items c.new-2.ensures c.still_read.ensures h
