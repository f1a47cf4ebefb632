-- What an origin keeps; only its view uses this.
use Rattle.std.specs.Prelude.{List, [], Option}
use Rattle.read_set.specs.declared.origin.Version.{Version}
use Rattle.read_set.specs.declared.origin.Source.{Source}
use Rattle.read_set.specs.declared.origin.Source.TheVariants.{Plain, Own, Shared}

-- the versions that were passed
abbrev pub passed_of : Source → List Version
passed_of (Plain bottom) = []
passed_of (Own bottom passed) = passed.items
passed_of (Shared bottom passed) = passed

-- the version that was found below them
abbrev pub bottom_of : Source → Option Version
bottom_of (Plain bottom) = bottom
bottom_of (Own bottom passed) = bottom
bottom_of (Shared bottom passed) = bottom
