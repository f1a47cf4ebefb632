-- The origin of the answer to a read.
use Rattle.std.specs.Prelude.{List, [], ◌++◌, Option, None}
use Rattle.std.specs.Option.{option_to_list}
use Rattle.read_set.specs.declared.origin.Version.{Version}

-- the versions that the read passed, from the nearest call on, each of which adds an amount; and the version that it
-- found
-- below them, or None if that is the storage before the block
pub record Origin : Type 0 where
  pub passed : List Version
  pub bottom : Option Version

-- the storage before the block, with nothing passed
abbrev pub base_origin : Origin
base_origin = record { passed = []; bottom = None }

-- the versions that an origin names
abbrev pub named : Origin → List Version
named origin = origin.passed ++ option_to_list origin.bottom
