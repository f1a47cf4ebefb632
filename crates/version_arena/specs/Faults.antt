-- What a refusal prints.
use Rattle.std.specs.Prelude.{List, ℕ, ◌++◌, codes}
use Rattle.std.specs.Fmt.{decimal}
use Rattle.version_arena.specs.declared.fault.ReserveFault.{ReserveFault}
use Rattle.version_arena.specs.declared.fault.ReserveFault.TheVariants.{ArenaFull, Memory}

abbrev pub number_of : ReserveFault → ℕ
number_of ArenaFull = 1
number_of Memory = 2

abbrev pub name_of : ReserveFault → List ℕ
name_of ArenaFull = codes "ArenaFull"
name_of Memory = codes "Memory"

-- the name and the number, as they are printed
unfoldable pub fault_text : ReserveFault → List ℕ
fault_text fault = name_of fault ++ codes " " ++ decimal (number_of fault)
