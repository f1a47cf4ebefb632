-- Versions that are in a map.
use Rattle.std.proofs.Common.{◌≡◌, ℕ, List, [], Some, Bool, true, ap, sym, ◌∙◌}
use Rattle.rv_ledger.specs.Change.{ContentChange}
use Rattle.read_set.specs.Origin.{Origin}
use Rattle.read_set.specs.declared.Read.{Read}
use Rattle.read_set.specs.declared.origin.Version.{Version}
use Rattle.mvmap.specs.Laws.{NamesWhatStands}
use Rattle.mvmap.specs.Reading.{stands}
use Rattle.mvmap.specs.Versions.{Stands, Versions, entry_at}

-- the origin that found a version below others
abbrev found : Version → List Version → Origin
found version passed = record { passed = passed; bottom = Some version }

-- a read of a key with an origin
abbrev read_of : List ℕ → Origin → Read
read_of key origin = record { key = key; origin = origin }

-- if a read that names one version stands, this version is in the map
pub in_map : NamesWhatStands → (v : Versions) (i : ℕ) (key : List ℕ) (version : Version) (passed : List Version) (origin : Origin) (b : Bool)
    → passed ≡ [] → origin ≡ record { passed = passed; bottom = Some version } → b ≡ stands v i (record { key = key; origin = origin }) → b ≡ true
    → (c : ContentChange) × (entry_at v key version.writer ≡ Some (Stands version.incarnation c))
in_map law v i key version passed origin b no_passed is_found is_asked is_true =
    let is_alone : origin ≡ found version [] = is_found ∙ ap (found version) no_passed in
    let stood : stands v i (read_of key (found version [])) ≡ true = ap (λ (o : Origin). stands v i (read_of key o)) (sym is_alone) ∙ (sym is_asked ∙ is_true) in
    (law v i (read_of key (found version [])) stood).2.0.1
