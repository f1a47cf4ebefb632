-- What comes of a change that was not kept.
use Rattle.std.proofs.Common.{◌≡◌, Bool, true, false, OnOk, sym}
use Rattle.sqlite_trees.specs.View.{View, IsClean}
use Rattle.session_durability.specs.Keeping.{unkept_reply}
use Rattle.session_durability.specs.declared.keeping.KeepFault.{KeepFault}
use Rattle.session_durability.specs.declared.keeping.KeepFault.TheVariants.{Room, Store}

-- a file that is not shut is open
open_of : (v : View) → (IsClean v → false ≡ v.is_broken) → IsClean v → v.is_broken ≡ false
open_of v is clean = sym (is clean)

pub open_still : (v : View) (is_shut : Bool) (fault : KeepFault) → (IsClean v → is_shut ≡ v.is_broken) → OnOk (unkept_reply is_shut fault) (IsClean v → v.is_broken ≡ false)
open_still v true (Room failure) is = tt
open_still v true (Store error) is = tt
open_still v false (Room failure) is = open_of v is
open_still v false (Store error) is = open_of v is
