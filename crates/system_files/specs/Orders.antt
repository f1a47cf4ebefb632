-- What is asked of a disk, and in which order.
use Rattle.std.specs.Prelude.{◌≡◌, ℕ, ◌++◌, ◌⊎◌, All, List, [], ◌∷◌, Option, None, Some, ⊤}

-- to make a file at a path, to open what is there and write bytes into it, to make sure that a file's bytes are on
-- the disk, to give a file of these bytes another name, to remove an open file that is at a path, and to remove a
-- file there that a process which has ended left over; None if the bytes are not known. A file that can't be made
-- counts as not asked for, and a sync that is refused is an order of its own
pub data Order : Type 0 where
  Make : (path : List ℕ) → Order
  Write : (path bytes : List ℕ) → Order
  Sync : (bytes : Option (List ℕ)) → Order
  RefusedSync : Order
  Rename : (bytes : Option (List ℕ)) (from to : List ℕ) → Order
  Remove : (path : List ℕ) → Order
  RemoveLeftOver : (path : List ℕ) → Order

-- if the orders so far are known, these follow, and no others
abbrev pub Asks : Option (List Order) → Option (List Order) → List Order → Type 0
Asks None new orders = ⊤
Asks (Some old) None orders = ⊥
Asks (Some old) (Some new) orders = new ≡ old ++ orders

-- if the orders so far are known, the orders that follow have this property
abbrev pub Follow : (List Order → Type 0) → Option (List Order) → Option (List Order) → Type 0
Follow are None new = ⊤
Follow are (Some old) None = ⊥
Follow are (Some old) (Some new) = (orders : List Order) × are orders × (new ≡ old ++ orders)

-- an order to remove what was left over
abbrev pub IsClearing : Order → Type 0
IsClearing (RemoveLeftOver path) = ⊤
IsClearing order = ⊥

-- what was left over is removed, and nothing else is done
abbrev pub Clears : List Order → Type 0
Clears orders = All IsClearing orders

-- an order to sync or to rename a file
abbrev pub IsSyncOrRename : Order → Type 0
IsSyncOrRename (Sync bytes) = ⊤
IsSyncOrRename RefusedSync = ⊤
IsSyncOrRename (Rename bytes from to) = ⊤
IsSyncOrRename order = ⊥

-- files are synced and renamed, and nothing else is done
abbrev pub SyncsAndRenames : List Order → Type 0
SyncsAndRenames orders = All IsSyncOrRename orders

-- after the removal of what was left over, one file is made at the path
abbrev pub MakesLast : List ℕ → List Order → Type 0
MakesLast path orders = (before : List Order) × Clears before × (orders ≡ before ++ Make path ∷ [])

-- one file is made; then its bytes are on the disk, and then it is given the path as its name
abbrev pub Replaces : Option (List ℕ) → List ℕ → List Order → Type 0
Replaces bytes path orders = (before : List Order) × (name : List ℕ) × Clears before × (orders ≡ before ++ Make name ∷ Sync bytes ∷ Rename bytes name path ∷ [])

-- no file is made, or one, and the last order is to remove it
abbrev pub LeavesNoFile : List Order → Type 0
LeavesNoFile orders = Clears orders ⊎ ((before after : List Order) × (name : List ℕ) × Clears before × SyncsAndRenames after × (orders ≡ before ++ Make name ∷ after ++ Remove name ∷ []))
