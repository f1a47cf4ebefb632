-- What is asked of the files of programs, and in which order.
use Rattle.std.specs.Prelude.{◌≡◌, ◌⊎◌, ℕ, ◌++◌, List, [], ◌∷◌, Option, None, Some, ⊤}

-- a program's file was opened; a file that was open was closed
pub data FileOrder : Type 0 where
  Open : (path : List ℕ) → FileOrder
  Close : FileOrder

-- if the orders so far are known, these follow, and no others
abbrev pub OrdersFollow : {X : Type 0} → Option (List X) → Option (List X) → List X → Type 0
OrdersFollow None new orders = ⊤
OrdersFollow (Some old) new orders = new ≡ Some (old ++ orders)

-- the file at a path was opened and closed again, or it could not be opened
abbrev pub AsksForFile : Option (List FileOrder) → Option (List FileOrder) → List ℕ → Type 0
AsksForFile old new path = OrdersFollow old new (Open path ∷ Close ∷ []) ⊎ (new ≡ old)
