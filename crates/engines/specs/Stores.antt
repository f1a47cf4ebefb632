-- What a session over a file asks of the stores, and in which order.
use Rattle.std.specs.Prelude.{◌≡◌, ◌≢◌, ◌⊎◌, ⊤, ℕ, List, [], ◌∷◌, IsTrue, Option}
use Rattle.session_states.specs.declared.fault.StoreFault.TheVariants.{Busy, HotJournal, NotASession, OtherVersion, OtherSettings}
use Rattle.sqlite_trees.specs.Tree.{Trees}
use Rattle.sqlite_trees.specs.View.{View, IsClean}
use Rattle.engines.specs.Opened.{OrdersFollow}
use Rattle.engines.specs.declared.fault.Refusal.{Refusal}
use Rattle.engines.specs.declared.fault.Refusal.TheVariants.{Seq, Store}

-- a store was opened; an open one was closed; one that will not be used was closed, and the log that its open made was given up
pub data StoreOrder : Type 0 where
  Open : (path : List ℕ) → StoreOrder
  Close : StoreOrder
  Abandon : StoreOrder

-- the store at a path was opened and closed
abbrev pub AsksForSession : Option (List StoreOrder) → Option (List StoreOrder) → List ℕ → Type 0
AsksForSession old new path = OrdersFollow old new (Open path ∷ Close ∷ [])

-- the store was opened and abandoned
abbrev pub AsksForNone : Option (List StoreOrder) → Option (List StoreOrder) → List ℕ → Type 0
AsksForNone old new path = OrdersFollow old new (Open path ∷ Abandon ∷ [])

-- of a refused command: the store was not opened, or one of the two
abbrev pub AsksInVain : Option (List StoreOrder) → Option (List StoreOrder) → List ℕ → Type 0
AsksInVain old new path = (new ≡ old) ⊎ AsksForNone old new path ⊎ AsksForSession old new path

-- The same by what is reported. If memory for the input ran out, the store was not opened. A store that has another session, or
-- none, is abandoned if it was opened, and never closed as the session's. After a fault of the requests or of the output it was
-- closed.
abbrev pub AsksAsTold : Option (List StoreOrder) → Option (List StoreOrder) → List ℕ → Refusal → Type 0
AsksAsTold old new path (Seq fault) = new ≡ old
AsksAsTold old new path (Store Busy) = new ≡ old
AsksAsTold old new path (Store HotJournal) = new ≡ old
AsksAsTold old new path (Store NotASession) = (new ≡ old) ⊎ AsksForNone old new path
AsksAsTold old new path (Store OtherVersion) = AsksForNone old new path
AsksAsTold old new path (Store OtherSettings) = AsksForNone old new path
AsksAsTold old new path (Store fault) = AsksInVain old new path
AsksAsTold old new path fault = AsksForSession old new path

-- a refusal of a session that was opened: never one that comes only from a store that was not opened, or that has another
-- session or none
abbrev pub IsOfSession : Refusal → Type 0
IsOfSession (Seq fault) = ⊥
IsOfSession (Store Busy) = ⊥
IsOfSession (Store HotJournal) = ⊥
IsOfSession (Store NotASession) = ⊥
IsOfSession (Store OtherVersion) = ⊥
IsOfSession (Store OtherSettings) = ⊥
IsOfSession fault = ⊤

-- files have what some store showed, whatever a crash leaves: a store was closed, and that was done
abbrev pub AreClosed : {F : Type 0} → (F → View → Type 0) → Type 0
AreClosed {F} are_folded = (files : F) × (v : View) × are_folded files v

-- ---- what the files at a path hold

-- the trees that the files at a path hold; None if that is not known, as when a wrong answer of the disk may be taken as true
abbrev pub TreesAt : Type 0
TreesAt = List ℕ → Option Trees

-- files hold the last commit of a store that showed this when it was closed: it was open, and no wrong answer of the disk was
-- taken as true by then
pub record HoldsCommitted (v : View) (db : Trees) : Type 0 where
  pub clean : IsClean v
  pub is_open : IsTrue v.is_open
  pub same : db ≡ v.committed

-- what other paths hold stays as it was
abbrev pub KeepsOthers : TreesAt → TreesAt → List ℕ → Type 0
KeepsOthers old new path = (other : List ℕ) → other ≢ path → new other ≡ old other
