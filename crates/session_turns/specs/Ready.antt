-- What is pending of a state that has the room for it.
use Rattle.std.specs.Prelude.{ℕ, List, Option, Some, None, Vec}
use Rattle.std.specs.declared.alloc.Global.{Global}
use Rattle.std.specs.FinMap.{remove}
use Rattle.overlay.specs.Commit.{shrunk}
use Rattle.rv_ledger.specs.Key.{Storage}
use Rattle.session_turns.specs.Pending.{HasRoomFor}
use Rattle.session_turns.specs.declared.pending.Pending.{Pending}
use Rattle.session_turns.specs.declared.pending.Pending.TheVariants as pending
use Rattle.session_turns.specs.declared.pending.PendingRun.{PendingRun}
use Rattle.session_turns.specs.declared.ready.Ready.{Ready}
use Rattle.session_turns.specs.declared.run.Left.{Left}
use Rattle.session_turns.specs.declared.run.Left.TheVariants as left
use Rattle.session_turns.specs.declared.state.State.{State}

-- a storage without the keys that were put in for what a run leaves
abbrev pub left_without : Left → Option (Vec (List ℕ) Global) → Storage → Storage
left_without (left.Changed changes) (Some keys) now = shrunk now keys.items
left_without given keys now = now

abbrev pub store_without : Option PendingRun → Option (Vec (List ℕ) Global) → Storage → Storage
store_without None keys now = now
store_without (Some run) keys now = left_without run.left keys now

-- a state without the room for what is pending
abbrev pub without_room : Pending → Option (Vec (List ℕ) Global) → State → State
without_room (pending.Program name image text) keys now = record now { programs = remove now.programs name }
without_room (pending.Frame frame) keys now = record now { store = store_without frame.run keys now.store }
without_room other keys now = now

-- the state as it was before the room was made
abbrev pub without : Ready → State → State
without ready now = without_room ready.pending ready.keys now

-- the state has that room
abbrev pub IsReady : Ready → State → Type 0
IsReady ready now = HasRoomFor (without ready now) ready.pending ready.keys now
