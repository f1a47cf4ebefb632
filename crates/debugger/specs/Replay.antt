-- A replay: what it shows, and what its moves do.
use Rattle.std.specs.Prelude.{◌≡◌, ℕ, ◌+◌, ◌-◌, ◌<◌, ◌≤◌, ◌==◌, ◌&&◌, ◌||◌, nat_le, Bool, true, false, if◌then◌else◌, List, ◌∷◌, ◌++◌, codes, fold, take, slice_get, Option, Some, None, IsSome, Result, Ok, Err}
use Rattle.std.specs.Fmt.{decimal}
use Rattle.std.specs.Option.{option_map}
use Rattle.elf32.specs.Extent.{end_address, first_address}
use Rattle.rv_ledger.specs.Key.{Storage}
use Rattle.rv_ledger.specs.Call.{Invocation}
use Rattle.rv_ledger.specs.declared.outcome.Outcome.{Outcome}
use Rattle.rv_ledger.specs.declared.receipt.Receipt.{Receipt}
use Rattle.rv_mem.specs.Space.{AccessFault, bytes_at, loaded}
use Rattle.rv_mem.specs.declared.access.Access.TheVariants.{Execute}
use Rattle.rv_names.specs.Text as names
use Rattle.receipts.specs.Text.{word_text}
use Rattle.rv_step.specs.declared.machine.Machine.{Machine}
use Rattle.rv_ledger.specs.Applied.{apply_writes}
use Rattle.debugger.specs.declared.fault.ReplayFault.{ReplayFault}
use Rattle.debugger.specs.declared.fault.ReplayFault.TheVariants.{NoSuchCall, AtEnd, BadRange, Memory}
use Rattle.rv_step.specs.Step.{Progress}
use Rattle.rv_step.specs.Moment.{is_over, machine_of, moment_over}

-- a replay of a call over a storage, at a moment; all that it shows is a function of these
pub record ReplayState : Type 0 where
  pub call : Invocation
  pub store : Storage
  pub moment : ℕ

-- the progress of the call at the moment
abbrev pub standing : ReplayState → Progress
standing r = moment_over r.call r.store r.moment

abbrev pub standing_machine : ReplayState → Machine
standing_machine r = machine_of (standing r)

-- the call is over: this is its last moment
abbrev pub is_at_end : ReplayState → Bool
is_at_end r = is_over (standing r)

-- if the call is over, it has the pc and the registers of this receipt
abbrev pub AgreesAtEnd : Receipt → ReplayState → Type 0
AgreesAtEnd receipt r = is_at_end r ≡ true → ((standing_machine r).pc ≡ receipt.pc) × ((standing_machine r).regs ≡ receipt.regs)

-- the call is not over at any moment before this one
abbrev pub GoesOnBefore : ReplayState → Type 0
GoesOnBefore r = (n : ℕ) → n < r.moment → is_over (moment_over r.call r.store n) ≡ false

-- the storage that receipts leave: the writes of each, in order
unfoldable pub store_with_receipts : Storage → List Receipt → Storage
store_with_receipts store receipts = fold (λ before receipt. apply_writes before receipt.writes) store receipts

-- the first moment of the call at an index, over the storage that the receipts before it leave; None if there is no such call
abbrev pub opened : Outcome → ℕ → Option ReplayState
opened outcome index =
    option_map (λ call. record { call = call; store = store_with_receipts outcome.job.store (take index outcome.receipts.items); moment = 0 })
    (slice_get outcome.job.block index)

-- the wanted replay is opened, or memory ran out; if there is no such call, this is refused as NoSuchCall
abbrev pub Opens : Result ReplayState ReplayFault → Option ReplayState → Type 0
Opens (Ok r) wanted = wanted ≡ Some r
Opens (Err NoSuchCall) wanted = wanted ≡ None
Opens (Err Memory) wanted = IsSome wanted
Opens (Err fault) wanted = ⊥

-- the next moment, if this is not the last
abbrev pub next_of : ReplayState → Option ReplayState
next_of r = if is_at_end r then None else Some (record r { moment = r.moment + 1 })

-- the moment before, if this is not the first
abbrev pub previous_of : ReplayState → Option ReplayState
previous_of r = if r.moment == 0 then None else Some (record r { moment = r.moment - 1 })

-- a move goes to the wanted moment, or memory ran out and nothing changes; if there is no such moment, the move is refused as
-- `edge`, and nothing changes
abbrev pub Moves : {X : Type 0} → ReplayFault → Result X ReplayFault → Option ReplayState → ReplayState → ReplayState → Type 0
Moves edge (Ok x) wanted old new = wanted ≡ Some new
Moves edge (Err Memory) wanted old new = IsSome wanted × (new ≡ old)
Moves edge (Err fault) wanted old new = (fault ≡ edge) × (wanted ≡ None) × (new ≡ old)

-- a moment at which a run stops: the call is over, or its machine is wanted
abbrev pub stops : (Machine → Bool) → Progress → Bool
stops is_wanted at = is_over at || is_wanted (machine_of at)

-- a run to a pc wants a machine at it
abbrev pub has_pc : ℕ → Machine → Bool
has_pc pc s = s.pc == pc

-- the new moment is the old one or a later one, and a run stops at none between them
pub record IsLaterMoment (is_wanted : Machine → Bool) (old new : ReplayState) : Type 0 where
  pub call : new.call ≡ old.call
  pub store : new.store ≡ old.store
  pub later : old.moment ≤ new.moment
  pub between : (n : ℕ) → old.moment < n → n < new.moment → stops is_wanted (moment_over old.call old.store n) ≡ false

-- a run goes to the first later moment at which it stops; if memory ran out, it is at a moment before that one; if there is no
-- later moment, it is refused and nothing changes
abbrev pub RunsTo : {X : Type 0} → (Machine → Bool) → Result X ReplayFault → ReplayState → ReplayState → Type 0
RunsTo is_wanted (Ok x) old new = (is_at_end old ≡ false) × IsLaterMoment is_wanted old new × (old.moment < new.moment) × (stops is_wanted (standing new) ≡ true)
RunsTo is_wanted (Err Memory) old new = (is_at_end old ≡ false) × IsLaterMoment is_wanted old new × (old.moment < new.moment → stops is_wanted (standing new) ≡ false)
RunsTo is_wanted (Err AtEnd) old new = (is_at_end old ≡ true) × (new ≡ old)
RunsTo is_wanted (Err fault) old new = ⊥

-- `len` bytes from an address on lie in memory
abbrev pub are_bytes_in_memory : ℕ → ℕ → Bool
are_bytes_in_memory address len = nat_le first_address address && nat_le (address + len) end_address

-- the bytes that are looked at, or None if some are outside memory
abbrev pub bytes_seen : ReplayState → ℕ → ℕ → Option (List ℕ)
bytes_seen r address len = if are_bytes_in_memory address len then Some (bytes_at (standing_machine r).memory address len) else None

abbrev pub Shows : {X : Type 0} → (X → List ℕ) → Result X ReplayFault → Option (List ℕ) → Type 0
Shows view (Ok x) wanted = wanted ≡ Some (view x)
Shows view (Err BadRange) wanted = wanted ≡ None
Shows view (Err Memory) wanted = IsSome wanted
Shows view (Err fault) wanted = ⊥

-- the text of the word that was fetched, if it may be
abbrev pub fetched_text : Result ℕ AccessFault → List ℕ
fetched_text (Ok word) = names.disassembly word
fetched_text (Err cause) = codes "fetch-fault"

-- a moment in decimal, the pc in eight hex digits, and the text of the word there
abbrev pub moment_text : ℕ → Machine → List ℕ
moment_text moment s = decimal moment ++ 32 ∷ (word_text s.pc ++ 32 ∷ fetched_text (loaded 4 Execute s.memory s.pc))

abbrev pub where_text : ReplayState → List ℕ
where_text r = moment_text r.moment (standing_machine r)
