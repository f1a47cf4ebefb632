-- The calls of a block in order, over a storage of which only what was asked is known.
use Rattle.std.specs.Prelude.{⊤, ◌≡◌, ◌<◌, ◌≤◌, ◌⊎◌, ℕ, suc, true, List, [], ◌∷◌, ◌++◌, length, drop, slice_get, Contains, Option, Some, None, IfSome, IsSome}
use Rattle.std.specs.FinMap as map
use Rattle.std.specs.List.{list_any}
use Rattle.std.specs.Map.{keys_of}
use Rattle.std.specs.Option.{option_map}
use Rattle.overlay.specs.Overlay.{Changes, with_contents}
use Rattle.rv_ledger.specs.Applied.{apply_each, apply_writes}
use Rattle.rv_ledger.specs.Call.{Invocation}
use Rattle.rv_ledger.specs.Change.{Content, ContentChange}
use Rattle.rv_ledger.specs.Entries.{AreAscending}
use Rattle.rv_ledger.specs.Key.{Storage, WriteMap}
use Rattle.rv_ledger.specs.declared.change.Change.TheVariants as change
use Rattle.rv_ledger.specs.declared.receipt.Receipt.{Receipt}
use Rattle.rv_step.specs.Asked.{asked_by}
use Rattle.rv_step.specs.Chain.{AreFrom}
use Rattle.rv_step.specs.Fold.{receipts_of, store_after}
use Rattle.rv_step.specs.Moment.{Reply}
use Rattle.rv_step.specs.Replies.{replies_of}
use Rattle.rv_step.specs.Run.{IsEnded}
use Rattle.host_block.specs.Changes.{Agrees, listed_changes}
use Rattle.host_block.specs.declared.parts.Current.{Current}
use Rattle.host_block.specs.declared.parts.Current.TheVariants as current
use Rattle.host_block.specs.declared.parts.Parts.{Parts}
use Rattle.host_block.specs.declared.ordered_run.BaseFault.{BaseFault}
use Rattle.host_block.specs.declared.ordered_run.BaseFault.TheVariants as base_fault
use Rattle.host_block.specs.declared.ordered_run.BlockResult.{BlockResult}

-- what callers see of a run in order: the block's calls, the receipts of those that have ended, what these changed, what the host
-- answered, the key that is asked for, and the changes of the result once all calls have ended
pub record OrderedView : Type 0 where
  pub calls : List Invocation
  pub receipts : List Receipt
  pub changes : WriteMap
  pub bases : Changes
  pub asked : Option (List ℕ)
  pub result : Option (List (List ℕ × Content))

-- a run before its first step
abbrev pub new_run : List Invocation → OrderedView
new_run calls = record { calls = calls; receipts = []; changes = map.empty; bases = map.empty; asked = None; result = None }

-- the result of a block in order: for every storage that has what the host answered, the receipts are those of the calls one
-- after another over it, and the changes lead from it to the storage after the last call
abbrev pub IsResult : List Invocation → Changes → List Receipt → List (List ℕ × Content) → Type 0
IsResult calls bases receipts changes = (store : Storage) → Agrees bases store
    → (receipts ≡ receipts_of calls store) × (with_contents store changes ≡ store_after calls store)

-- some receipt writes a key
abbrev pub IsWritten : List Receipt → List ℕ → Type 0
IsWritten receipts key = list_any (λ receipt. map.contains_key receipt.writes key) receipts ≡ true

-- the call after those that have receipts asks for a key, after answers that each storage gives which has what the host answered
abbrev pub CallAsks : List Invocation → List Receipt → WriteMap → Changes → List ℕ → Type 0
CallAsks calls receipts changes bases key =
    (call : Invocation) × (replies : List Reply) × (slice_get calls (length receipts) ≡ Some call)
    × ((store : Storage) → Agrees bases store → AreFrom (apply_writes store changes) replies)
    × (asked_by call replies ≡ Some key)

-- the keys to which the calls only added
abbrev pub sum_keys : List (List ℕ × ContentChange) → List (List ℕ)
sum_keys [] = []
sum_keys ((key, change.Sum amount) ∷ entries) = key ∷ sum_keys entries
sum_keys (other ∷ entries) = sum_keys entries

-- all calls have ended, and they only added to a key
abbrev pub IsOnlyAdded : List Invocation → List Receipt → WriteMap → List ℕ → Type 0
IsOnlyAdded calls receipts changes key = (length receipts ≡ length calls) × Contains (sum_keys (map.entries changes)) key

-- a key has to be asked for: the host did not answer it, and a call asks for it, or calls only added to it
pub record IsWanted (calls : List Invocation) (receipts : List Receipt) (changes : WriteMap) (bases : Changes) (key : List ℕ) : Type 0 where
  pub unknown : map.get bases key ≡ None
  pub wanted : CallAsks calls receipts changes bases key ⊎ IsOnlyAdded calls receipts changes key

-- ---- private help: the parts of a run

-- receipts so far, calls that are left, and the storage now: the rest of the block is that of the whole block over the storage before
abbrev pub IsRestOf : List Invocation → Storage → List Receipt → List Invocation → Storage → Type 0
IsRestOf calls store receipts left now =
    (receipts ++ receipts_of left now ≡ receipts_of calls store) × (store_after left now ≡ store_after calls store)

-- the same by the call under way. If it has ended, some of its writes are among the changes, and the others come after them
abbrev pub AreCallsSerial : List Invocation → List Receipt → Current → WriteMap → Storage → Type 0
AreCallsSerial calls receipts (current.Ended receipt count) changes store =
    IsRestOf calls store (receipts ++ receipt ∷ []) (drop (suc (length receipts)) calls) (apply_each (apply_writes store changes) (drop count (map.entries receipt.writes)))
AreCallsSerial calls receipts under_way changes store = IsRestOf calls store receipts (drop (length receipts) calls) (apply_writes store changes)

-- the call under way is the one after those that have receipts, and what it was answered is what each such storage has
abbrev pub IsUnderWay : List Invocation → List Receipt → Current → WriteMap → Changes → Type 0
IsUnderWay calls receipts current.Next changes bases = length receipts ≤ length calls
IsUnderWay calls receipts (current.Run run) changes bases =
    (slice_get calls (length receipts) ≡ Some run.call)
    × ((store : Storage) → Agrees bases store → AreFrom (apply_writes store changes) (replies_of run.answers))
IsUnderWay calls receipts (current.Ended receipt count) changes bases = length receipts < length calls

-- the receipts, and that of the call under way if it has ended
abbrev pub receipts_with : List Receipt → Current → List Receipt
receipts_with receipts (current.Ended receipt count) = receipts ++ receipt ∷ []
receipts_with receipts under_way = receipts

-- each key to which the calls only added was answered
abbrev pub AreSumsKnown : WriteMap → Changes → Type 0
AreSumsKnown changes bases = (key : List ℕ) (amount : ℕ) → map.get changes key ≡ Some (change.Sum amount) → IsSome (map.get bases key)

-- the keys to which the calls only added, and how many of them were answered
pub record AreSums (p : Parts) (keys : List (List ℕ)) : Type 0 where
  pub ended : length p.receipts.items ≡ length p.calls.items
  pub of_sums : keys ≡ sum_keys (map.entries p.touched.changes)
  pub known : (k : ℕ) (key : List ℕ) → k < p.known_sums → slice_get keys k ≡ Some key → IsSome (map.get p.touched.bases key)

-- the changes of the result
pub record IsListed (p : Parts) (list : List (List ℕ × Content)) : Type 0 where
  pub ended : length p.receipts.items ≡ length p.calls.items
  pub of_changes : list ≡ listed_changes p.touched.bases p.touched.changes
  pub known : AreSumsKnown p.touched.changes p.touched.bases

pub record IsInOrder (p : Parts) : Type 0 where
  pub serial : (store : Storage) → Agrees p.touched.bases store → AreCallsSerial p.calls.items p.receipts.items p.current p.touched.changes store
  pub under_way : IsUnderWay p.calls.items p.receipts.items p.current p.touched.changes p.touched.bases
  pub written : (key : List ℕ) → map.contains_key p.touched.changes key ≡ true → IsWritten (receipts_with p.receipts.items p.current) key
  pub sums : IfSome p.sums (λ keys. AreSums p keys.items)
  pub listed : IfSome p.listed (λ list. IsListed p list.items)

-- the calls and the answers stay
abbrev pub SameParts : Parts → Parts → Type 0
SameParts before after = (after.calls ≡ before.calls) × (after.touched.bases ≡ before.touched.bases)

-- receipts are kept, and others may come after them
abbrev pub KeepsReceipts : List Receipt → List Receipt → Type 0
KeepsReceipts before after = (more : List Receipt) × (after ≡ before ++ more)

-- a key is wanted
abbrev pub Wants : Parts → List ℕ → Type 0
Wants p key = IsWanted p.calls.items p.receipts.items p.touched.changes p.touched.bases key × (p.listed ≡ None)

-- a run stopped at a key, or at its end
abbrev pub IsStop : Option (List ℕ) → Parts → Type 0
IsStop (Some key) p = Wants p key
IsStop None p = IsSome p.listed

-- a call stopped at a key, or has one receipt more than `before`
abbrev pub IsCallStop : Option (List ℕ) → ℕ → Parts → Type 0
IsCallStop (Some key) before p = Wants p key
IsCallStop None before p = length p.receipts.items ≡ suc before

-- the call under way has begun
abbrev pub HasBegun : Parts → Type 0
HasBegun p = p.current ≡ current.Next → ⊥

-- the call under way has ended: its run, or all of it but some of its writes
abbrev pub IsCallOver : Current → Type 0
IsCallOver (current.Run run) = IsEnded run.stage
IsCallOver (current.Ended receipt count) = ⊤
IsCallOver current.Next = ⊥

-- a call stopped at a key, or it has ended
abbrev pub IsRunStop : Option (List ℕ) → Parts → Type 0
IsRunStop (Some key) p = Wants p key
IsRunStop None p = IsCallOver p.current

-- a storage with these changes, and with the writes of a call from an index on
abbrev pub now_with : WriteMap → WriteMap → ℕ → Storage → Storage
now_with changes writes count store = apply_each (apply_writes store changes) (drop count (map.entries writes))

-- the next sum that is not known, or none
abbrev pub IsNextSum : Option (List ℕ) → Parts → Type 0
IsNextSum (Some key) p = IsWanted p.calls.items p.receipts.items p.touched.changes p.touched.bases key
IsNextSum None p = AreSumsKnown p.touched.changes p.touched.bases

-- ---- what callers of a run in order see

abbrev pub ordered_view : Parts → Option (List ℕ) → OrderedView
ordered_view p asked = record {
  calls = p.calls.items;
  receipts = p.receipts.items;
  changes = p.touched.changes;
  bases = p.touched.bases;
  asked = asked;
  result = option_map (λ list. list.items) p.listed;
}

-- the key that is asked for is wanted
abbrev pub AsksWanted : Parts → Option (List ℕ) → Type 0
AsksWanted p None = ⊤
AsksWanted p (Some key) = Wants p key

-- the calls and the answers stay
abbrev pub SameGiven : OrderedView → OrderedView → Type 0
SameGiven before after = (after.calls ≡ before.calls) × (after.bases ≡ before.bases)

-- a run stopped at a key that it asks for, which is wanted; or it has its result
abbrev pub IsStopped : Option (List ℕ) → OrderedView → Type 0
IsStopped (Some key) v = (v.asked ≡ Some key) × IsWanted v.calls v.receipts v.changes v.bases key
IsStopped None v = (v.asked ≡ None) × IsSome v.result

-- the key that was asked for has this content, and nothing else changes
abbrev pub IsBaseKept : Content → OrderedView → OrderedView → Type 0
IsBaseKept content before after =
    (key : List ℕ) × (before.asked ≡ Some key) × (after ≡ record before { bases = map.insert before.bases key content; asked = None })

-- an answer is refused because no key is asked for; or one is, and memory ran out
abbrev pub IsBaseFault : BaseFault → OrderedView → Type 0
IsBaseFault base_fault.NotAsked v = v.asked ≡ None
IsBaseFault base_fault.Memory v = IsSome v.asked

-- the result, if there is one
abbrev pub AreResults : Option BlockResult → OrderedView → Type 0
AreResults None v = v.result ≡ None
AreResults (Some r) v =
    (v.result ≡ Some r.changes.now) × (r.receipts.now ≡ v.receipts)
    × IsResult v.calls v.bases r.receipts.now r.changes.now
    × AreAscending r.changes.now × ((key : List ℕ) → Contains (keys_of r.changes.now) key → IsWritten r.receipts.now key)
