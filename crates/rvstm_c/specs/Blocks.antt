-- What the calls on a block return, and what they make of it.
use Rattle.std.specs.Prelude.{◌≡◌, ◌⊎◌, ◌&&◌, ℕ, Bool, true, false, nat_le, nat_lt, ◌==◌, if◌then◌else◌, List, [], ◌∷◌, ◌++◌, length, Contains, Option, Some, None, IfSome, Result, Ok, Err}
use Rattle.std.specs.Map.{keys_of}
use Rattle.std.specs.Option.{option_map}
use Rattle.std.specs.declared.alloc.AllocError.{AllocError}
use Rattle.elf32.specs.Layout.{Layout}
use Rattle.host_block.specs.Ordered.{AreResults, IsBaseKept, IsResult, IsStopped, IsWanted, IsWritten, KeepsReceipts, OrderedView, SameGiven, new_run}
use Rattle.host_block.specs.declared.ordered_run.BlockResult.{BlockResult}
use Rattle.rv_ledger.specs.Call.{Invocation, call_of}
use Rattle.rv_ledger.specs.Change.{Content}
use Rattle.rv_ledger.specs.Entries.{AreAscending}
use Rattle.rv_ledger.specs.declared.call.CallFault.{CallFault}
use Rattle.rv_ledger.specs.declared.call.CallFault.TheVariants as fault
use Rattle.rv_ledger.specs.declared.receipt.Receipt.{Receipt}
use Rattle.rv_ledger.specs.declared.rules.Rules.{Rules}
use Rattle.rv_ledger.specs.declared.rules.Rules.TheVariants as rules
use Rattle.rvstm_c.specs.Statuses.{already_open, bad_gas, bad_rules, closed, done, ended, failed, key_wanted, long_input, long_value, no_entry, no_memory, not_asked, paused, too_many_calls, wrong_stage}
use Rattle.rvstm_c.specs.declared.block.EmbeddedBlock.{EmbeddedBlock}
use Rattle.rvstm_c.specs.declared.block.Stage.{Stage}
use Rattle.rvstm_c.specs.declared.block.Stage.TheVariants as stage

-- the stage of a block: its calls, or their run
pub data BlockStage : Type 0 where
  Calls : List Invocation → BlockStage
  Runs : OrderedView → BlockStage

-- what callers see of a block
pub record BlockView : Type 0 where
  pub rules : Rules
  pub stage : BlockStage

abbrev pub stage_of : Stage → BlockStage
stage_of (stage.Calls calls) = Calls calls.items
stage_of (stage.Run run) = Runs run

abbrev pub block_view : EmbeddedBlock → BlockView
block_view block = record { rules = block.rules; stage = stage_of block.stage }

-- the rules of a number
abbrev pub rules_numbered : ℕ → Option Rules
rules_numbered number = if number == 1 then Some rules.One else if number == 2 then Some rules.Two else if number == 3 then Some rules.Three else None

-- a block without calls
abbrev pub new_block : Rules → BlockView
new_block r = record { rules = r; stage = Calls [] }

-- a block was opened under rules, or with None if there are no such rules
abbrev pub IsBlockOpened : Option Rules → Option EmbeddedBlock → ℕ → Option EmbeddedBlock → Type 0
IsBlockOpened under (Some before) status after = (status ≡ already_open) × (after ≡ Some before)
IsBlockOpened None None status after = (status ≡ bad_rules) × (after ≡ None)
IsBlockOpened (Some under) None status after =
    ((status ≡ done) × (block : EmbeddedBlock) × (after ≡ Some block) × (block_view block ≡ new_block under)) ⊎ ((status ≡ no_memory) × (after ≡ None))

-- a call on a handle: without a block it returns CLOSED and does nothing
abbrev pub OnBlock : (BlockView → ℕ → BlockView → Type 0) → Option EmbeddedBlock → ℕ → Option EmbeddedBlock → Type 0
OnBlock call None status after = (status ≡ closed) × (after ≡ None)
OnBlock call (Some before) status after = (block : EmbeddedBlock) × (after ≡ Some block) × call (block_view before) status (block_view block)

-- a handle was closed
abbrev pub IsBlockClosed : Option EmbeddedBlock → ℕ → Type 0
IsBlockClosed None status = status ≡ closed
IsBlockClosed (Some before) status = status ≡ done

-- ---- calls

-- a call is not made: by its fault, or because memory ran out
abbrev pub IsCallFault : Result Invocation CallFault → ℕ → Type 0
IsCallFault (Err fault.BadGas) status = status ≡ bad_gas
IsCallFault (Err fault.InputTooLong) status = status ≡ long_input
IsCallFault (Ok call) status = status ≡ failed

-- a gas limit and an input have this status if no call has them
abbrev pub IsLimit : Result Invocation CallFault → Option ℕ → Type 0
IsLimit (Ok call) status = status ≡ None
IsLimit (Err fault.BadGas) status = status ≡ Some bad_gas
IsLimit (Err fault.InputTooLong) status = status ≡ Some long_input

-- a call was added after the others, or was not made
abbrev pub IsAddedAfter : List Invocation → Result Invocation CallFault → ℕ → BlockStage → Type 0
IsAddedAfter calls (Ok call) status after =
    ((status ≡ done) × (after ≡ Calls (calls ++ call ∷ []))) ⊎ ((status ≡ failed) × (after ≡ Calls calls))
IsAddedAfter calls fault status after = IsCallFault fault status × (after ≡ Calls calls)

-- whether there are as many calls as a block may have decides
abbrev pub IsAddedIf : Bool → List Invocation → Result Invocation CallFault → ℕ → BlockStage → Type 0
IsAddedIf true calls call status after = (status ≡ too_many_calls) × (after ≡ Calls calls)
IsAddedIf false calls call status after = IsAddedAfter calls call status after

-- a call was added at this stage
abbrev pub IsAddedAt : BlockStage → Result Invocation CallFault → ℕ → BlockStage → Type 0
IsAddedAt (Calls calls) call status after = IsAddedIf (nat_le 1024 (length calls)) calls call status after
IsAddedAt (Runs run) call status after = (status ≡ wrong_stage) × (after ≡ Runs run)

abbrev pub AddsCall : Layout → ℕ → List ℕ → BlockView → ℕ → BlockView → Type 0
AddsCall program gas input before status after =
    (after.rules ≡ before.rules) × IsAddedAt before.stage (call_of before.rules program gas input) status after.stage

-- a call of the program of an image, if the image is open
abbrev pub AddsCallOf : Option Layout → ℕ → List ℕ → BlockView → ℕ → BlockView → Type 0
AddsCallOf None gas input before status after = (status ≡ closed) × (after ≡ before)
AddsCallOf (Some program) gas input before status after = AddsCall program gas input before status after

-- ---- the run

-- the run of a block, which begins if it has not
abbrev pub run_at : BlockStage → OrderedView
run_at (Calls calls) = new_run calls
run_at (Runs run) = run

abbrev pub HasBegunRun : BlockView → BlockView → Type 0
HasBegunRun before after = (after.rules ≡ before.rules) × (after.stage ≡ Runs (run_at before.stage))

-- a run that waits for an answer stays
abbrev pub Waits : OrderedView → OrderedView → Type 0
Waits before after = IfSome before.asked (λ key. after ≡ before)

-- a run that has its result stays, and says so again
abbrev pub StaysEnded : {X : Type 0} → X → X → OrderedView → OrderedView → Type 0
StaysEnded ended said before after = IfSome before.result (λ changes. (after ≡ before) × (said ≡ ended))

-- what a run keeps while it goes on: the calls, the answers and the receipts
abbrev pub Keeps : OrderedView → OrderedView → Type 0
Keeps before after = SameGiven before after × KeepsReceipts before.receipts after.receipts × Waits before after

-- a run went on: to a key or its end, or memory ran out
abbrev pub IsGoneTo : Result (Option (List ℕ)) AllocError → OrderedView → Type 0
IsGoneTo (Ok asked) run = IsStopped asked run
IsGoneTo (Err error) run = (run.asked ≡ None) × (run.result ≡ None)

abbrev pub IsGone : BlockView → Result (Option (List ℕ)) AllocError → BlockView → Type 0
IsGone before stopped after =
    (after.rules ≡ before.rules) × (run : OrderedView) × (after.stage ≡ Runs run) × Keeps (run_at before.stage) run × StaysEnded (Ok None) stopped (run_at before.stage) run
    × IsGoneTo stopped run

-- the result of a run: for every storage that has what was answered, the receipts are those of the calls in order over it, and the
-- changes lead from it to the storage after them; the changed keys ascend, and each is written by a call
abbrev pub IsEndedRun : OrderedView → Type 0
IsEndedRun run =
    (changes : List (List ℕ × Content)) × (run.result ≡ Some changes)
    × IsResult run.calls run.bases run.receipts changes × AreAscending changes × ((key : List ℕ) → Contains (keys_of changes) key → IsWritten run.receipts key)

-- what `rvstm_run_go` returned of a run, and what is in the caller's key
abbrev pub IsRunStatus : OrderedView → ℕ → List ℕ → List ℕ → Type 0
IsRunStatus run status before after =
    ((status ≡ key_wanted) × (run.asked ≡ Some after) × IsWanted run.calls run.receipts run.changes run.bases after)
    ⊎ ((status ≡ ended) × (after ≡ before) × (run.asked ≡ None) × IsEndedRun run)
    ⊎ ((status ≡ paused) × (after ≡ before) × (run.asked ≡ None) × (run.result ≡ None))

abbrev pub RunsOn : List ℕ → List ℕ → BlockView → ℕ → BlockView → Type 0
RunsOn key_before key_after before status after =
    (after.rules ≡ before.rules) × (run : OrderedView) × (after.stage ≡ Runs run) × Keeps (run_at before.stage) run × StaysEnded ended status (run_at before.stage) run
    × IsRunStatus run status key_before key_after

-- the content that a caller gives: a value, or none
abbrev pub given_content : Bool → List ℕ → Content
given_content true value = Some value
given_content false value = None

-- an answer was given to a run that asks for a key
abbrev pub IsBasedIf : Bool → Content → OrderedView → ℕ → BlockStage → Type 0
IsBasedIf true content run status after = (status ≡ long_value) × (after ≡ Runs run)
IsBasedIf false content run status after =
    ((status ≡ done) × (new : OrderedView) × (after ≡ Runs new) × IsBaseKept content run new) ⊎ ((status ≡ failed) × (after ≡ Runs run))

abbrev pub IsBasedRun : Option (List ℕ) → Bool → List ℕ → OrderedView → ℕ → BlockStage → Type 0
IsBasedRun None present value run status after = (status ≡ not_asked) × (after ≡ Runs run)
IsBasedRun (Some key) present value run status after = IsBasedIf (present && nat_lt 256 (length value)) (given_content present value) run status after

abbrev pub IsBasedAt : Bool → List ℕ → BlockStage → ℕ → BlockStage → Type 0
IsBasedAt present value (Calls calls) status after = (status ≡ not_asked) × (after ≡ Calls calls)
IsBasedAt present value (Runs run) status after = IsBasedRun run.asked present value run status after

abbrev pub IsBased : Bool → List ℕ → BlockView → ℕ → BlockView → Type 0
IsBased present value before status after = (after.rules ≡ before.rules) × IsBasedAt present value before.stage status after.stage

-- ---- the result

-- the receipts and the changes of a run that has its result
abbrev pub result_at : BlockStage → Option (List Receipt × List (List ℕ × Content))
result_at (Calls calls) = None
result_at (Runs run) = option_map (λ changes. (run.receipts, changes)) run.result

abbrev pub result_in : Option EmbeddedBlock → Option (List Receipt × List (List ℕ × Content))
result_in None = None
result_in (Some block) = result_at (block_view block).stage

abbrev pub HasResultAt : Option BlockResult → BlockStage → Type 0
HasResultAt result (Calls calls) = result ≡ None
HasResultAt result (Runs run) = AreResults result run

abbrev pub HasResult : Option BlockResult → BlockView → Type 0
HasResult result block = HasResultAt result block.stage

-- an entry of a result was copied to the caller's place; there is no result, or no such entry
abbrev pub IsGiven : {X : Type 0} → Option (Option X) → X → ℕ → X → Type 0
IsGiven None before status after = (status ≡ wrong_stage) × (after ≡ before)
IsGiven (Some None) before status after = (status ≡ no_entry) × (after ≡ before)
IsGiven (Some (Some entry)) before status after = (status ≡ done) × (after ≡ entry)

-- the same of a handle, by what the entry is in a result
abbrev pub GivesEntry : {X : Type 0} → (List Receipt × List (List ℕ × Content) → Option X) → Option EmbeddedBlock → X → ℕ → X → Type 0
GivesEntry entry None before status after = (status ≡ closed) × (after ≡ before)
GivesEntry entry (Some block) before status after = IsGiven (option_map entry (result_at (block_view block).stage)) before status after
