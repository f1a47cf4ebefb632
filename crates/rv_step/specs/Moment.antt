-- The state of a call after a number of steps.
use Rattle.std.specs.Prelude.{ℕ, zero, suc, Bool, true, false, if◌then◌else◌, List, [], ◌∷◌, length, bytes_eq, Option, Some, None}
use Rattle.std.specs.FinMap as map
use Rattle.rv_isa.specs.Registers.{zeros, written}
use Rattle.elf32.specs.Extent.{end_address, input_address}
use Rattle.rv_mem.specs.Start.{start_space}
use Rattle.rv_ledger.specs.Change.{Content}
use Rattle.rv_ledger.specs.Key.{Storage}
use Rattle.rv_ledger.specs.Call.{Invocation}
use Rattle.rv_step.specs.declared.machine.Machine.{Machine}
use Rattle.rv_step.specs.Step.{Progress, Going, Over, StepResult, Leads, Asks, step, answered, delivered}

-- at the start sp is the end of memory, a0 the input's address and a1 its length
abbrev pub start_registers : ℕ → List ℕ
start_registers len = written (written (written zeros 2 end_address) 10 input_address) 11 len

-- a call before its first instruction
unfoldable pub start : Invocation → Machine
start call = record {
  regs = start_registers (length call.input);
  pc = call.image.entry;
  memory = start_space call.image call.input;
  own = map.empty;
  gas = call.gas;
  rules = call.rules;
}

-- an answer of the storage: the key, and its value or None
abbrev pub Reply : Type 0
Reply = List ℕ × Option (List ℕ)

-- a source of answers: for a key it gives the key's content and the source of the next answer; or None, and then the call waits
abbrev pub Source : Type 0 → Type 0
Source A = A → List ℕ → Option (Content × A)

-- a storage answers every key
abbrev pub from_storage : Source Storage
from_storage store key = Some (map.get store key, store)

-- replies answer in order, each only its own key
abbrev pub from_replies : Source (List Reply)
from_replies [] key = None
from_replies (reply ∷ replies) key = if bytes_eq reply.0 key then Some (reply.1, replies) else None

-- a machine that asked for a key, after the answer
abbrev pub after_asking : {A : Type 0} → Machine → List ℕ → A → Option (Content × A) → Progress × A
after_asking s key left None = (Going s, left)
after_asking s key left (Some (content, rest)) = (answered s (delivered s key content), rest)

abbrev pub after_result : {A : Type 0} → Source A → Machine → StepResult → A → Progress × A
after_result source s (Leads progress) left = (progress, left)
after_result source s (Asks key) left = after_asking s key left (source left key)

-- one more step, with its answer if it asks; a call that is over stays
abbrev pub advance : {A : Type 0} → Source A → Progress × A → Progress × A
advance source (Going s, left) = after_result source s (step s) left
advance source (Over end out s, left) = (Over end out s, left)

-- the same after a number of steps
unfoldable pub moment_from : {A : Type 0} → Source A → ℕ → Progress × A → Progress × A
moment_from source zero at = at
moment_from source (suc n) at = advance source (moment_from source n at)

-- the state of a call after n steps from its start with these replies, and the replies that are left
abbrev pub moment_with : Invocation → List Reply → ℕ → Progress × List Reply
moment_with call replies n = moment_from from_replies n (Going (start call), replies)

-- its state after n steps over a storage
abbrev pub moment_over : Invocation → Storage → ℕ → Progress
moment_over call store n = (moment_from from_storage n (Going (start call), store)).0

-- the machine of a call in this state
abbrev pub machine_of : Progress → Machine
machine_of (Going s) = s
machine_of (Over end out s) = s

abbrev pub is_over : Progress → Bool
is_over (Going s) = false
is_over (Over end out s) = true
