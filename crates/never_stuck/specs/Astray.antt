-- States that no list leads to the end from.
use Rattle.std.specs.Prelude.{◌≡◌, ◌≢◌, ◌<◌, ◌≤◌, ℕ, false, List, [], ◌∷◌, Some}
use Rattle.std.specs.List.{AllByRecursion}
use Rattle.rv_ledger.specs.Key.{Storage}
use Rattle.rv_ledger.specs.Call.{Invocation}
use Rattle.rv_step.specs.Asked.{asked_by}
use Rattle.stm_state.specs.Limits.{incarnation_limit}
use Rattle.stm_state.specs.State.{State, call_at, is_done}
use Rattle.stm_state.specs.Steps.{Block, Step}
use Rattle.stm_state.specs.Done.{Reached, block_of}
use Rattle.stm_state.specs.Walk.{walk}

-- no list of pairs of a worker and a step leads from this state to one in which workers are done
abbrev pub NeverEnds : Block → ℕ → State → Type 0
NeverEnds block workers s = (entries : List (ℕ × Step)) (t : State) → AllByRecursion (λ entry. entry.0 < workers) entries → walk block entries s ≡ Some t → is_done t ≡ false

-- a list of pairs may read a key that the call does not ask for: one worker's first read may do so on a block of one call, and
-- no list leads from there to the end
abbrev pub KeyedListsGoAstray : Type 0
KeyedListsGoAstray = (call : Invocation) (store : Storage) (key : List ℕ) → asked_by call [] ≢ Some key → (s : State) × Reached (block_of (call ∷ []) store) 1 s × NeverEnds (block_of (call ∷ []) store) 1 s

-- if the incarnation of a call is at the limit, no list leads to the end
abbrev pub SpentCallsNeverEnd : Type 0
SpentCallsNeverEnd = (block : Block) (workers : ℕ) (s : State) (i : ℕ) → Reached block workers s → i < block.count → incarnation_limit ≤ (call_at s i).incarnation → NeverEnds block workers s
