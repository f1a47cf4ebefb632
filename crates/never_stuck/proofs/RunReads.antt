-- What a read of a run does, and which reads stand after a step. Only this file takes apart what a call sees.
use Rattle.std.proofs.Common.{◌≡◌, ◌≢◌, ◌<◌, ℕ, true, List, [], ◌∷◌, ◌++◌, map, Option, None, Some, is_some, refl, sym, ap, ◌∙◌, arith}
use Rattle.std.specs.List.{list_all}
use Rattle.rv_ledger.specs.Key.{Storage}
use Rattle.read_set.specs.declared.Read.{Read}
use Rattle.rv_step.specs.declared.answer.StorageAnswer.{StorageAnswer}
use Rattle.mvmap.specs.Versions.{Versions, entry_at}
use Rattle.mvmap.specs.Reading.{Visible, blocker, is_origin, reading, stands}
use Rattle.mvmap.proofs.Readings.{blocked_at, seen_same}
use Rattle.stm_state.specs.declared.state.Status.TheVariants.{Executed}
use Rattle.stm_state.specs.declared.state.Task.TheVariants.{Running}
use Rattle.stm_state.specs.State.{State, call_at}
use Rattle.stm_state.specs.Steps.{Block, answered_by, answered_with, read_of, write_of}
use Rattle.stm_state.proofs.Invariant.{view_of, ViewInvariant}
use Rattle.stm_state.proofs.Lists.{all_same}
use Rattle.stm_state.proofs.Asks.{executed_entries}
use Rattle.stm_state.proofs.Serials.{no_estimate}
use Rattle.stm_state.proofs.Rounds.{Answered, answered_here, answer_stands}

-- a read of call i answers its run, or blocks it
pub data ReadOutcome (base : Storage) (key : List ℕ) (i : ℕ) (answers : List StorageAnswer) (seen : Visible) : Type 0 where
  answers_run : Answered base key i answers seen → ReadOutcome base key i answers seen
  blocks_run : (b : ℕ) → blocker seen ≡ Some b → answered_with base key i answers seen ≡ Running i answers (Some b) → ReadOutcome base key i answers seen

pub read_outcome : (base : Storage) (key : List ℕ) (i : ℕ) (answers : List StorageAnswer) (seen : Visible) → ReadOutcome base key i answers seen
read_outcome base key i answers seen = go (blocker seen) refl
  where
    go : (o : Option ℕ) → blocker seen ≡ o → ReadOutcome base key i answers seen
    go None e = answers_run (answered_here base key i answers seen (ap is_some e))
    go (Some b) e = blocks_run b e (ap (answered_by base key i answers seen) e)

-- a run is blocked on a lower call
pub blocker_lower : (versions : Versions) (key : List ℕ) (i b : ℕ) → blocker (reading versions key i) ≡ Some b → b < i
blocker_lower versions key i b seen = (blocked_at (entry_at versions key) i b seen).0

-- and that call is not EXECUTED
pub blocker_is : (block : Block) (s : State) → ViewInvariant block (view_of s) → (key : List ℕ) (i b : ℕ) → blocker (reading s.versions key i) ≡ Some b → (b < i) × ((call_at s b).status ≢ Executed)
blocker_is block s f key i b seen =
    let from = blocked_at (entry_at s.versions key) i b seen in
    (from.0, λ done. no_estimate (write_of (call_at s b).last key) (call_at s b).incarnation (sym (executed_entries block (view_of s) f b done key) ∙ from.1))

-- all these reads of call i stand
abbrev pub AllStand : Versions → ℕ → List Read → Type 0
AllStand versions i reads = list_all (stands versions i) reads ≡ true

-- the reads of a run stand with one more answer
pub answered_stand : (block : Block) (s : State) (key : List ℕ) (i : ℕ) (answers : List StorageAnswer) (answered : Answered block.base key i answers (reading s.versions key i)) → AllStand s.versions i (map read_of answers) → AllStand s.versions i (map read_of (answers ++ answered.answer ∷ []))
answered_stand block s key i answers answered stand = answer_stands block s block.base key i answers stand answered

-- if other calls keep their entries, reads of call i stand as before
pub stand_still : (before after : Versions) (i : ℕ) → ((key : List ℕ) (j : ℕ) → j ≢ i → entry_at after key j ≡ entry_at before key j) → (reads : List Read) → AllStand before i reads → AllStand after i reads
stand_still before after i same reads stand =
    all_same (stands after i) (stands before i) (λ read. ap (is_origin read.origin) (seen_same (entry_at after read.key) (entry_at before read.key) i (λ j less. same read.key j (λ e. omega (arith, less, e))))) reads ∙ stand
