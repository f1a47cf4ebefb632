-- What the engine of `rvstm debug` writes, and what it refuses.
use Rattle.std.specs.Prelude.{ℕ, Bool, List, ◌≡◌, ⊤, Option, Some, None, Result, Ok, Err, slice_get}
use Rattle.std.specs.Option.{option_map}
use Rattle.byte_streams.specs.declared.fault.WriteFault.{WriteFault}
use Rattle.byte_streams.specs.declared.fault.WriteFault.TheVariants as output
use Rattle.debugger.specs.Replay.{ReplayState}
use Rattle.debugger.specs.Session.{lines_of, session}
use Rattle.debugger.specs.declared.fault.ReplayFault.TheVariants as debug
use Rattle.rv_ledger.specs.declared.job.Job.{Job}
use Rattle.rv_step.specs.Fold.{store_before}
use Rattle.engines.specs.Engine.{IsCommandRefused}
use Rattle.engines.specs.declared.fault.Refusal.{Refusal}
use Rattle.engines.specs.declared.fault.Refusal.TheVariants.{File, Seq, Debug, Output}
use Rattle.engines.specs.declared.fault.FileFault.TheVariants.{Unreadable}

-- the first moment of the call at an index, over the storage that the calls before it left; None without such a call
abbrev pub first_moment : Job → ℕ → Option ReplayState
first_moment job index = option_map (λ call. record { call = call; store = store_before job.block index job.store; moment = 0 }) (slice_get job.block index)

-- what a session from a moment on prints for what is typed; the flag says whether the lines of `--more` are commands too;
-- NoSuchCall if there is no such moment
abbrev pub session_text : Bool → Option ReplayState → List ℕ → Result (List ℕ) Refusal
session_text has_more (Some r) typed = Ok (session has_more r (lines_of typed)).text
session_text has_more None typed = Err (Debug debug.NoSuchCall)

-- what a session over the call at an index of a job prints, or the first fault; the calls after it make no difference
abbrev pub replayed_text : Bool → Result Job Refusal → ℕ → List ℕ → Result (List ℕ) Refusal
replayed_text has_more (Err fault) index typed = Err fault
replayed_text has_more (Ok job) index typed = session_text has_more (first_moment job index) typed

-- a refusal before a session over the call at an index: Memory, or NoSuchCall if there is no such call
abbrev pub IsReplayFault : Job → ℕ → Refusal → Type 0
IsReplayFault job index (Seq fault) = ⊤
IsReplayFault job index (Debug debug.Memory) = ⊤
IsReplayFault job index (Debug debug.NoSuchCall) = slice_get job.block index ≡ None
IsReplayFault job index _ = ⊥

-- a refusal of a session: a failed read if a read may fail, a write that may be refused so, or Memory
abbrev pub IsSessionFault : Type 0 → (WriteFault → Type 0) → Refusal → Type 0
IsSessionFault may_fail may_refuse (File Unreadable) = may_fail
IsSessionFault may_fail may_refuse (Output output.Memory) = ⊥
IsSessionFault may_fail may_refuse (Output fault) = may_refuse fault
IsSessionFault may_fail may_refuse (Debug debug.Memory) = ⊤
IsSessionFault may_fail may_refuse _ = ⊥

-- a refusal of a replay of the call at an index: one before the session, or, if there is such a call, one of the session
abbrev pub IsReplayedFault : Type 0 → (WriteFault → Type 0) → ℕ → Option (List ℕ) → Option (List ℕ) → Job → Refusal → Type 0
IsReplayedFault may_fail may_refuse index old new job =
    IsCommandRefused old new (IsReplayFault job index) (λ first. first_moment job index ≡ Some first) (λ first. IsSessionFault may_fail may_refuse)
