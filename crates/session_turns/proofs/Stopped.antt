-- What a request is answered if a stage stopped.
use Rattle.std.proofs.Common.{◌≡◌, ℕ, List, Option, Result, Ok, Err, not, refl, ap, subst, sym}
use Rattle.std.specs.Result.{result_map_both}
use Rattle.block_file.specs.Block.{BlockValue, parsed_block}
use Rattle.block_file.specs.declared.fault.BlockFault.{BlockFault}
use Rattle.session_requests.specs.Requests.{Begin}
use Rattle.session_turns.specs.Failures.{MayTurnFail}
use Rattle.session_turns.specs.Pending.{IsPending, IsUndone}
use Rattle.session_turns.specs.Replies.{Refused}
use Rattle.session_turns.specs.Stages.{IsRequestAnswered, StopsAt, stopped_answer}
use Rattle.session_turns.specs.Turn.{Turn, ◌>>=◌, agree, begin_turn, begun_with, is_dump, unless}
use Rattle.session_turns.specs.declared.pending.Pending.TheVariants as pending
use Rattle.session_turns.specs.declared.refusal.Failure.TheVariants as want
use Rattle.session_turns.specs.declared.refusal.FrameRefusal.TheVariants.{Block, NotADump, OtherDigest}
use Rattle.session_turns.specs.declared.settings.Settings.{Settings}
use Rattle.session_turns.specs.declared.stages.Stop.{Stop}
use Rattle.session_turns.specs.declared.stages.Stop.TheVariants as stop
use Rattle.session_turns.specs.declared.state.State.{State}

-- what `begin` does with a text that was read, or with its first fault
abbrev begun_by : State → ℕ → Option (List ℕ) → Result BlockValue BlockFault → Turn
begun_by s height digest text = begun_with s height digest (
    result_map_both (λ block. block) Block text >>= (λ block.
    unless (not (is_dump block)) NotADump (
    unless (not (agree digest s.digest)) OtherDigest (Ok block))))

begun_stopped : (s : State) (height : ℕ) (digest : Option (List ℕ)) (text : Result BlockValue BlockFault) (why : Stop) → StopsAt text why
    → IsRequestAnswered (λ failure. failure ≡ want.Block) s (begun_by s height digest text) (stopped_answer why) s
begun_stopped s height digest text (stop.Failed failure) is = (is, refl)
begun_stopped s height digest (Err fault) (stop.Refused refusal) is = (ap Refused is, refl)
begun_stopped s height digest (Ok block) (stop.Refused refusal) is = absurd is

begin_stopped : (s : State) (height : ℕ) (digest : Option (List ℕ)) (bytes : List ℕ) (why : Stop) → StopsAt (parsed_block bytes) why
    → IsRequestAnswered (λ failure. failure ≡ want.Block) s (begin_turn s height digest bytes) (stopped_answer why) s
begin_stopped s height digest bytes why is = begun_stopped s height digest (parsed_block bytes) why is

-- if the text of `begin` is not read
pub begin_pending : (settings : Settings) (s : State) (height : ℕ) (digest : Option (List ℕ)) (bytes : List ℕ) (why : Stop) → StopsAt (parsed_block bytes) why
    → IsPending settings s (Begin height digest bytes) (pending.Nothing (stopped_answer why))
begin_pending settings s height digest bytes (stop.Failed failure) is = (subst (MayTurnFail settings s (Begin height digest bytes)) (sym is) tt, refl)
begin_pending settings s height digest bytes (stop.Refused refusal) is = begin_stopped s height digest bytes (stop.Refused refusal) is

-- a stage that stopped changes nothing
pub undone_stopped : (why : Stop) → IsUndone (stopped_answer why)
undone_stopped (stop.Refused refusal) = tt
undone_stopped (stop.Failed failure) = tt
