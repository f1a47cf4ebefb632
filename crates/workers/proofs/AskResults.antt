-- What an asking adds to a share.
use Rattle.std.proofs.Common.{◌≡◌, ◌+◌, Bool, true, false, if◌then◌else◌, length, get_or, arith, sym, ap, ◌∙◌, refl}
use Rattle.stm_state.specs.declared.state.Task.{Task}
use Rattle.stm_state.specs.declared.state.Task.TheVariants.{Idle}
use Rattle.stm_state.specs.State.{is_done}
use Rattle.stm_state.specs.Steps.{Ask}
use Rattle.stm_state.specs.Dones.{DonesGrowAtDone}
use Rattle.stm_state.specs.Parts.{IsStateSized}
use Rattle.stm_core.specs.CoreState.{CoreState, Makes, ask_result_of, block_in}
use Rattle.stm_core.specs.declared.next_step.AskResult.{AskResult}
use Rattle.stm_core.specs.declared.next_step.AskResult.TheVariants as ask_result
use Rattle.workers.specs.declared.book.share.Share.{Share}
use Rattle.workers.specs.Book.{AgreesWith}

-- an asking is answered Done exactly if all was done
pub done_where_answered : (done : Bool) (task : Task) → ask_result.Done ≡ ask_result_of done task → done ≡ true
done_where_answered true task e = refl
done_where_answered false Idle e = cc
done_where_answered false task e = cc

pub not_done_where_answered : (done : Bool) (task : Task) (answer : AskResult) → answer ≡ ask_result_of done task → (answer ≡ ask_result.Done → ⊥) → done ≡ false
not_done_where_answered true task answer e other = absurd (other e)
not_done_where_answered false task answer e other = refl

module _ (law : DonesGrowAtDone) (old new : CoreState) (share counted : Share) (made : Makes share.worker Ask old new)
    (sized : IsStateSized (length old.job.block) (length old.state.tasks) old.state) (before : AgreesWith share old) (agrees : AgreesWith counted new) (same : counted.worker ≡ share.worker) where
  grown : counted.dones ≡ (if is_done old.state then share.dones + 1 else share.dones)
  grown =
      let size = sized.dones in
      let within = before.within in
      agrees.dones ∙ ap (λ w. get_or new.state.dones w 0) same
      ∙ law (block_in old) share.worker old.state new.state made.0 (omega (arith, size, within))
      ∙ ap (λ d. if is_done old.state then d + 1 else d) (sym before.dones)

  -- one more asking is answered Done if all was done, and otherwise none
  pub one_done_more : is_done old.state ≡ true → counted.dones ≡ share.dones + 1
  one_done_more e = grown ∙ ap (λ b. if b then share.dones + 1 else share.dones) e

  pub no_done_more : is_done old.state ≡ false → counted.dones ≡ share.dones
  no_done_more e = grown ∙ ap (λ b. if b then share.dones + 1 else share.dones) e
