use Rattle.std.proofs.Common.{◌≡◌, ℕ, length, subst}
use Rattle.rv_ledger.specs.declared.job.Job.{Job}
use Rattle.mvmap.specs.Table.{Table}
use Rattle.stm_state.specs.State.{State}
use Rattle.stm_state.specs.Steps.{Block}
use Rattle.stm_state.specs.Parts.{HoldsWhereReached, IsStateSized}
use Rattle.stm_state.proofs.Parted.{attended_kept, borne_out_kept, estimates_kept, watched_kept}
use Rattle.scheduler.specs.Schedule.{Schedule}
use Rattle.stm_core.specs.CoreState.{CoreState, ReadSizes, block_in}
use Rattle.stm_core.specs.Inner.{IsReached, core_state_of}
use Rattle.stm_core.proofs.MadeSteps.{invariant_at}
use Rattle.stm_core.proofs.state.Core.holds.Goals as goal

-- what holds of each state that is reached holds of a core's
part_at : {job : Job} {table : Table} {promised : ℕ} {schedule : Schedule} {room : ReadSizes} (b : CoreState) (P : Block → State → Type 0) → HoldsWhereReached P
    → core_state_of job table promised schedule room ≡ b → IsReached job table promised schedule → P (block_in b) b.state
part_at b P kept is h = subst (λ (x : CoreState). P (block_in x) x.state) is (kept _ _ _ h.reached)

pub returns-clause-sized : goal.returns-clause-sized
returns-clause-sized g c =
    subst (λ (b : CoreState). IsStateSized (length b.job.block) (length b.state.tasks) b.state) c.self.view_is
    (invariant_at (g.H.JobSource.job c.self.inside.job) c.self.inside.map c.self.inside.promised c.self.inside.scheduler c.self.invariant).sized

pub returns-clause-attended : goal.returns-clause-attended
returns-clause-attended g c = part_at c.args.self.now _ attended_kept c.self.view_is c.self.invariant

pub returns-clause-estimates : goal.returns-clause-estimates
returns-clause-estimates g c = part_at c.args.self.now _ estimates_kept c.self.view_is c.self.invariant

pub returns-clause-watched : goal.returns-clause-watched
returns-clause-watched g c = part_at c.args.self.now _ watched_kept c.self.view_is c.self.invariant

pub returns-clause-borne_out : goal.returns-clause-borne_out
returns-clause-borne_out g c = part_at c.args.self.now _ borne_out_kept c.self.view_is c.self.invariant
