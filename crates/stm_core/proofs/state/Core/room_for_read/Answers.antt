use Rattle.std.proofs.Common.{◌+◌, ◌∙◌, Result, Ok, Err, OnOk, length, ap, sym, subst}
use Rattle.stm_state.specs.declared.state.Task.{Task}
use Rattle.stm_state.specs.State.{State, task_at}
use Rattle.stm_core.specs.CoreState.{CoreState, IsRoomFor}
use Rattle.stm_core.proofs.MadeSteps.{same_reached}
use Rattle.stm_core.proofs.state.Core.room_for_read.Goals as goal

both_ok : {X E : Type 0} (r : Result X E) {P Q R : Type 0} → OnOk r P → OnOk r Q → (P → Q → R) → OnOk r R
both_ok (Ok x) p q f = f p q
both_ok (Err e) p q f = p

pub invariant_of-self : goal.invariant_of-self
invariant_of-self g c =
    same_reached (g.H.JobSource.job c.self.inside.job) c.self.inside.map c.self.inside.promised c.self.inside.scheduler c.self.invariant c.grow.new.scheduler (c.grow.ensures.same c.self.inside.map.versions (length c.self.inside.map.arena.records + c.self.inside.promised))

pub returns-clause-state : goal.returns-clause-state
returns-clause-state g c = c.grow.ensures.same c.self.inside.map.versions (length c.self.inside.map.arena.records + c.self.inside.promised) ∙ ap (λ (b : CoreState). b.state) c.self.view_is

pub returns-clause-room : goal.returns-clause-room
returns-clause-room g c =
    let same = c.grow.ensures.same c.self.inside.map.versions (length c.self.inside.map.arena.records + c.self.inside.promised) in
    both_ok c.grow.result c.grow.ensures.answer c.grow.ensures.room (λ answer room. record {
      answer = answer;
      room = subst (λ (t : Task). IsRoomFor t c.grow.new.self) (sym (ap (λ (s : State). task_at s c.args.worker) same)) room;
    })
