use Rattle.std.proofs.Common.{refl, sym, subst}
use Rattle.std.proofs.lemmas.Result.{on_err_weaker, on_ok_weaker}
use Rattle.session_file.proofs.Readings.{quiet_same}
use Rattle.session_turns.specs.declared.pending.Pending.{Pending}
use Rattle.session_serving.specs.Asking.{IsStorable}
use Rattle.session_durability.specs.Keeping.{StagesPending}
use Rattle.session_durability.proofs.Stagings.{nothing_pending, program_pending, short_program, spared, staged_as, staged_forget}
use Rattle.session_durability.proofs.staging.stage.Goals as goal

pub returns-in-Nothing : goal.returns-in-Nothing
returns-in-Nothing g c = record {
  ok = nothing_pending c.args.settings c.args.state.now (g.S.Store.view c.args.file.now) c.args.pending.now _ c.in-Nothing.is;
  still = λ clean. refl;
  err = tt;
  cause = λ clean. tt;
  told = tt;
  quiet = quiet_same g.S.Store c.args.file.now;
}

pub returns-in-Program : goal.returns-in-Program
returns-in-Program g c =
    let (hash, loads, short) = subst (λ (p : Pending). IsStorable c.args.body.now p) c.in-Program.is c.requires in
    staged_as g.S.Store c.stage_program.result
    (on_ok_weaker c.stage_program.result (program_pending c.args.settings c.args.state.now (g.S.Store.view c.args.file.now) c.args.pending.now _ c.args.body.now _ _ (g.S.Store.view c.stage_program.new.self) c.in-Program.is c.requires) c.stage_program.ensures.ok)
    (on_err_weaker c.stage_program.result (spared c.args.settings c.args.state.now (g.S.Store.view c.args.file.now) (g.S.Store.view c.stage_program.new.self)) c.stage_program.ensures.err)
    (λ long. absurd (short_program _ c.args.body.now hash short long)) c.stage_program.ensures

pub returns-in-Forget : goal.returns-in-Forget
returns-in-Forget g c =
    subst (λ (p : Pending). StagesPending g.S.Store c.args.settings c.args.state.now p c.args.file.now c.stage_no_program.new.self c.stage_no_program.result) (sym c.in-Forget.is)
    (staged_as g.S.Store c.stage_no_program.result
    (on_ok_weaker c.stage_no_program.result (staged_forget c.args.settings c.args.state.now (g.S.Store.view c.args.file.now) _ (g.S.Store.view c.stage_no_program.new.self)) c.stage_no_program.ensures.ok)
    (on_err_weaker c.stage_no_program.result (spared c.args.settings c.args.state.now (g.S.Store.view c.args.file.now) (g.S.Store.view c.stage_no_program.new.self)) c.stage_no_program.ensures.err)
    (λ none. absurd none) c.stage_no_program.ensures)

pub returns-in-Frame : goal.returns-in-Frame
returns-in-Frame g c = subst (λ (p : Pending). StagesPending g.S.Store c.args.settings c.args.state.now p c.args.file.now c.stage_frame.new.file c.stage_frame.result) (sym c.in-Frame.is) c.stage_frame.ensures

pub returns-in-Begin : goal.returns-in-Begin
returns-in-Begin g c = subst (λ (p : Pending). StagesPending g.S.Store c.args.settings c.args.state.now p c.args.file.now c.stage_begin.new.file c.stage_begin.result) (sym c.in-Begin.is) c.stage_begin.ensures
