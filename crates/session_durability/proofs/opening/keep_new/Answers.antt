use Rattle.std.proofs.Common.{arith, inl, inr, subst}
use Rattle.std.proofs.lemmas.Result.{IfErr-weaker, on_ok_weaker}
use Rattle.session_tree.proofs.Causes.{later_cause}
use Rattle.session_file.specs.Kept.{HoldsIn}
use Rattle.session_file.specs.Staging.{IsKeeping}
use Rattle.session_file.specs.declared.rows.SessionRow.{SessionRow}
use Rattle.session_states.specs.States.{nothing_kept}
use Rattle.sqlite_trees.specs.View.{IsClean}
use Rattle.session_durability.proofs.Keeps.{lasts_on, lasts_quiet}
use Rattle.session_durability.proofs.opening.keep_new.Goals as goal
use Rattle.std.specs.Prelude.{Some}

pub returns-clause-ok : goal.returns-clause-ok
returns-clause-ok g c = on_ok_weaker c.commit.result (λ commits is.
    subst (λ (r : SessionRow). IsKeeping (g.S.Store.view c.commit.new.self) (record nothing_kept { session = Some r })) c.row_of.ensures (commits nothing_kept _ (c.in_ok-stage_session.ensures.ok nothing_kept nothing_kept is)))
    c.commit.ensures.ok

pub returns-clause-crash : goal.returns-clause-crash
returns-clause-crash g c is db left = elim (c.commit.ensures.crash nothing_kept _ (c.in_ok-stage_session.ensures.ok nothing_kept nothing_kept is) db left) [
  | inl now ↦ inr (subst (λ (r : SessionRow). HoldsIn db (record nothing_kept { session = Some r })) c.row_of.ensures now)
  | inr mid ↦ inl (c.stage_session.ensures.quiet.outcomes db mid)
]

pub returns-clause-fails : goal.returns-clause-fails
returns-clause-fails g c =
    let v = g.S.Store.view in record {
      cause = λ clean.
          let mid : IsClean (v c.stage_session.new.self) = omega (arith, c.commit.ensures.lasts.clean, clean) in
          IfErr-weaker c.commit.result _ _ (λ e why. later_cause (v c.args.file.now) (v c.stage_session.new.self) _ _ _ ⊥ _ e c.stage_session.ensures.quiet.counts (c.in_ok-stage_session.ensures.still mid) (λ none. absurd none) why) (c.commit.ensures.fails.cause clean);
      told = c.commit.ensures.fails.told;
    }

pub returns-in_err-stage_session-clause-lasts : goal.returns-in_err-stage_session-clause-lasts
returns-in_err-stage_session-clause-lasts g c = lasts_quiet g.S.Store c.args.file.now c.stage_session.new.self c.stage_session.ensures.quiet

pub returns-clause-lasts : goal.returns-clause-lasts
returns-clause-lasts g c = lasts_on g.S.Store c.args.file.now c.stage_session.new.self c.commit.new.self (lasts_quiet g.S.Store c.args.file.now c.stage_session.new.self c.stage_session.ensures.quiet) c.commit.ensures.lasts
