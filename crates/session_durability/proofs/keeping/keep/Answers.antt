use Rattle.std.proofs.Common.{arith, inl, inr, refl, subst, ◌∙◌}
use Rattle.session_tree.proofs.Causes.{later_cause}
use Rattle.sqlite_trees.specs.View.{IsClean}
use Rattle.session_states.specs.States.{file_state}
use Rattle.session_turns.specs.Pending.{IsPendingMade}
use Rattle.session_turns.specs.declared.pending.Pending.{Pending}
use Rattle.session_turns.specs.declared.state.State.{State}
use Rattle.session_durability.proofs.Keeps.{kept_again, kept_next, kept_still, lasts_on, lasts_quiet, may_leave, next_is}
use Rattle.session_durability.specs.Keeping.{IsFoundBehind}
use Rattle.session_durability.proofs.keeping.keep.Goals as goal

pub returns-in-Err : goal.returns-in-Err
returns-in-Err g c = record {
  ok = tt;
  next = tt;
  same = (refl, refl);
  room = tt;
  cause = c.in-Err.ensures.cause;
  kept = kept_still c.args.settings c.args.session.now.state c.args.session.now.found (g.S.Store.view c.args.session.now.file) (g.S.Store.view c.stage.new.file) c.in-Err.ensures.err c.requires.kept;
  sound = tt;
  crash = λ db left. inl (c.stage.ensures.quiet.outcomes db left);
  lasts = lasts_quiet g.S.Store c.args.session.now.file c.stage.new.file c.stage.ensures.quiet;
}

pub returns-in-Err-make_ready : goal.returns-in-Err-make_ready
returns-in-Err-make_ready g c = rw c.in-Err-make_ready.ensures.err (record {
  ok = tt;
  next = tt;
  same = (refl, refl);
  room = c.in-Err-make_ready.ensures.failure;
  cause = λ clean. tt;
  kept = kept_again c.args.settings c.args.session.now.state c.args.session.now.found (g.S.Store.view c.args.session.now.file) c.args.pending (g.S.Store.view c.stage.new.file) (g.S.Store.view c.rollback.new.self)
      c.in-Ok.ensures.ok c.rollback.ensures.back c.requires.kept;
  sound = tt;
  crash = λ db left. inl (c.stage.ensures.quiet.outcomes db (c.rollback.ensures.quiet.outcomes db left));
  lasts = lasts_on g.S.Store c.args.session.now.file c.stage.new.file c.rollback.new.self (lasts_quiet g.S.Store _ _ c.stage.ensures.quiet) (lasts_quiet g.S.Store _ _ c.rollback.ensures.quiet);
})

pub returns-in-Err-commit : goal.returns-in-Err-commit
returns-in-Err-commit g c =
    let v = g.S.Store.view in
    rw (c.give_back.ensures c.in-Ok-make_ready.ensures.ready ∙ c.in-Ok-make_ready.ensures.before) (record {
      ok = tt;
      next = tt;
      same = (refl, refl);
      room = tt;
      cause = λ clean.
          let mid : IsClean (v c.stage.new.file) = omega (arith, c.commit.ensures.lasts.clean, clean) in
          later_cause (v c.args.session.now.file) (v c.stage.new.file) _ _ _ ⊥ _ c.in-Err-commit.error c.stage.ensures.quiet.counts (c.in-Ok.ensures.still mid) (λ none. absurd none) (c.in-Err-commit.ensures.fails.cause clean);
      kept = kept_again c.args.settings c.args.session.now.state c.args.session.now.found (v c.args.session.now.file) c.args.pending (v c.stage.new.file) (v c.commit.new.self)
          c.in-Ok.ensures.ok c.in-Err-commit.ensures.err c.requires.kept;
      sound = tt;
      crash = λ db left. may_leave c.args.settings c.args.session.now.state c.args.session.now.found (v c.args.session.now.file) c.args.pending (v c.stage.new.file) db (g.S.Store.recovers c.args.session.now.file db)
          c.in-Ok.ensures.ok c.requires.kept
          (λ kept next staged. elim (c.commit.ensures.crash kept next staged db left) [ inl now ↦ inl now | inr mid ↦ inr (c.stage.ensures.quiet.outcomes db mid) ]);
      lasts = lasts_on g.S.Store c.args.session.now.file c.stage.new.file c.commit.new.self (lasts_quiet g.S.Store _ _ c.stage.ensures.quiet) c.commit.ensures.lasts;
    })

pub returns : goal.returns
returns g c =
    let v = g.S.Store.view in
    let s = c.args.session.now.state in
    let made : IsPendingMade s c.args.pending c.make.result c.make.new.state =
    subst (λ (p : Pending). IsPendingMade s p c.make.result c.make.new.state) c.in-Ok-make_ready.ensures.pending
    (subst (λ (t : State). IsPendingMade t c.in-Ok-make_ready.ready.pending c.make.result c.make.new.state) c.in-Ok-make_ready.ensures.before c.make.ensures) in
    let found : IsFoundBehind c.args.pending c.args.session.now.found c.drop_found.new.found =
    subst (λ (p : Pending). IsFoundBehind p c.args.session.now.found c.drop_found.new.found) c.in-Ok-make_ready.ensures.pending c.drop_found.ensures in
    let next = next_is s c.make.new.state c.args.session.now.found c.drop_found.new.found c.args.pending c.make.result made found in record {
      ok = made;
      next = next;
      same = tt;
      room = tt;
      cause = λ clean. tt;
      kept = kept_next c.args.settings c.args.session.now.state c.args.session.now.found (v c.args.session.now.file) c.args.pending (v c.stage.new.file) (v c.commit.new.self)
          (file_state c.make.new.state c.drop_found.new.found) c.in-Ok.ensures.ok c.in-Ok-commit.ensures.ok next c.requires.kept;
      sound = c.in-Ok-commit.ensures.sound;
      crash = λ db left. may_leave c.args.settings c.args.session.now.state c.args.session.now.found (v c.args.session.now.file) c.args.pending (v c.stage.new.file) db (g.S.Store.recovers c.args.session.now.file db)
          c.in-Ok.ensures.ok c.requires.kept
          (λ kept next staged. elim (c.commit.ensures.crash kept next staged db left) [ inl now ↦ inl now | inr mid ↦ inr (c.stage.ensures.quiet.outcomes db mid) ]);
      lasts = lasts_on g.S.Store c.args.session.now.file c.stage.new.file c.commit.new.self (lasts_quiet g.S.Store _ _ c.stage.ensures.quiet) c.commit.ensures.lasts;
    }
