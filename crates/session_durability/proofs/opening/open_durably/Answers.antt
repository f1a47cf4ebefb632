use Rattle.std.proofs.Common.{ap, arith, inl, inr, subst, sym}
use Rattle.std.proofs.lemmas.Result.{IfErr-weaker}
use Rattle.session_tree.proofs.Causes.{later_cause}
use Rattle.session_file.specs.Kept.{Kept}
use Rattle.session_file.specs.Opening.{kept_of}
use Rattle.session_file.specs.Staging.{IsKeeping}
use Rattle.session_states.proofs.Programs.{none_loaded}
use Rattle.session_states.specs.States.{AreLoadedAs}
use Rattle.std.specs.FinMap.{empty}
use Rattle.sqlite_trees.specs.View.{View, IsClean}
use Rattle.session_durability.proofs.Openings.{holds_found, loads_kept, loads_new, ok_both, unloaded}
use Rattle.session_durability.proofs.opening.open_durably.Goals as goal

pub open_session-requires-clause-empty : goal.open_session-requires-clause-empty
open_session-requires-clause-empty g c = subst (AreLoadedAs empty) (sym c.new.ensures) none_loaded

pub begin_new-requires-clause-nothing : goal.begin_new-requires-clause-nothing
begin_new-requires-clause-nothing g c =
    let (files, made, keeping) = c.in-Ok.ensures.ok in
    let is = (loads_new c.args.settings (kept_of files c.in-Ok.opened.1) c.in-Ok-load_state.loaded (c.in-Ok-load_state.ensures.ok files made) c.if-loaded.true).0 in
    subst (λ (k : Kept). IsKeeping (g.S.Store.view c.in-Ok.opened.0) k) is keeping

pub begin_new-requires-clause-new : goal.begin_new-requires-clause-new
begin_new-requires-clause-new g c =
    let (files, made, keeping) = c.in-Ok.ensures.ok in
    (loads_new c.args.settings (kept_of files c.in-Ok.opened.1) c.in-Ok-load_state.loaded (c.in-Ok-load_state.ensures.ok files made) c.if-loaded.true).1

pub returns-in-Err-load_state-clause-refused : goal.returns-in-Err-load_state-clause-refused
returns-in-Err-load_state-clause-refused g c clean =
    let v = g.S.Store.view in
    let (files, made, keeping) = c.in-Ok.ensures.ok in
    let now : IsClean (v c.in-Ok.opened.0) = subst (λ s. IsClean (v s)) c.into_store.ensures.store clean in
    let first : IsClean (v c.args.store) = omega (arith, now, c.in-Ok.ensures.read.quiet.clean) in
    rw c.from-in-Err-load_state.ensures (unloaded c.args.settings (v c.args.store) _ (kept_of files c.in-Ok.opened.1) c.in-Err-load_state.fault
    (holds_found (v c.args.store) (v c.in-Ok.opened.0) (kept_of files c.in-Ok.opened.1) (g.met.S.Store.broken_if_shut c.args.store) (c.requires.fresh first) (c.in-Ok.ensures.read.same now) keeping)
    (c.in-Err-load_state.ensures.err files made))

pub returns-then-loaded-clause-opened : goal.returns-then-loaded-clause-opened
returns-then-loaded-clause-opened g c =
    let v = g.S.Store.view in
    let (files, made, keeping) = c.in-Ok.ensures.ok in
    ok_both c.begin_new.result (λ s new later clean.
    let now : IsClean (v c.in-Ok.opened.0) = omega (arith, later, clean) in
    let first : IsClean (v c.args.store) = omega (arith, now, c.in-Ok.ensures.read.quiet.clean) in (
      kept_of files c.in-Ok.opened.1,
      holds_found (v c.args.store) (v c.in-Ok.opened.0) (kept_of files c.in-Ok.opened.1) (g.met.S.Store.broken_if_shut c.args.store) (c.requires.fresh first) (c.in-Ok.ensures.read.same now) keeping,
      inr ((loads_new c.args.settings (kept_of files c.in-Ok.opened.1) c.in-Ok-load_state.loaded (c.in-Ok-load_state.ensures.ok files made) c.if-loaded.true).0, new),
    ))
    c.begin_new.ensures.new c.begin_new.ensures.clean

pub returns-clause-kept : goal.returns-clause-kept
returns-clause-kept g c =
    let (files, made, keeping) = c.in-Ok.ensures.ok in
    (kept_of files c.in-Ok.opened.1, loads_kept c.args.settings (kept_of files c.in-Ok.opened.1) c.in-Ok-load_state.loaded (c.in-Ok-load_state.ensures.ok files made) c.if-loaded.false, keeping)

pub returns-clause-opened : goal.returns-clause-opened
returns-clause-opened g c now =
    let v = g.S.Store.view in
    let (files, made, keeping) = c.in-Ok.ensures.ok in
    let first : IsClean (v c.args.store) = omega (arith, now, c.in-Ok.ensures.read.quiet.clean) in (
      kept_of files c.in-Ok.opened.1,
      holds_found (v c.args.store) (v c.in-Ok.opened.0) (kept_of files c.in-Ok.opened.1) (g.met.S.Store.broken_if_shut c.args.store) (c.requires.fresh first) (c.in-Ok.ensures.read.same now) keeping,
      inl (loads_kept c.args.settings (kept_of files c.in-Ok.opened.1) c.in-Ok-load_state.loaded (c.in-Ok-load_state.ensures.ok files made) c.if-loaded.false),
    )

pub returns-then-loaded-clause-refused : goal.returns-then-loaded-clause-refused
returns-then-loaded-clause-refused g c =
    let v = g.S.Store.view in
    IfErr-weaker c.begin_new.result _ _ (λ e (error, is, later, why) clean.
    let now : IsClean (v c.in-Ok.opened.0) = omega (arith, later, clean) in
    rw is (later_cause (v c.args.store) (v c.in-Ok.opened.0) _ _ _ _ _ error c.in-Ok.ensures.read.quiet.counts (ap (λ (w : View). w.is_broken) (c.in-Ok.ensures.read.same now)) (λ none. none) (why clean)))
    c.begin_new.ensures.refused
