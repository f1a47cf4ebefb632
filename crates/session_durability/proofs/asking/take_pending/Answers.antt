use Rattle.std.proofs.Common.{◌≡◌, false, OnOk, Result, inl, sym, subst, ◌∙◌, arith}
use Rattle.std.specs.Option.{option_map}
use Rattle.session_file.specs.Opening.{answer_parts}
use Rattle.session_states.specs.States.{last_of}
use Rattle.session_states.specs.declared.fault.StoreFault.{StoreFault}
use Rattle.sqlite_trees.specs.View.{IsClean}
use Rattle.session_turns.specs.Pending.{IsPendingDue, IsPending}
use Rattle.session_turns.specs.declared.pending.Pending.{Pending}
use Rattle.session_durability.specs.Keeping.{IsDoneIn, IsUnbroken, state_kept}
use Rattle.session_durability.specs.declared.reply.FileReply.{FileReply}
use Rattle.session_durability.proofs.FileTurns.{stays_at, told_answer}
use Rattle.session_durability.proofs.Keeps.{shut_failed}
use Rattle.session_durability.proofs.Pendings.{change_of, changed, kept_answer, made_reply, not_kept}
use Rattle.session_durability.proofs.Replies.{open_still}
use Rattle.session_durability.proofs.asking.take_pending.Goals as goal

pub returns-in-Nothing-clause-says : goal.returns-in-Nothing-clause-says
returns-in-Nothing-clause-says g c ask asks = (
  stays_at c.args.settings (state_kept c.args.session.now) ask _ (g.S.Store.view c.args.session.now.file) (g.S.Store.faults c.args.session.now.file)
      (told_answer c.args.settings c.args.session.now.state (last_of c.args.session.now.state.last (option_map answer_parts c.args.session.now.found)) ask c.in-Nothing.answer
      (subst (λ (p : Pending). IsPending c.args.settings c.args.session.now.state ask p) c.in-Nothing.is asks.pending)
      (subst (λ (p : Pending). IsPendingDue c.args.session.now.state ask p) c.in-Nothing.is asks.due) asks.other),
  λ db left. inl left,
)

pub returns-in-Ok-clause-says : goal.returns-in-Ok-clause-says
returns-in-Ok-clause-says g c ask asks =
    kept_answer c.args.settings c.args.session.now.state c.args.session.now.found ask c.args.pending (g.S.Store.recovers c.args.session.now.file) (g.S.Store.recovers c.keep.new.session.file)
    (g.S.Store.view c.args.session.now.file) (g.S.Store.view c.keep.new.session.file) (g.S.Store.faults c.args.session.now.file) (g.S.Store.faults c.keep.new.session.file)
    c.in-Ok.answer c.keep.new.session.state (state_kept c.keep.new.session)
    (changed c.args.settings c.args.session.now.state ask c.args.pending (last_of c.args.session.now.state.last (option_map answer_parts c.args.session.now.found)) asks.pending asks.due c.in_default.not-Nothing)
    (record { faults = c.keep.ensures.lasts.counts; clean = c.keep.ensures.lasts.clean })
    (made_reply c.args.session.now.state c.args.pending c.in-Ok.answer c.keep.new.session.state c.in_default.not-Nothing c.in-Ok.ensures.ok)
    c.in-Ok.ensures.next c.keep.ensures.crash

pub returns-in-Err-clause-says : goal.returns-in-Err-clause-says
returns-in-Err-clause-says g c ask asks =
    let v = g.S.Store.view in
    let sound : IsClean (v c.keep.new.session.file) → (v c.args.session.now.file).is_broken ≡ false = λ clean. c.requires.sound (omega (arith, clean, c.keep.ensures.lasts.clean)) in
    subst (λ (reply : Result FileReply StoreFault). IsDoneIn g.S.Store c.args.settings c.args.session.now ask reply c.keep.new.session) (sym c.reply_of.ensures)
    (not_kept c.args.settings c.args.session.now.state c.args.session.now.found ask c.args.pending
    (g.S.Store.recovers c.args.session.now.file) (g.S.Store.recovers c.keep.new.session.file)
    (v c.args.session.now.file) (v c.keep.new.session.file) (g.S.Store.faults c.args.session.now.file) (g.S.Store.faults c.keep.new.session.file)
    c.keep.new.session.found c.keep.new.session.state c.is_shut.result c.in-Err.fault
    (change_of c.args.settings c.args.session.now.state ask c.args.pending asks.pending c.in_default.not-Nothing)
    (changed c.args.settings c.args.session.now.state ask c.args.pending (last_of c.args.session.now.state.last (option_map answer_parts c.args.session.now.found)) asks.pending asks.due c.in_default.not-Nothing)
    c.in-Err.ensures.room c.in-Err.ensures.same.0 c.in-Err.ensures.same.1 c.keep.ensures.crash
    (record { faults = c.keep.ensures.lasts.counts; clean = c.keep.ensures.lasts.clean }) sound c.in-Err.ensures.cause
    (λ shut clean. shut_failed c.args.settings (v c.args.session.now.file) (v c.keep.new.session.file) _ (state_kept c.keep.new.session)
    (g.met.S.Store.broken_if_shut c.args.session.now.file) (sound clean) c.keep.ensures.kept (c.keep.ensures.lasts.closes clean) (sym (c.is_shut.ensures clean) ∙ shut)))

pub returns-in-Err-clause-sound : goal.returns-in-Err-clause-sound
returns-in-Err-clause-sound g c =
    subst (λ (reply : Result FileReply StoreFault). OnOk reply (IsUnbroken g.S.Store c.keep.new.session)) (sym c.reply_of.ensures)
    (open_still (g.S.Store.view c.keep.new.session.file) c.is_shut.result c.in-Err.fault c.is_shut.ensures)
