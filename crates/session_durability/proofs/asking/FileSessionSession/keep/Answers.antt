use Rattle.std.proofs.Common.{Result, Ok, Err, IfErr, IfOk, inl, inr, arith}
use Rattle.session_requests.specs.Requests.{Ask}
use Rattle.session_serving.specs.Asking.{AsksPending}
use Rattle.session_states.specs.declared.fault.StoreFault.{StoreFault}
use Rattle.sqlite_trees.specs.View.{IsClean}
use Rattle.sqlite_trees.specs.declared.store.Store.{Ghosts}
use Rattle.session_turns.specs.declared.pending.Pending.{Pending}
use Rattle.session_turns.specs.declared.settings.Settings.{Settings}
use Rattle.session_durability.specs.Durable.{IsFileAnswer, IsShutBy}
use Rattle.session_durability.specs.Keeping.{IsDoneIn, file_moment_of, reply_text, state_kept}
use Rattle.session_durability.specs.Settled.{leaves_kept}
use Rattle.session_durability.specs.declared.reply.FileReply.{FileReply}
use Rattle.session_durability.specs.declared.session.FileSession.{FileSession}
use Rattle.session_durability.proofs.asking.FileSessionSession.keep.Goals as goal

module _ {S : Type 0} (g : Ghosts S) (settings : Settings) (p : Pending) (old new : FileSession S) where
  abbrev Says : Result FileReply StoreFault → Type 0
  Says r = (ask : Ask) → AsksPending settings old.state ask p → IsDoneIn g settings old ask r new

  ok_of : (r : Result FileReply StoreFault) → Says r → IfOk r (λ reply. (ask : Ask) → AsksPending settings old.state ask p → IsFileAnswer settings (file_moment_of g old) ask (reply_text new.state new.found reply) (file_moment_of g new))
  ok_of (Ok reply) says = λ ask asks. (says ask asks).0
  ok_of (Err fault) says = tt

  err_of : (r : Result FileReply StoreFault) → Says r → IfErr r (λ fault. (ask : Ask) → AsksPending settings old.state ask p → IsShutBy settings (file_moment_of g old) ask fault (file_moment_of g new))
  err_of (Ok reply) says = tt
  err_of (Err fault) says = λ ask asks. (says ask asks).0

pub returns-clause-ok : goal.returns-clause-ok
returns-clause-ok g c = ok_of g.S.Store c.args.settings c.args.pending c.args.self.now c.take_pending.new.session c.take_pending.result c.take_pending.ensures.says

pub returns-clause-err : goal.returns-clause-err
returns-clause-err g c = err_of g.S.Store c.args.settings c.args.pending c.args.self.now c.take_pending.new.session c.take_pending.result c.take_pending.ensures.says

pub returns-clause-crash : goal.returns-clause-crash
returns-clause-crash g c ask asks rest clean db left =
    let early : IsClean (g.S.Store.view c.args.self.now.file) = omega (arith, c.take_pending.ensures.clean, clean) in
    elim ((c.take_pending.ensures.says ask asks).1 db left) [
      | inl was ↦ inl (leaves_kept c.args.settings (g.S.Store.view c.args.self.now.file) (state_kept c.args.self.now) (g.S.Store.recovers c.args.self.now.file)
          (g.met.S.Store.broken_if_shut c.args.self.now.file) (g.met.S.Store.settled c.args.self.now.file) (c.requires.sound early) c.requires.kept db was)
      | inr next ↦ inr next
    ]
