use Rattle.std.proofs.Common.{◌≡◌, arith}
use Rattle.session_serving.proofs.Serves.{serve_all, serve_broken, serve_cut, serve_end, serve_next, serve_shut, serve_start, serve_unread}
use Rattle.session_serving.proofs.Stops.{stopped_between, stopped_broken, stopped_cut, stopped_end, stopped_shut}
use Rattle.session_serving.proofs.serving.serve.Goals as goal

pub loop-answers-init : goal.loop-answers-init
loop-answers-init g c = record {
  flushed = λ some. absurd (omega (arith, some));
  same = λ h. h;
  no_worse = λ fault h. h;
  kept = c.requires.kept;
  sound = c.requires.sound;
  serves = serve_start (g.M.Session.answers c.args.settings) c.args.session.now (g.W.Write.contents c.args.out.now) (g.R.Read.remaining c.args.input.now);
}

pub loop-answers-preserved : goal.loop-answers-preserved
loop-answers-preserved g c = record {
  flushed = λ _. c.in-Ok-write.ensures.flushed;
  same = λ h. c.loop-answers.invariant.same (c.in-Ok.ensures.same h);
  no_worse = λ fault h. c.loop-answers.invariant.no_worse fault (c.write.ensures.no_worse fault h);
  kept = c.take_asked.ensures.kept;
  sound = c.in-Answers.ensures.sound;
  serves = serve_next (g.M.Session.answers c.args.settings) c.args.settings.frame_limit c.in-Ok.asked c.args.session.now c.loop-answers.session c.take_asked.new.session (g.M.Session.text_of c.take_asked.new.session c.in-Answers.reply)
      (g.W.Write.contents c.args.out.now) (g.W.Write.contents c.loop-answers.out) (g.W.Write.contents c.write.new.out) c.loop-answers.answers
      (g.R.Read.remaining c.args.input.now) (g.R.Read.remaining c.loop-answers.input) (g.R.Read.remaining c.read_after_flush.new.input) c.loop-answers.invariant.serves c.in-Ok.ensures.says
      (λ xs ys told. let (ask, comes, (is, crash)) = c.in-Answers.ensures.says xs ys told in (ask, comes, is)) c.in-Ok-write.ensures.says;
}

pub returns-in-Err-clause-err : goal.returns-in-Err-clause-err
returns-in-Err-clause-err g c =
    serve_unread (g.M.Session.answers c.args.settings) (g.R.BufferedSource.may_fail c.args.input.now) c.args.session.now c.loop-answers.session (g.W.Write.contents c.args.out.now) (g.W.Write.contents c.loop-answers.out) c.loop-answers.answers
    (g.R.Read.remaining c.args.input.now) (g.R.Read.remaining c.loop-answers.input) c.loop-answers.invariant.serves (c.loop-answers.invariant.same c.in-Err.ensures.fails)

pub returns-in-Err-clause-stopped : goal.returns-in-Err-clause-stopped
returns-in-Err-clause-stopped g c =
    stopped_between (g.M.Session.answers c.args.settings) (g.M.Session.leaves c.args.settings) c.args.session.now c.loop-answers.session (g.W.Write.contents c.args.out.now) (g.W.Write.contents c.loop-answers.out) c.loop-answers.answers
    (g.R.Read.remaining c.args.input.now) (g.R.Read.remaining c.loop-answers.input)
    (λ rest. g.met.M.Session.settled c.args.settings c.loop-answers.session rest c.loop-answers.invariant.kept c.loop-answers.invariant.sound) c.loop-answers.invariant.serves

pub returns-in-Ends-clause-ok : goal.returns-in-Ends-clause-ok
returns-in-Ends-clause-ok g c =
    serve_end (g.M.Session.answers c.args.settings) c.args.settings.frame_limit c.in-Ok.asked c.args.session.now c.loop-answers.session c.take_asked.new.session (g.W.Write.contents c.args.out.now) (g.W.Write.contents c.loop-answers.out) c.loop-answers.answers
    (g.R.Read.remaining c.args.input.now) (g.R.Read.remaining c.loop-answers.input) (g.R.Read.remaining c.read_after_flush.new.input) c.loop-answers.invariant.serves c.in-Ok.ensures.says c.in-Ends.ensures.says

pub returns-in-Ends-clause-stopped : goal.returns-in-Ends-clause-stopped
returns-in-Ends-clause-stopped g c =
    stopped_end (g.M.Session.answers c.args.settings) (g.M.Session.leaves c.args.settings) c.args.session.now c.loop-answers.session (g.W.Write.contents c.args.out.now) (g.W.Write.contents c.loop-answers.out) c.loop-answers.answers
    c.args.settings.frame_limit c.in-Ok.asked c.take_asked.new.session (g.R.Read.remaining c.args.input.now) (g.R.Read.remaining c.loop-answers.input) (g.R.Read.remaining c.read_after_flush.new.input)
    (λ rest. g.met.M.Session.settled c.args.settings c.loop-answers.session rest c.loop-answers.invariant.kept c.loop-answers.invariant.sound) c.loop-answers.invariant.serves c.in-Ok.ensures.says c.in-Ends.ensures.says

pub returns-in-Breaks-clause-err : goal.returns-in-Breaks-clause-err
returns-in-Breaks-clause-err g c =
    serve_broken (g.M.Session.answers c.args.settings) (g.R.BufferedSource.may_fail c.args.input.now) (g.M.Session.shuts c.args.settings) c.args.settings.frame_limit c.in-Ok.asked c.in-Breaks.fault c.answer_broken.result c.args.session.now c.loop-answers.session c.take_asked.new.session
    (g.W.Write.contents c.args.out.now) (g.W.Write.contents c.loop-answers.out) (g.W.Write.contents c.answer_broken.new.out) c.loop-answers.answers
    (g.R.Read.remaining c.args.input.now) (g.R.Read.remaining c.loop-answers.input) (g.R.Read.remaining c.read_after_flush.new.input) c.loop-answers.invariant.serves c.in-Ok.ensures.says c.in-Breaks.ensures.says c.answer_broken.ensures.told

pub returns-in-Breaks-clause-stopped : goal.returns-in-Breaks-clause-stopped
returns-in-Breaks-clause-stopped g c =
    stopped_broken (g.M.Session.answers c.args.settings) (g.M.Session.leaves c.args.settings) c.args.session.now c.loop-answers.session (g.W.Write.contents c.args.out.now) (g.W.Write.contents c.loop-answers.out) c.loop-answers.answers
    c.args.settings.frame_limit c.in-Ok.asked c.in-Breaks.fault c.take_asked.new.session c.answer_broken.result (g.W.Write.contents c.answer_broken.new.out)
    (g.R.Read.remaining c.args.input.now) (g.R.Read.remaining c.loop-answers.input) (g.R.Read.remaining c.read_after_flush.new.input)
    (λ rest. g.met.M.Session.settled c.args.settings c.loop-answers.session rest c.loop-answers.invariant.kept c.loop-answers.invariant.sound) c.loop-answers.invariant.serves c.in-Ok.ensures.says c.in-Breaks.ensures.says c.answer_broken.ensures.told

pub returns-in-Shuts-clause-err : goal.returns-in-Shuts-clause-err
returns-in-Shuts-clause-err g c =
    serve_shut (g.M.Session.answers c.args.settings) (g.M.Session.shuts c.args.settings) c.args.settings.frame_limit c.in-Ok.asked c.in-Shuts.fault c.args.session.now c.loop-answers.session c.take_asked.new.session
    (g.W.Write.contents c.args.out.now) (g.W.Write.contents c.loop-answers.out) c.loop-answers.answers
    (g.R.Read.remaining c.args.input.now) (g.R.Read.remaining c.loop-answers.input) (g.R.Read.remaining c.read_after_flush.new.input) c.loop-answers.invariant.serves c.in-Ok.ensures.says
    (λ xs ys told. let (ask, comes, (is, crash)) = c.in-Shuts.ensures.says xs ys told in (ask, comes, is))

pub returns-in-Shuts-clause-stopped : goal.returns-in-Shuts-clause-stopped
returns-in-Shuts-clause-stopped g c =
    stopped_shut (g.M.Session.answers c.args.settings) (g.M.Session.leaves c.args.settings) c.args.session.now c.loop-answers.session (g.W.Write.contents c.args.out.now) (g.W.Write.contents c.loop-answers.out) c.loop-answers.answers
    c.args.settings.frame_limit c.in-Ok.asked c.take_asked.new.session (g.R.Read.remaining c.args.input.now) (g.R.Read.remaining c.loop-answers.input) (g.R.Read.remaining c.read_after_flush.new.input)
    c.loop-answers.invariant.serves c.in-Ok.ensures.says (λ xs ys told. let (ask, comes, (is, crash)) = c.in-Shuts.ensures.says xs ys told in (ask, comes, crash))

pub returns-in-Err-write-clause-err : goal.returns-in-Err-write-clause-err
returns-in-Err-write-clause-err g c =
    serve_cut (g.M.Session.answers c.args.settings) c.args.settings.frame_limit c.in-Ok.asked c.args.session.now c.loop-answers.session c.take_asked.new.session (g.M.Session.text_of c.take_asked.new.session c.in-Answers.reply)
    (g.W.Write.contents c.args.out.now) (g.W.Write.contents c.loop-answers.out) (g.W.Write.contents c.write.new.out) c.loop-answers.answers
    (g.R.Read.remaining c.args.input.now) (g.R.Read.remaining c.loop-answers.input) (g.R.Read.remaining c.read_after_flush.new.input) c.loop-answers.invariant.serves c.in-Ok.ensures.says
    (λ xs ys told. let (ask, comes, (is, crash)) = c.in-Answers.ensures.says xs ys told in (ask, comes, is)) c.in-Err-write.ensures.says

pub returns-in-Err-write-clause-stopped : goal.returns-in-Err-write-clause-stopped
returns-in-Err-write-clause-stopped g c =
    stopped_cut (g.M.Session.answers c.args.settings) (g.M.Session.leaves c.args.settings) c.args.session.now c.loop-answers.session (g.W.Write.contents c.args.out.now) (g.W.Write.contents c.loop-answers.out) c.loop-answers.answers
    c.args.settings.frame_limit c.in-Ok.asked c.take_asked.new.session (g.M.Session.text_of c.take_asked.new.session c.in-Answers.reply) (g.W.Write.contents c.write.new.out)
    (g.R.Read.remaining c.args.input.now) (g.R.Read.remaining c.loop-answers.input) (g.R.Read.remaining c.read_after_flush.new.input)
    (λ rest. g.met.M.Session.settled c.args.settings c.take_asked.new.session rest c.take_asked.ensures.kept c.in-Answers.ensures.sound) c.loop-answers.invariant.serves c.in-Ok.ensures.says
    (λ xs ys told. let (ask, comes, (is, crash)) = c.in-Answers.ensures.says xs ys told in (ask, comes, is, crash)) c.in-Err-write.ensures.says

pub returns-clause-err : goal.returns-clause-err
returns-clause-err g c =
    let all : c.loop-answers.answers ≡ 18446744073709551615 = omega arith in
    serve_all (g.M.Session.answers c.args.settings) (g.R.BufferedSource.may_fail c.args.input.now) c.args.session.now c.loop-answers.session (g.W.Write.contents c.args.out.now) (g.W.Write.contents c.loop-answers.out) c.loop-answers.answers
    (g.R.Read.remaining c.args.input.now) (g.R.Read.remaining c.loop-answers.input) c.loop-answers.invariant.serves all

pub returns-clause-stopped : goal.returns-clause-stopped
returns-clause-stopped g c =
    stopped_between (g.M.Session.answers c.args.settings) (g.M.Session.leaves c.args.settings) c.args.session.now c.loop-answers.session (g.W.Write.contents c.args.out.now) (g.W.Write.contents c.loop-answers.out) c.loop-answers.answers
    (g.R.Read.remaining c.args.input.now) (g.R.Read.remaining c.loop-answers.input)
    (λ rest. g.met.M.Session.settled c.args.settings c.loop-answers.session rest c.loop-answers.invariant.kept c.loop-answers.invariant.sound) c.loop-answers.invariant.serves
