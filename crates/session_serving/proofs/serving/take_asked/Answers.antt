use Rattle.std.proofs.Common.{ℕ, List, Some, None, refl, sym, subst}
use Rattle.session_requests.specs.Reading.{ReadsRequest}
use Rattle.session_requests.specs.Requests.{with_body}
use Rattle.session_requests.specs.declared.request.Asked.{Asked}
use Rattle.session_serving.specs.Asking.{IsCourse}
use Rattle.session_serving.specs.declared.serving.Course.TheVariants.{Breaks, Ends}
use Rattle.session_turns.specs.declared.pending.Pending.TheVariants as pending
use Rattle.session_serving.proofs.Comes.{comes_first, no_quit_kept, no_quit_long, none_comes}
use Rattle.session_serving.proofs.Courses.{course_comes, no_last_kept, no_last_long}
use Rattle.session_serving.proofs.Storables.{asks_at, undone_due}
use Rattle.session_serving.proofs.serving.take_asked.Goals as goal

pub returns-in-TooLong-clause-says : goal.returns-in-TooLong-clause-says
returns-in-TooLong-clause-says g c =
    subst (λ (asked : Asked). (xs ys : List ℕ) → ReadsRequest c.args.settings.frame_limit asked xs ys
    → IsCourse (g.M.Session.answers c.args.settings) (g.M.Session.shuts c.args.settings) (g.M.Session.leaves c.args.settings) g.M.Session.text_of c.args.session.now c.take_pending.result c.take_pending.new.session xs ys) (sym c.in-TooLong.is)
    (λ xs ys ((bytes, is, size), long).
    course_comes (g.M.Session.answers c.args.settings) (g.M.Session.shuts c.args.settings) (g.M.Session.leaves c.args.settings) g.M.Session.text_of
    c.args.session.now (with_body c.in-TooLong.line bytes) c.take_pending.result c.take_pending.new.session xs ys
    (comes_first (with_body c.in-TooLong.line bytes) xs ys (no_quit_long c.args.settings.frame_limit c.in-TooLong.line bytes long) is)
    (c.take_pending.ensures.says (with_body c.in-TooLong.line bytes)
    (asks_at c.args.settings c.state.result.now (g.M.Session.state c.args.session.now) (with_body c.in-TooLong.line bytes) c.pending_long-pending.result c.state.ensures
    (c.pending_long-pending.ensures.pending c.args.settings bytes size long) (c.pending_long-pending.ensures.due bytes)
    (no_last_long c.args.settings.frame_limit c.in-TooLong.line bytes long))))

pub returns-in-Unkept-clause-says : goal.returns-in-Unkept-clause-says
returns-in-Unkept-clause-says g c =
    subst (λ (asked : Asked). (xs ys : List ℕ) → ReadsRequest c.args.settings.frame_limit asked xs ys
    → IsCourse (g.M.Session.answers c.args.settings) (g.M.Session.shuts c.args.settings) (g.M.Session.leaves c.args.settings) g.M.Session.text_of c.args.session.now c.take_pending-in-Unkept.result c.take_pending-in-Unkept.new.session xs ys) (sym c.in-Unkept.is)
    (λ xs ys ((bytes, is, size), fits, some).
    course_comes (g.M.Session.answers c.args.settings) (g.M.Session.shuts c.args.settings) (g.M.Session.leaves c.args.settings) g.M.Session.text_of
    c.args.session.now (with_body c.in-Unkept.line bytes) c.take_pending-in-Unkept.result c.take_pending-in-Unkept.new.session xs ys
    (comes_first (with_body c.in-Unkept.line bytes) xs ys (no_quit_kept c.in-Unkept.line bytes some) is)
    (c.take_pending-in-Unkept.ensures.says (with_body c.in-Unkept.line bytes)
    (asks_at c.args.settings c.state-in-Unkept.result.now (g.M.Session.state c.args.session.now) (with_body c.in-Unkept.line bytes) (pending.Nothing c.fail_unkept-answer.result) c.state-in-Unkept.ensures
    (c.fail_unkept-answer.ensures.turn c.args.settings bytes size fits some) (undone_due c.state-in-Unkept.result.now (with_body c.in-Unkept.line bytes) c.fail_unkept-answer.result c.fail_unkept-answer.ensures.undone)
    (no_last_kept c.in-Unkept.line bytes some))))

pub returns-in-Broken-clause-says : goal.returns-in-Broken-clause-says
returns-in-Broken-clause-says g c =
    subst (λ (asked : Asked). (xs ys : List ℕ) → ReadsRequest c.args.settings.frame_limit asked xs ys
    → IsCourse (g.M.Session.answers c.args.settings) (g.M.Session.shuts c.args.settings) (g.M.Session.leaves c.args.settings) g.M.Session.text_of c.args.session.now (Breaks c.in-Broken.fault) c.args.session.now xs ys) (sym c.in-Broken.is)
    (λ xs ys is. (none_comes xs (Some c.in-Broken.fault) is, refl))

pub returns-in-End-clause-says : goal.returns-in-End-clause-says
returns-in-End-clause-says g c =
    subst (λ (asked : Asked). (xs ys : List ℕ) → ReadsRequest c.args.settings.frame_limit asked xs ys
    → IsCourse (g.M.Session.answers c.args.settings) (g.M.Session.shuts c.args.settings) (g.M.Session.leaves c.args.settings) g.M.Session.text_of c.args.session.now Ends c.args.session.now xs ys) (sym c.in-End.is)
    (λ xs ys is. (none_comes xs None is, refl))
