use Rattle.std.proofs.Common.{◌≡◌, ◌∷◌, refl, sym, ap, subst}
use Rattle.session_requests.specs.Reading.{ask_of}
use Rattle.session_requests.specs.Requests.{Ask, Is, Last, request_in_bytes}
use Rattle.session_requests.specs.declared.request.Request.{Request}
use Rattle.session_serving.proofs.Comes.{comes_first, no_quit, quit_comes}
use Rattle.session_serving.proofs.Courses.{course_comes, last_no_quit}
use Rattle.session_serving.proofs.Storables.{asks_at, no_last}
use Rattle.session_serving.proofs.serving.take_request.Goals as goal

pub returns-in-Quit-clause-says : goal.returns-in-Quit-clause-says
returns-in-Quit-clause-says g c xs ys is = (quit_comes xs ys (subst (λ (r : Request). request_in_bytes xs ≡ Is (ask_of r) ys) c.in-Quit.is is), refl)

pub returns-in-Last-clause-says : goal.returns-in-Last-clause-says
returns-in-Last-clause-says g c xs ys is =
    let e : ask_of c.args.request ≡ Last = ap ask_of c.in-Last.is in (
      ask_of c.args.request,
      comes_first (ask_of c.args.request) xs ys (last_no_quit (ask_of c.args.request) e) is,
      (
        subst (λ (a : Ask). g.M.Session.answers c.args.settings c.args.session.now a (g.M.Session.text_of c.args.session.now c.last.result) c.args.session.now) (sym e) (c.last.ensures c.args.settings),
        λ rest. g.met.M.Session.settled c.args.settings c.args.session.now (ask_of c.args.request ∷ rest) c.requires.kept c.requires.sound,
      ),
    )

pub returns-in_default-clause-says : goal.returns-in_default-clause-says
returns-in_default-clause-says g c xs ys is =
    course_comes (g.M.Session.answers c.args.settings) (g.M.Session.shuts c.args.settings) (g.M.Session.leaves c.args.settings) g.M.Session.text_of
    c.args.session.now (ask_of c.args.request) c.take_pending.result c.take_pending.new.session xs ys
    (comes_first (ask_of c.args.request) xs ys (no_quit c.args.request c.in_default.not-Quit) is)
    (c.take_pending.ensures.says (ask_of c.args.request)
    (asks_at c.args.settings c.state.result.now (g.M.Session.state c.args.session.now) (ask_of c.args.request) c.pending_turn-pending.result c.state.ensures
    c.pending_turn-pending.ensures.pending c.pending_turn-pending.ensures.due (no_last c.args.request c.in_default.not-Last)))
