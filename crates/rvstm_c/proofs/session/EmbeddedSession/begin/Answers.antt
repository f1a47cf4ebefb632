use Rattle.std.proofs.Common.{refl, sym, ◌∙◌}
use Rattle.session_requests.specs.Requests.{Begin}
use Rattle.rvstm_c.proofs.Answers.{begun}
use Rattle.rvstm_c.proofs.session.EmbeddedSession.begin.Goals as goal

pub returns : goal.returns
returns c =
    let done = c.keep.ensures c.args.self.now (Begin c.args.height c.in-Some.digest c.args.bytes.now) refl (c.take_begin-answer.ensures c.args.self.now.settings) in
    begun c.args.height c.args.digest.now c.args.bytes.now c.in-Some.digest c.args.self.now c.keep.result c.keep.new.self (sym c.is_high.ensures ∙ c.if-is_high.false) (sym c.is_long.ensures ∙ c.if-is_long.false) (sym c.digest_of.ensures ∙ c.in-Some.is) done
