use Rattle.std.proofs.Common.{refl, sym, ◌∙◌, nat_lt, length}
use Rattle.rvstm_c.specs.Settings.{most_number}
use Rattle.session_requests.specs.Requests.{Frame}
use Rattle.rvstm_c.proofs.Answers.{asked}
use Rattle.rvstm_c.proofs.session.EmbeddedSession.run_frame.Goals as goal

pub returns : goal.returns
returns c =
    let done = c.keep.ensures c.args.self.now (Frame c.args.bytes.now) refl c.take_frame-answer.ensures in
    asked (nat_lt most_number (length c.args.bytes.now)) (Frame c.args.bytes.now) c.args.self.now c.keep.result c.keep.new.self (sym c.is_long.ensures ∙ c.if-is_long.false) done
