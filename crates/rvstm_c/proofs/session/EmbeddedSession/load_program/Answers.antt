use Rattle.std.proofs.Common.{refl, sym, ◌∙◌, nat_lt, length}
use Rattle.rvstm_c.specs.Settings.{most_number}
use Rattle.session_requests.specs.Requests.{Program}
use Rattle.rvstm_c.proofs.Answers.{asked}
use Rattle.rvstm_c.proofs.session.EmbeddedSession.load_program.Goals as goal

pub returns : goal.returns
returns c =
    let done = c.keep.ensures c.args.self.now (Program c.args.file.now) refl (c.take_program-answer.ensures c.args.self.now.settings) in
    asked (nat_lt most_number (length c.args.file.now)) (Program c.args.file.now) c.args.self.now c.keep.result c.keep.new.self (sym c.is_long.ensures ∙ c.if-is_long.false) done
