use Rattle.std.proofs.Common.{refl, sym}
use Rattle.rvstm_c.proofs.Answers.{whole_turn}
use Rattle.rvstm_c.proofs.session.EmbeddedSession.keep.Goals as goal

pub returns : goal.returns
returns c before ask same turned =
    let whole = whole_turn before.settings before.state c.args.self.now.state ask c.args.answer c.made_whole-whole.result turned c.made_whole-whole.ensures.same in
    (c.made_whole-whole.result, refl, whole, c.status_of.ensures, sym same)
