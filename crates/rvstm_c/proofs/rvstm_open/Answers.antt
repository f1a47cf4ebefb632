use Rattle.std.proofs.Common.{Option, Some, None, subst}
use Rattle.session_turns.specs.declared.settings.Settings.{Settings}
use Rattle.rvstm_c.specs.Embedding.{IsOpened}
use Rattle.rvstm_c.specs.Settings.{usual_settings}
use Rattle.rvstm_c.specs.declared.session.EmbeddedSession.{EmbeddedSession}
use Rattle.rvstm_c.proofs.rvstm_open.Goals as goal

pub returns-in-None : goal.returns-in-None
returns-in-None c =
    subst (λ (had : Option EmbeddedSession). IsOpened (Some usual_settings) had c.open_new.result c.open_new.new.handle.value) c.in-None.ensures.taken
    (subst (λ (settings : Settings). IsOpened (Some settings) None c.open_new.result c.open_new.new.handle.value) c.new.ensures c.open_new.ensures)
