use Rattle.never_stuck.proofs.Keyed.{keyed_lists_go_astray}
use Rattle.never_stuck.proofs.laws.keyed_lists_go_astray.Goals as goal

pub returns : goal.returns
returns c = keyed_lists_go_astray
