use Rattle.std.proofs.Common.{rules}
use Rattle.rv_names.proofs.Names.{now_at}
use Rattle.rv_names.proofs.registers.name_at.Goals as goal

pub returns : goal.returns
returns c = search (rules, now_at)
