use Rattle.host_block.proofs.Hosts.{hosted_result}
use Rattle.host_block.proofs.laws.host_gets_calls_in_order.Goals as goal

pub returns : goal.returns
returns c = hosted_result
