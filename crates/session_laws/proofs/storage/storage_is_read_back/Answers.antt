use Rattle.session_laws.proofs.Between.{read_in_blocks}
use Rattle.session_laws.proofs.Chains.{read_back}
use Rattle.session_laws.proofs.storage.storage_is_read_back.Goals as goal

pub returns : goal.returns
returns c = record { alone = read_back; between = read_in_blocks }
