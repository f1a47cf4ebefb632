use Rattle.conflicts.proofs.LeftOutReads.{same_ends, same_keys_read}
use Rattle.conflicts.proofs.laws.only_keys_read_matter.Goals as goal

pub returns-clause-receipt : goal.returns-clause-receipt
returns-clause-receipt c = λ call one other h. same_ends one other call h

pub returns-clause-keys : goal.returns-clause-keys
returns-clause-keys c = λ call one other h. same_keys_read one other call h
