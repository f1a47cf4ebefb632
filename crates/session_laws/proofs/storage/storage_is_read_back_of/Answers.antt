use Rattle.session_laws.proofs.Between.{read_in_blocks}
use Rattle.session_laws.proofs.Chains.{allowed, read_back}
use Rattle.session_laws.proofs.storage.storage_is_read_back_of.Goals as goal

pub returns : goal.returns
returns c =
    let store = c.args.store.now in
    record {
      short = λ k d b. (c.are_entries.ensures k d b).value_length;
      alone = λ rules short. read_back rules store (allowed rules store c.are_entries.ensures short);
      between = λ rules short. read_in_blocks rules store (allowed rules store c.are_entries.ensures short);
    }
