use Rattle.session_laws.proofs.Chains.{allowed}
use Rattle.session_laws.proofs.Dumps.{dump_read}
use Rattle.session_laws.proofs.dump.dump_is_read_back_of.Goals as goal

pub returns : goal.returns
returns c =
    let store = c.args.store.now in
    record {
      short = λ k d b. (c.are_entries.ensures k d b).value_length;
      read = λ rules short. dump_read rules store (allowed rules store c.are_entries.ensures short);
    }
