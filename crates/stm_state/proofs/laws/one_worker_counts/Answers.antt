use Rattle.stm_state.proofs.OneWorkerRounds.{counts_alone}
use Rattle.stm_state.proofs.laws.one_worker_counts.Goals as goal

pub returns : goal.returns
returns c = counts_alone c.args.job.now.block c.args.job.now.store c.calls.ensures.count
