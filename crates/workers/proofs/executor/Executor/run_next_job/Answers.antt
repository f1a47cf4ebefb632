use Rattle.std.proofs.Common.{rules}
use Rattle.workers.proofs.Chains.{refused_block}
use Rattle.workers.proofs.executor.Executor.run_next_job.Goals as goal

pub returns-in-Err-clause-answer : goal.returns-in-Err-clause-answer
returns-in-Err-clause-answer g c =
    let ran = c.run_on in
    refused_block c.args.job c.args.workers ran.result c.in-Err.fault c.in-Err.is (search rules) c.requires.0 c.requires.1 ran.ensures.bad_count.0 ran.ensures.full ran.ensures.limit ran.ensures.step_limit
