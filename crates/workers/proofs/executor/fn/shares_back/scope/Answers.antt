use Rattle.std.proofs.Common.{length}
use Rattle.workers.proofs.GivenBack.{all_given}
use Rattle.workers.proofs.executor.fn.shares_back.scope.Goals as goal

pub returns : goal.returns
returns g c =
    all_given (g.J.JobName.work_limit) (length c.captures.shares.items) c.in_ok-threads.threads.items c.join_threads.result c.in_ok-threads.ensures.promises c.in_ok-threads.ensures.all c.join_threads.ensures
