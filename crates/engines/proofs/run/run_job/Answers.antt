use Rattle.std.proofs.Common.{◌∙◌, ap, length, map}
use Rattle.engines.proofs.Shares.{counts_of_run}
use Rattle.engines.proofs.run.run_job.Goals as goal

-- the counts are those of the shares
pub returns-clause-history : goal.returns-clause-history
returns-clause-history g c =
    counts_of_run c.args.job c.args.workers c.run_on.new.self.shares.items _ c.in_ok-receipts.ensures.history
    (ap length c.calls-calls.ensures.value) (c.in-Ok.ensures ∙ ap (map (λ share. share.counts)) c.shares.ensures)
