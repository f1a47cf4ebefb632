use Rattle.std.proofs.Common.{inr}
use Rattle.std.proofs.lemmas.Result.{IfErr-weaker}
use Rattle.engines.proofs.seq.seq_to.Goals as goal

-- a refusal of the job
pub returns-clause-refused : goal.returns-clause-refused
returns-clause-refused g c = IfErr-weaker c.seq_job.result _ _ (λ _ told. inr (c.in_ok-job.job, c.in_ok-job.ensures.ok, told)) c.seq_job.ensures.refused
