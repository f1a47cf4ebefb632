use Rattle.std.proofs.Common.{refl, inl, inr}
use Rattle.std.proofs.lemmas.Result.{IfErr-weaker}
use Rattle.engines.proofs.debug.debug_block_to.Goals as goal

-- a refusal before the session
pub returns-in-Err-replay_of-clause-refused : goal.returns-in-Err-replay_of-clause-refused
returns-in-Err-replay_of-clause-refused g c = inr (c.in-Ok.job, c.in-Ok.ensures.ok, inl (refl, c.in-Err-replay_of.ensures.err))

-- and one of the session
pub returns-clause-refused : goal.returns-clause-refused
returns-clause-refused g c = IfErr-weaker c.debug_lines.result _ _ (λ _ told. inr (c.in-Ok.job, c.in-Ok.ensures.ok, inr (c.in-Ok-replay_of.replay, c.in-Ok-replay_of.ensures.ok, told))) c.debug_lines.ensures.refused
