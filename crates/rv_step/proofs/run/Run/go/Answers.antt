use Rattle.std.proofs.Common.{rules}
use Rattle.rv_step.proofs.Steps.{no_steps, more_steps}
use Rattle.rv_step.proofs.run.Run.go.Goals as goal

pub loop-self-init : goal.loop-self-init
loop-self-init c = record {
  call = search rules;
  answers = search rules;
  fewer = search rules;
  steps = no_steps _;
  stays = search rules;
}

pub loop-self-preserved : goal.loop-self-preserved
loop-self-preserved c = record {
  call = search rules;
  answers = search rules;
  fewer = search rules;
  steps = more_steps _ _ _ c.loop-self.invariant.steps c.in_ok-step_until_stop.ensures.steps;
  stays = search rules;
}

pub loop-self-smaller : goal.loop-self-smaller
loop-self-smaller c = c.in_ok-step_until_stop.ensures.fewer

pub returns-in_err-step_until_stop-clause-steps : goal.returns-in_err-step_until_stop-clause-steps
returns-in_err-step_until_stop-clause-steps c = more_steps _ _ _ c.loop-self.invariant.steps c.in_err-step_until_stop.ensures.steps
