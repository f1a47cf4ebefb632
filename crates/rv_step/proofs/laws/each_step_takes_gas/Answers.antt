use Rattle.rv_step.proofs.Falls.{answer_takes_gas, call_costs, instr_costs, step_takes_gas}
use Rattle.rv_step.proofs.laws.each_step_takes_gas.Goals as goal

pub returns-clause-step : goal.returns-clause-step
returns-clause-step c = step_takes_gas

pub returns-clause-answer : goal.returns-clause-answer
returns-clause-answer c = answer_takes_gas

pub returns-clause-instruction : goal.returns-clause-instruction
returns-clause-instruction c = instr_costs

pub returns-clause-storage_call : goal.returns-clause-storage_call
returns-clause-storage_call c = call_costs
