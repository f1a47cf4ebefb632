use Rattle.rv_step.proofs.Charged.{charged_within_gas}
use Rattle.rv_step.proofs.Falls.{charged_answer_takes, charged_call_takes, charged_instruction_takes}
use Rattle.rv_step.proofs.laws.charged_steps_within_gas.Goals as goal

pub returns-clause-within : goal.returns-clause-within
returns-clause-within c = charged_within_gas

pub returns-clause-instruction : goal.returns-clause-instruction
returns-clause-instruction c = charged_instruction_takes

pub returns-clause-storage_call : goal.returns-clause-storage_call
returns-clause-storage_call c = charged_call_takes

pub returns-clause-answer : goal.returns-clause-answer
returns-clause-answer c = charged_answer_takes
