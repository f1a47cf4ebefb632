use Rattle.std.proofs.Common.{suc, arith}
use Rattle.rv_step.proofs.Receipts.{over_after_gas}
use Rattle.debugger.proofs.Moments.{last_is_receipt}
use Rattle.debugger.proofs.laws.last_moment_is_the_receipts.Goals as goal

pub returns-clause-comes : goal.returns-clause-comes
returns-clause-comes c = λ call store. (suc call.gas, omega arith, over_after_gas call store)

pub returns-clause-pc : goal.returns-clause-pc
returns-clause-pc c = λ call store n over. (last_is_receipt call store n over).0

pub returns-clause-regs : goal.returns-clause-regs
returns-clause-regs c = λ call store n over. (last_is_receipt call store n over).1
