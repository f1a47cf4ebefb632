use Rattle.engines.proofs.Lines.{no_line, right_found, right_memory}
use Rattle.engines.proofs.command_lines.read_request.Goals as goal

-- a line without a fault
pub returns-in-Ok-Some-clause-ok : goal.returns-in-Ok-Some-clause-ok
returns-in-Ok-Some-clause-ok g c =
    rw c.in-Ok-Some.request-is (right_found _ c.in-Ok-Some.field-0 c.in-Ok-Some.request c.in-Ok-Some.field-0-is c.in-Ok-Some.ensures.refused c.in-Ok-Some.ensures.answer)

-- one that asks for help or the version, or has another fault
pub returns-in-Err-clause-none : goal.returns-in-Err-clause-none
returns-in-Err-clause-none g c = λ other. no_line _ c.in-Err.error (c.print_error.ensures.shown other) c.in-Err.ensures.refused

-- the error of a line without a fault is want of memory
pub returns-in-Err-clause-right : goal.returns-in-Err-clause-right
returns-in-Err-clause-right g c = λ two. right_memory _ c.in-Err.error _ c.in-Err.ensures.refused c.print_error.ensures.memory
