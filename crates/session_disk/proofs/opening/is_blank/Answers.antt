use Rattle.session_disk.proofs.Causes.{blank_cause}
use Rattle.session_disk.proofs.opening.is_blank.Goals as goal

pub returns-in-Ok-clause-ok : goal.returns-in-Ok-clause-ok
returns-in-Ok-clause-ok g c clean = rw c.session_page_size.ensures at (c.in-Ok.ensures.ok clean)

pub returns-in-Err-clause-cause : goal.returns-in-Err-clause-cause
returns-in-Err-clause-cause g c clean = rw c.from.ensures (blank_cause _ _ _ _ _ c.in-Err.error (rw c.session_page_size.ensures at (c.in-Err.ensures.cause clean)))
