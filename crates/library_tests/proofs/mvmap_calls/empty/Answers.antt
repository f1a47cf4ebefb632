use Rattle.library_tests.proofs.Estimates.{no_estimate_empty}
use Rattle.library_tests.proofs.mvmap_calls.empty.Goals as goal

pub returns : goal.returns
returns c = no_estimate_empty c.over.result.versions c.over.ensures.versions
