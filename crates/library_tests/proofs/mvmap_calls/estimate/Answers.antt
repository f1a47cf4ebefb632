use Rattle.std.proofs.Common.{ℕ, List, [], IsTrue}
use Rattle.std.specs.FinSet.{contains}
use Rattle.rv_ledger.specs.Change.{ContentChange}
use Rattle.std.proofs.lemmas.List.Elements.{All-head}
use Rattle.library_tests.proofs.mvmap_calls.estimate.Goals as goal

pub to_estimate-requires : goal.to_estimate-requires
to_estimate-requires c = All-head (λ (write : List ℕ × ContentChange). IsTrue (contains c.reserve_for.new.self.places (write.0, c.args.writer))) _ [] c.in_ok-reserve_for.ensures.ok.0
