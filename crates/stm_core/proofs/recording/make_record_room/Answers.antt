use Rattle.std.proofs.Common.{List, ℕ, subst, IsTrue}
use Rattle.std.specs.List.{All}
use Rattle.std.specs.FinMap.{entries}
use Rattle.std.specs.FinSet.{contains}
use Rattle.rv_ledger.specs.Change.{ContentChange}
use Rattle.stm_core.proofs.EntryPlaces.{open_writes}
use Rattle.stm_core.proofs.recording.make_record_room.Goals as goal

pub returns-clause-open_ : goal.returns-clause-open_
returns-clause-open_ c =
    let places = c.reserve_for.new.self.places in
    open_writes places c.args.call (entries c.args.writes.now)
    (subst (λ (es : List (List ℕ × ContentChange)). All (λ write. IsTrue (contains places (write.0, c.args.call))) es) c.as_slice.ensures c.in-Ok.ensures.ok.0)
