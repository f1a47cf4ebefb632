use Rattle.std.proofs.Common.{arith}
use Rattle.std.proofs.lemmas.List.Elements.{All-nil}
use Rattle.version_arena.specs.StoredRecords.{IsStored}
use Rattle.version_arena.proofs.arena.Arena.reset.Goals as goal

pub invariant_of-self : goal.invariant_of-self
invariant_of-self c =
    let before = c.self.invariant in
    (omega arith, before.1, λ h. omega (arith, before.2 h, c.rewind.ensures.room), All-nil (IsStored c.rewind.new.self.chunks))
