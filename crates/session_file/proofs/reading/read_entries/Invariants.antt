use Rattle.std.proofs.Common.{IsSome}
use Rattle.sqlite_trees.specs.View.{IsClean, KeepsSchema, IsQuiet}
use Rattle.sqlite_exec.specs.Calls.{OnlyReads}
use Rattle.sqlite_exec.specs.Loops.{left_of}
use Rattle.session_file.proofs.Lists.{AreTakenUpTo}
use Rattle.session_file.proofs.reading.read_entries.Given as goal

abbrev pub invariant-rows : goal.invariant-rows
invariant-rows g l =
    let old = g.S.Store.view l.fn.store in
    let now = g.S.Store.view l.store in
    IsSome (now.cursors 0) × (IsClean now → OnlyReads old now)
    × IsQuiet g.S.Store.view g.S.Store.faults g.S.Store.recovers g.S.Store.is_shielded l.fn.store l.store
    × AreTakenUpTo (g.E.Entries.is_made_of l.list) g.E.Entries.fits l.last (IsClean now) (left_of now 0) (old.trees l.tree)
    × KeepsSchema old now
