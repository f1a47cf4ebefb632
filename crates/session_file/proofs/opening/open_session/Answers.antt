use Rattle.std.proofs.Common.{arith}
use Rattle.sqlite_trees.specs.View.{IsClean}
use Rattle.session_file.proofs.Opens.{keeps_read}
use Rattle.session_file.proofs.Staged.{open_clean}
use Rattle.session_file.proofs.opening.open_session.Goals as goal

pub returns-in-Ok-clause-ok : goal.returns-in-Ok-clause-ok
returns-in-Ok-clause-ok g c =
    let v = g.S.Store.view in
    let (files, made, holds) = c.in-Ok.ensures.ok in (
      files,
      made,
      rw c.over.ensures (λ still.
          let clean : IsClean (v c.load.new.store) = open_clean (v c.load.new.store) (g.met.S.Store.shut_if_dirty c.load.new.store) still in
          let first : IsClean (v c.args.store) = omega (arith, c.load.ensures.reads.quiet.clean) in
          keeps_read (v c.args.store) (v c.load.new.store) _ (c.requires.fresh first) (c.in-Ok.ensures.reads.same clean) (holds clean)),
    )

pub returns-in-Ok-clause-read : goal.returns-in-Ok-clause-read
returns-in-Ok-clause-read g c = rw c.over.ensures c.in-Ok.ensures.reads
