use Rattle.std.proofs.Common.{◌≡◌, length, sym, ap, ◌∙◌, arith, eqb-true}
use Rattle.sqlite_wal.proofs.CleanLemmas.{halves}
use Rattle.sqlite_wal.proofs.RecoveryLemmas.{replays_once}
use Rattle.session_disk.specs.Sessions.{database_page_size}
use Rattle.session_disk.proofs.opening.check_log.Goals as goal

pub returns-in-Ok-clause-whole : goal.returns-in-Ok-clause-whole
returns-in-Ok-clause-whole g c clean (none, (frames, some, log)) =
    let read = rw c.session_page_size.ensures at (c.in-Ok.ensures.ok (halves g.D.Disk _ _ clean).0) in
    let same : length c.in-Ok.frames.items ≡ frames = replays_once database_page_size _ (length c.in-Ok.frames.items) frames read.0 log in
    let empty : length c.in-Ok.frames.items ≡ 0 = ap length (sym c.as_slice.ensures.value) ∙ eqb-true (length c.as_slice.result.now) 0 (sym c.if-is_empty-2.ensures) in
    omega (arith, same, empty, some)
