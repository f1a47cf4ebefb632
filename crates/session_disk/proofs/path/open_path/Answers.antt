use Rattle.std.proofs.Common.{ℕ, Bool, cond, List, ap, ap₂, subst, ◌∙◌}
use Rattle.sqlite_disk.specs.Events.{Event, replay}
use Rattle.sqlite_wal.specs.Recovery.{Image}
use Rattle.session_disk.specs.Opening.{AreFilesOpened}
use Rattle.session_disk.proofs.Removals.{removes_own}
use Rattle.session_disk.proofs.path.open_path.Goals as goal

abbrev image : List ℕ → List ℕ → Image
image log db = record { log = log; db = db }

abbrev seen : List ℕ → List ℕ → Bool → List Event → List ℕ
seen log db is_log history = (replay (cond is_log log db) history).seen

pub returns-in-Ok-open_beside-clause-ok : goal.returns-in-Ok-open_beside-clause-ok
returns-in-Ok-open_beside-clause-ok g c clean =
    let (log, db) = c.in-Ok-open.ensures.fresh in
    let named = c.in-Ok-named_files.ensures in
    let same = ap₂ image
    (ap (λ f. seen g.S.Start.log g.S.Start.db f.is_log f.calls.log.events) named.log.inner ∙ ap₂ (seen g.S.Start.log g.S.Start.db) log.0 log.1)
    (ap (λ f. seen g.S.Start.log g.S.Start.db f.is_log f.calls.log.events) named.db.inner ∙ ap₂ (seen g.S.Start.log g.S.Start.db) db.0 db.1) in
    subst (λ i. AreFilesOpened i c.in-Ok-open_beside.opened.0) same (c.in-Ok-open_beside.ensures.ok clean)

pub returns-clause-own : goal.returns-clause-own
returns-clause-own g c =
    let (rest, fault, why, shown, up) = c.in-Err-open_beside.ensures.given_up in
    removes_own (g.F.LogFolder.view c.args.folder.now) (g.F.LogFolder.view c.open_beside.new.folder) c.args.path.now c.in-Ok-beside.log up.is_idle c.in-Ok-beside.ensures up.removes
