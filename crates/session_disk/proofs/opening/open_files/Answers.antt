use Rattle.std.proofs.Common.{sym, subst}
use Rattle.sqlite_pool.specs.Opening.{IsBlankFile}
use Rattle.sqlite_store.specs.FileStore.{view}
use Rattle.sqlite_trees.proofs.Doubt.{clean_of}
use Rattle.session_disk.specs.Sessions.{database_page_size}
use Rattle.session_disk.specs.Opening.{AreFilesOpened}
use Rattle.session_disk.proofs.Adoptions.{if_err, if_ok}
use Rattle.session_disk.proofs.Readings.{fails_by_reading, fails_later, leaves_by_reading, leaves_later, same_image, was_clean}
use Rattle.session_disk.proofs.Stores.{leaves_session}
use Rattle.session_disk.proofs.opening.open_files.Goals as goal

pub returns-in-Err-clause-cause : goal.returns-in-Err-clause-cause
returns-in-Err-clause-cause g c clean = fails_by_reading g.D.Disk c.args.files c.is_blank.new.files c.is_blank.ensures.log c.is_blank.ensures.db c.in-Err.fault (c.in-Err.ensures.cause clean)

pub returns-in-Err-clause-unharmed : goal.returns-in-Err-clause-unharmed
returns-in-Err-clause-unharmed g c clean = leaves_by_reading g.D.Disk c.args.files c.is_blank.new.files c.is_blank.ensures.log c.is_blank.ensures.db

pub make_files-requires-clause-blank : goal.make_files-requires-clause-blank
make_files-requires-clause-blank g c clean =
    subst (IsBlankFile database_page_size) (sym (same_image g.D.Disk c.args.files c.is_blank.new.files c.is_blank.ensures.log c.is_blank.ensures.db)) ((c.in-Ok.ensures.ok clean).0 c.if-is_new.true)

pub adopt_files-requires-clause-some : goal.adopt_files-requires-clause-some
adopt_files-requires-clause-some g c clean blank =
    let yes = (c.in-Ok.ensures.ok clean).1 (subst (IsBlankFile database_page_size) (same_image g.D.Disk c.args.files c.is_blank.new.files c.is_blank.ensures.log c.is_blank.ensures.db) blank) in
    let no = c.if-is_new.false in
    cc

pub returns-then-is_new-clause-ok : goal.returns-then-is_new-clause-ok
returns-then-is_new-clause-ok g c = if_ok c.make_files.result (λ store opened clean.
    subst (λ i. AreFilesOpened i store) (same_image g.D.Disk c.args.files c.is_blank.new.files c.is_blank.ensures.log c.is_blank.ensures.db) (opened clean)) c.make_files.ensures.ok

pub returns-then-is_new-clause-left : goal.returns-then-is_new-clause-left
returns-then-is_new-clause-left g c = if_ok c.make_files.result (λ store opened clean. leaves_session store (opened clean).tables) c.make_files.ensures.ok

pub returns-then-is_new-clause-honest : goal.returns-then-is_new-clause-honest
returns-then-is_new-clause-honest g c = if_ok c.make_files.result (λ store honest clean.
    was_clean g.D.Disk c.args.files c.is_blank.new.files c.is_blank.ensures.log c.is_blank.ensures.db (honest clean)) c.make_files.ensures.honest

pub returns-then-is_new-clause-cause : goal.returns-then-is_new-clause-cause
returns-then-is_new-clause-cause g c = if_err c.make_files.result (λ e cause clean.
    fails_later g.D.Disk c.args.files c.is_blank.new.files c.is_blank.ensures.log c.is_blank.ensures.db c.is_blank.ensures.counts e.1 e.0 (cause clean)) c.make_files.ensures.cause

pub returns-then-is_new-clause-unharmed : goal.returns-then-is_new-clause-unharmed
returns-then-is_new-clause-unharmed g c = if_err c.make_files.result (λ e leaves clean.
    leaves_later g.D.Disk c.args.files c.is_blank.new.files c.is_blank.ensures.log c.is_blank.ensures.db e.1 (leaves clean)) c.make_files.ensures.unharmed

pub returns-else-is_new-clause-ok : goal.returns-else-is_new-clause-ok
returns-else-is_new-clause-ok g c = if_ok c.adopt_files.result (λ store opened clean.
    subst (λ i. AreFilesOpened i store) (same_image g.D.Disk c.args.files c.is_blank.new.files c.is_blank.ensures.log c.is_blank.ensures.db) (opened clean)) c.adopt_files.ensures.ok

pub returns-else-is_new-clause-left : goal.returns-else-is_new-clause-left
returns-else-is_new-clause-left g c = if_ok c.adopt_files.result (λ store opened clean. leaves_session store (opened clean).tables) c.adopt_files.ensures.ok

pub returns-else-is_new-clause-honest : goal.returns-else-is_new-clause-honest
returns-else-is_new-clause-honest g c = if_ok c.adopt_files.result (λ store honest clean.
    was_clean g.D.Disk c.args.files c.is_blank.new.files c.is_blank.ensures.log c.is_blank.ensures.db (honest clean)) c.adopt_files.ensures.honest

pub returns-else-is_new-clause-cause : goal.returns-else-is_new-clause-cause
returns-else-is_new-clause-cause g c = if_err c.adopt_files.result (λ e cause clean.
    fails_later g.D.Disk c.args.files c.is_blank.new.files c.is_blank.ensures.log c.is_blank.ensures.db c.is_blank.ensures.counts e.1 e.0 (cause clean)) c.adopt_files.ensures.cause

pub returns-else-is_new-clause-unharmed : goal.returns-else-is_new-clause-unharmed
returns-else-is_new-clause-unharmed g c = if_err c.adopt_files.result (λ e leaves clean.
    leaves_later g.D.Disk c.args.files c.is_blank.new.files c.is_blank.ensures.log c.is_blank.ensures.db e.1 (leaves clean)) c.adopt_files.ensures.unharmed

pub returns-then-is_new-clause-fresh : goal.returns-then-is_new-clause-fresh
returns-then-is_new-clause-fresh g c = if_ok c.make_files.result (λ store opened clean. (opened (clean_of (view store).is_clean clean)).fresh) c.make_files.ensures.ok

pub returns-else-is_new-clause-fresh : goal.returns-else-is_new-clause-fresh
returns-else-is_new-clause-fresh g c = if_ok c.adopt_files.result (λ store opened clean. (opened (clean_of (view store).is_clean clean)).fresh) c.adopt_files.ensures.ok
