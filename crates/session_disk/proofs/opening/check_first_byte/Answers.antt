use Rattle.std.proofs.Common.{◌≡◌, sym, ◌∙◌, lit≤, rules}
use Rattle.sqlite_wal.proofs.CleanLemmas.{both_clean}
use Rattle.sqlite_pool.proofs.ProbeLemmas.{reserved_word}
use Rattle.sqlite_pool.proofs.ResealLemmas.{adopts_of}
use Rattle.session_disk.specs.Opening.{files_image}
use Rattle.session_disk.specs.Sessions.{database_page_size}
use Rattle.session_disk.proofs.Causes.{log_cause}
use Rattle.session_disk.proofs.Images.{some_sound}
use Rattle.session_disk.proofs.opening.check_first_byte.Goals as goal

pub returns-clause-begins : goal.returns-clause-begins
returns-clause-begins g c clean pages first found is len =
    let letter : c.in-Ok.head.0 ≡ 83 = search rules in
    let value = rw c.session_page_size.ensures at (c.in-Ok.ensures.value clean) in
    sym (value pages first found is len).0 ∙ letter

pub returns-then-head-ne83-clause-cause : goal.returns-then-head-ne83-clause-cause
returns-then-head-ne83-clause-cause g c clean session =
    let value = rw c.session_page_size.ensures at (c.in-Ok.ensures.value clean) in
    let file = some_sound (files_image g.D.Disk c.args.files.now) session (c.requires.some (both_clean _ _ _ _ c.probe_first_page.ensures.log.clean c.probe_first_page.ensures.db.clean clean)) in
    let adopted = adopts_of database_page_size (files_image g.D.Disk c.args.files.now) file.0 file.1 in
    let page = reserved_word database_page_size (files_image g.D.Disk c.args.files.now) file.0 adopted (lit≤ tt) file.2 in
    c.if-head-ne83.true ((value adopted.stored page.0 adopted.found page.1 page.2).0 ∙ page.4)

pub returns-in-Err-clause-cause : goal.returns-in-Err-clause-cause
returns-in-Err-clause-cause g c clean =
    rw c.from.ensures (log_cause _ _ _ (files_image g.D.Disk c.args.files.now) _ c.in-Err.error (rw c.session_page_size.ensures at (c.in-Err.ensures.cause.0 clean))
    (λ session. let file = some_sound (files_image g.D.Disk c.args.files.now) session (c.requires.some (both_clean _ _ _ _ c.probe_first_page.ensures.log.clean c.probe_first_page.ensures.db.clean clean)) in (file.1.found.frames, file.1.found.replays)))
