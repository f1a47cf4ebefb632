use Rattle.std.proofs.Common.{sym, subst, ◌∙◌}
use Rattle.sqlite_pool.specs.Opening.{IsBlankFile}
use Rattle.session_disk.specs.Sessions.{database_page_size, BeginsWell, IsSession}
use Rattle.session_disk.specs.Opening.{AreFilesOpened}
use Rattle.session_disk.specs.declared.leftover.Leftover.TheVariants as left
use Rattle.session_disk.proofs.Causes.{wider}
use Rattle.session_disk.proofs.Leavings.{from_earlier}
use Rattle.session_disk.proofs.Readings.{clean_files, fails_by_reading, fails_later, faults_files, leaves_by_reading, leaves_later, leaves_still, left_files, same_image, seen_files, was_clean}
use Rattle.session_disk.proofs.opening.adopt_files.Goals as goal

pub returns-in-Err-clause-cause : goal.returns-in-Err-clause-cause
returns-in-Err-clause-cause g c clean =
    fails_by_reading g.D.Disk c.args.files c.check_first_byte.new.files c.check_first_byte.ensures.log c.check_first_byte.ensures.db c.in-Err.fault (c.in-Err.ensures.cause clean)

pub returns-in-Err-clause-unharmed : goal.returns-in-Err-clause-unharmed
returns-in-Err-clause-unharmed g c clean = leaves_by_reading g.D.Disk c.args.files c.check_first_byte.new.files c.check_first_byte.ensures.log c.check_first_byte.ensures.db

pub returns-in-Err-unopened-clause-cause : goal.returns-in-Err-unopened-clause-cause
returns-in-Err-unopened-clause-cause g c clean = tt

pub returns-in-Err-unopened-clause-unharmed : goal.returns-in-Err-unopened-clause-unharmed
returns-in-Err-unopened-clause-unharmed g c clean =
    let read = c.check_first_byte.new.files in
    let back = c.in-Err-unopened.ensures.back in
    leaves_later g.D.Disk c.args.files read c.check_first_byte.ensures.log c.check_first_byte.ensures.db (left.Files c.in-Err-unopened.rest) (leaves_still g.D.Disk read c.in-Err-unopened.rest back.0 back.1)

pub adopt-requires-clause-some : goal.adopt-requires-clause-some
adopt-requires-clause-some g c clean =
    let read = c.check_first_byte.new.files in
    let made = c.in-Ok.ensures.files in
    let seen = seen_files c.in-Ok.fresh read made ∙ same_image g.D.Disk c.args.files read c.check_first_byte.ensures.log c.check_first_byte.ensures.db in
    let was = was_clean g.D.Disk c.args.files read c.check_first_byte.ensures.log c.check_first_byte.ensures.db (clean_files c.in-Ok.fresh read made clean) in
    subst (λ i. ¬ IsBlankFile database_page_size i) (sym seen) (c.requires.some was)

pub adopt-requires-clause-begins : goal.adopt-requires-clause-begins
adopt-requires-clause-begins g c clean =
    let read = c.check_first_byte.new.files in
    let made = c.in-Ok.ensures.files in
    let seen = seen_files c.in-Ok.fresh read made ∙ same_image g.D.Disk c.args.files read c.check_first_byte.ensures.log c.check_first_byte.ensures.db in
    subst BeginsWell (sym seen) (c.in_default.ensures.begins (clean_files c.in-Ok.fresh read made clean))

pub returns-in-Ok-adopt-clause-ok : goal.returns-in-Ok-adopt-clause-ok
returns-in-Ok-adopt-clause-ok g c clean =
    let read = c.check_first_byte.new.files in
    let seen = seen_files c.in-Ok.fresh read c.in-Ok.ensures.files ∙ same_image g.D.Disk c.args.files read c.check_first_byte.ensures.log c.check_first_byte.ensures.db in
    subst (λ i. AreFilesOpened i c.in-Ok-adopt.store) seen (c.in-Ok-adopt.ensures.ok clean)

pub returns-in-Ok-adopt-clause-honest : goal.returns-in-Ok-adopt-clause-honest
returns-in-Ok-adopt-clause-honest g c clean =
    let read = c.check_first_byte.new.files in
    was_clean g.D.Disk c.args.files read c.check_first_byte.ensures.log c.check_first_byte.ensures.db (clean_files c.in-Ok.fresh read c.in-Ok.ensures.files (c.in-Ok-adopt.ensures.honest clean))

pub returns-in-Err-adopt-clause-cause : goal.returns-in-Err-adopt-clause-cause
returns-in-Err-adopt-clause-cause g c clean =
    let read = c.check_first_byte.new.files in
    let made = c.in-Ok.ensures.files in
    fails_later g.D.Disk c.args.files read c.check_first_byte.ensures.log c.check_first_byte.ensures.db c.check_first_byte.ensures.counts (left.Unopened c.in-Err-adopt.rest) c.in-Err-adopt.fault
    (wider _ _ _ _ _ _ _ c.in-Err-adopt.fault (faults_files c.in-Ok.fresh read made) (λ limit. limit) (subst IsSession (sym (seen_files c.in-Ok.fresh read made))) (c.in-Err-adopt.ensures.cause clean))

pub returns-in-Err-adopt-clause-unharmed : goal.returns-in-Err-adopt-clause-unharmed
returns-in-Err-adopt-clause-unharmed g c clean =
    let read = c.check_first_byte.new.files in
    let made = c.in-Ok.ensures.files in
    leaves_later g.D.Disk c.args.files read c.check_first_byte.ensures.log c.check_first_byte.ensures.db (left.Unopened c.in-Err-adopt.rest)
    (from_earlier _ _ _ _ _ (seen_files c.in-Ok.fresh read made) (left_files c.in-Ok.fresh read made) (c.in-Err-adopt.ensures.unharmed clean))
