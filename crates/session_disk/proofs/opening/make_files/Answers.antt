use Rattle.std.proofs.Common.{sym, subst, subst₂, ◌∙◌, inl, inr}
use Rattle.sqlite_pool.specs.Opening.{IsBlankFile}
use Rattle.session_disk.specs.Sessions.{database_page_size, IsBereft}
use Rattle.session_disk.specs.Opening.{AreFilesOpened}
use Rattle.session_disk.specs.declared.leftover.Leftover.TheVariants as left
use Rattle.session_disk.proofs.Causes.{wider}
use Rattle.session_disk.proofs.Leavings.{from_earlier, not_made}
use Rattle.session_disk.proofs.Readings.{clean_files, fails_by_reading, fails_later, faults_files, leaves_by_reading, leaves_later, leaves_still, left_files, same_image, seen_files, was_clean}
use Rattle.session_disk.proofs.opening.make_files.Goals as goal

pub returns-in-Err-clause-cause : goal.returns-in-Err-clause-cause
returns-in-Err-clause-cause g c clean =
    fails_by_reading g.D.Disk c.args.files c.check_log.new.files c.check_log.ensures.log c.check_log.ensures.db c.in-Err.fault (c.in-Err.ensures.cause clean)

pub returns-in-Err-clause-unharmed : goal.returns-in-Err-clause-unharmed
returns-in-Err-clause-unharmed g c clean = leaves_by_reading g.D.Disk c.args.files c.check_log.new.files c.check_log.ensures.log c.check_log.ensures.db

pub returns-in-Err-unopened-clause-cause : goal.returns-in-Err-unopened-clause-cause
returns-in-Err-unopened-clause-cause g c clean = tt

pub returns-in-Err-unopened-clause-unharmed : goal.returns-in-Err-unopened-clause-unharmed
returns-in-Err-unopened-clause-unharmed g c clean =
    let read = c.check_log.new.files in
    let back = c.in-Err-unopened.ensures.back in
    leaves_later g.D.Disk c.args.files read c.check_log.ensures.log c.check_log.ensures.db (left.Files c.in-Err-unopened.rest) (leaves_still g.D.Disk read c.in-Err-unopened.rest back.0 back.1)

pub make-requires-clause-whole : goal.make-requires-clause-whole
make-requires-clause-whole g c clean =
    let read = c.check_log.new.files in
    let made = c.in-Ok.ensures.files in
    let seen = seen_files c.in-Ok.fresh read made ∙ same_image g.D.Disk c.args.files read c.check_log.ensures.log c.check_log.ensures.db in
    subst (λ i. ¬ IsBereft i) (sym seen) (c.in_default.ensures.whole (clean_files c.in-Ok.fresh read made clean))

pub returns-in-Ok-make-clause-ok : goal.returns-in-Ok-make-clause-ok
returns-in-Ok-make-clause-ok g c clean =
    let read = c.check_log.new.files in
    let seen = seen_files c.in-Ok.fresh read c.in-Ok.ensures.files ∙ same_image g.D.Disk c.args.files read c.check_log.ensures.log c.check_log.ensures.db in
    subst (λ i. AreFilesOpened i c.in-Ok-make.store) seen (c.in-Ok-make.ensures.ok clean)

pub returns-in-Ok-make-clause-honest : goal.returns-in-Ok-make-clause-honest
returns-in-Ok-make-clause-honest g c clean =
    let read = c.check_log.new.files in
    was_clean g.D.Disk c.args.files read c.check_log.ensures.log c.check_log.ensures.db (clean_files c.in-Ok.fresh read c.in-Ok.ensures.files (c.in-Ok-make.ensures.honest clean))

pub returns-in-Err-make-clause-cause : goal.returns-in-Err-make-clause-cause
returns-in-Err-make-clause-cause g c clean =
    let read = c.check_log.new.files in
    let fresh = c.in-Ok.fresh in
    let made = c.in-Ok.ensures.files in
    let was = c.in-Err-make.ensures.falls clean in
    let blank = c.requires.blank (was_clean g.D.Disk c.args.files read c.check_log.ensures.log c.check_log.ensures.db (clean_files fresh read made was)) in
    let seen = seen_files fresh read made ∙ same_image g.D.Disk c.args.files read c.check_log.ensures.log c.check_log.ensures.db in
    fails_later g.D.Disk c.args.files read c.check_log.ensures.log c.check_log.ensures.db c.check_log.ensures.counts (left.Unopened c.in-Err-make.rest) c.in-Err-make.fault
    (wider _ _ _ _ _ _ _ c.in-Err-make.fault (faults_files fresh read made) inr
    (λ _. inl (subst₂ IsBlankFile (sym (c.in-Ok.ensures.unopened.size was)) (sym seen) blank)) (c.in-Err-make.ensures.cause clean))

pub returns-in-Err-make-clause-unharmed : goal.returns-in-Err-make-clause-unharmed
returns-in-Err-make-clause-unharmed g c clean =
    let read = c.check_log.new.files in
    let fresh = c.in-Ok.fresh in
    let made = c.in-Ok.ensures.files in
    let was = c.in-Err-make.ensures.falls clean in
    let seen = seen_files fresh read made ∙ same_image g.D.Disk c.args.files read c.check_log.ensures.log c.check_log.ensures.db in
    let blank = subst (IsBlankFile database_page_size) (sym seen) (c.requires.blank (was_clean g.D.Disk c.args.files read c.check_log.ensures.log c.check_log.ensures.db (clean_files fresh read made was))) in
    let whole = subst (λ i. ¬ IsBereft i) (sym seen) (c.in_default.ensures.whole (clean_files fresh read made was)) in
    leaves_later g.D.Disk c.args.files read c.check_log.ensures.log c.check_log.ensures.db (left.Unopened c.in-Err-make.rest)
    (from_earlier _ _ _ _ _ (seen_files fresh read made) (left_files fresh read made)
    (not_made fresh (c.in-Ok.ensures.unopened.size was) _ c.in-Ok.ensures.unopened.schema blank whole (c.in-Err-make.ensures.unharmed clean)))
