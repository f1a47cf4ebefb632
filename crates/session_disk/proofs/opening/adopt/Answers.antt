use Rattle.std.proofs.Common.{◌∙◌, inl, inr, le_refl}
use Rattle.sqlite_trees.proofs.Doubt.{no_doubt}
use Rattle.sqlite_store.specs.FileStore.{state}
use Rattle.session_disk.specs.Opening.{IsSessionStore}
use Rattle.session_disk.proofs.Adoptions.{before, again, found_in, found_old, has_file, has_some, if_both_err, if_both_ok, if_err, if_ok, no_rows, some_rows, unstarted}
use Rattle.session_disk.proofs.Causes.{from_store, wider}
use Rattle.session_disk.specs.Sessions.{database_page_size}
use Rattle.session_disk.proofs.Images.{not_bereft}
use Rattle.session_disk.proofs.Leavings.{not_made_then, not_opened, not_opened_then}
use Rattle.session_disk.proofs.Stores.{fresh, has_trees, holds_rows}
use Rattle.session_disk.proofs.opening.adopt.Goals as goal

pub make-requires-clause-whole : goal.make-requires-clause-whole
make-requires-clause-whole g c clean =
    let was = c.read_catalog.ensures.honest clean in
    not_bereft database_page_size _ (c.in-Ok.ensures.ok clean).pages (again c.args.files (c.requires.unopened.size was) c.read_catalog.new.self (c.read_catalog.ensures.kept clean) c.in-Ok.rows.items (c.in-Ok.ensures.ok clean))

pub make-requires-clause-unopened : goal.make-requires-clause-unopened
make-requires-clause-unopened g c = record {
  usable = c.in-Ok.ensures.usable;
  size = λ clean. (c.read_catalog.ensures.kept clean).size ∙ c.requires.unopened.size (c.read_catalog.ensures.honest clean);
  schema = c.read_catalog.ensures.schema ∙ c.requires.unopened.schema;
}

pub returns-in-Ok-clause-ok : goal.returns-in-Ok-clause-ok
returns-in-Ok-clause-ok g c = if_both_ok c.make.result (λ store opened honest clean.
    let mid = honest clean in
    let was = c.read_catalog.ensures.honest mid in
    let o = opened clean in
    record {
      tables = o.tables;
      fresh = o.fresh;
      is_open = o.is_open;
      trees = o.trees;
      found = found_in c.args.files (c.requires.unopened.size was) c.read_catalog.new.self (c.read_catalog.ensures.kept mid) c.in-Ok.rows.items (c.in-Ok.ensures.ok mid) (c.requires.begins was) _ o.found;
    }) c.make.ensures.ok c.make.ensures.honest

pub returns-in-Ok-clause-honest : goal.returns-in-Ok-clause-honest
returns-in-Ok-clause-honest g c = if_ok c.make.result (λ store honest clean. c.read_catalog.ensures.honest (honest clean)) c.make.ensures.honest

pub returns-in-Ok-clause-falls : goal.returns-in-Ok-clause-falls
returns-in-Ok-clause-falls g c = if_err c.make.result (λ e falls clean. c.read_catalog.ensures.honest (falls clean)) c.make.ensures.falls

pub returns-in-Ok-clause-cause : goal.returns-in-Ok-clause-cause
returns-in-Ok-clause-cause g c = if_both_err c.make.result (λ e cause falls clean.
    let mid = falls clean in
    let was = c.read_catalog.ensures.honest mid in
    let first = c.read_catalog.ensures.kept mid in
    wider _ _ _ _ _ _ _ e.0 first.counts inr
    (unstarted c.args.files (c.requires.unopened.size was) c.read_catalog.new.self first c.in-Ok.rows.items (c.in-Ok.ensures.ok mid) (c.requires.some was) (no_rows c.in-Ok.rows.items _ (rw c.as_slice.ensures.value at c.is_empty.ensures) c.if-is_empty.true)) (cause clean)) c.make.ensures.cause c.make.ensures.falls

pub returns-in-Ok-clause-unharmed : goal.returns-in-Ok-clause-unharmed
returns-in-Ok-clause-unharmed g c = if_both_err c.make.result (λ e kept falls clean.
    let mid = falls clean in
    let was = c.read_catalog.ensures.honest mid in
    let first = c.read_catalog.ensures.kept mid in
    let size = c.requires.unopened.size was in
    let catalog = c.in-Ok.ensures.ok mid in
    not_made_then c.args.files size c.read_catalog.new.self first (c.requires.some was) catalog.pages
    (before c.args.files size c.read_catalog.new.self first c.in-Ok.rows.items catalog) (again c.args.files size c.read_catalog.new.self first c.in-Ok.rows.items catalog) _
    (c.read_catalog.ensures.schema ∙ c.requires.unopened.schema) (c.requires.begins was) (kept clean)) c.make.ensures.unharmed c.make.ensures.falls

pub returns-in-Ok-open_numbered-clause-ok : goal.returns-in-Ok-open_numbered-clause-ok
returns-in-Ok-open_numbered-clause-ok g c clean =
    let e = c.in-Ok-open_numbered.ensures in
    let store = c.in-Ok-open_numbered.store in
    let now = no_doubt _ clean in
    let mid = e.honest clean in
    let was = c.read_catalog.ensures.honest mid in
    let first = c.read_catalog.ensures.kept mid in
    let size = c.requires.unopened.size was in
    let schema = e.schema ∙ c.read_catalog.ensures.schema ∙ c.requires.unopened.schema in
    let tables : IsSessionStore store = record { size = (e.kept clean).size ∙ first.size ∙ size; schema = schema; unaltered = e.ready.unaltered; numbered = e.numbered } in
    let found = found_old c.args.files size c.read_catalog.new.self first c.in-Ok.rows.items (c.in-Ok.ensures.ok mid) (state store).committed (e.found clean) in
    record {
      tables = tables;
      fresh = fresh store e.ready now;
      is_open = e.ready.is_open now;
      trees = has_trees store schema;
      found = inl (holds_rows store tables clean (e.ready.is_open now) _ found);
    }

pub returns-in-Ok-open_numbered-clause-honest : goal.returns-in-Ok-open_numbered-clause-honest
returns-in-Ok-open_numbered-clause-honest g c clean = c.read_catalog.ensures.honest (c.in-Ok-open_numbered.ensures.honest clean)

pub returns-in-Ok-2-clause-falls : goal.returns-in-Ok-2-clause-falls
returns-in-Ok-2-clause-falls g c clean = c.read_catalog.ensures.honest (c.in-Err-open_numbered.ensures.falls clean)

pub returns-in-Ok-2-clause-cause : goal.returns-in-Ok-2-clause-cause
returns-in-Ok-2-clause-cause g c clean =
    let mid = c.in-Err-open_numbered.ensures.falls clean in
    let was = c.read_catalog.ensures.honest mid in
    let first = c.read_catalog.ensures.kept mid in
    rw c.from.ensures (from_store _ _ _ _ _ _ _ c.in-Err-open_numbered.error first.counts inl
    (has_file c.args.files (c.requires.unopened.size was) c.read_catalog.new.self first c.in-Ok.rows.items (c.in-Ok.ensures.ok mid) (c.requires.some was)
    (c.read_catalog.ensures.schema ∙ c.requires.unopened.schema) (some_rows c.in-Ok.rows.items _ (rw c.as_slice.ensures.value at c.is_empty.ensures) c.if-is_empty.false)) (c.in-Err-open_numbered.ensures.cause clean))

pub returns-in-Ok-2-clause-unharmed : goal.returns-in-Ok-2-clause-unharmed
returns-in-Ok-2-clause-unharmed g c clean =
    let mid = c.in-Err-open_numbered.ensures.falls clean in
    let was = c.read_catalog.ensures.honest mid in
    let first = c.read_catalog.ensures.kept mid in
    let size = c.requires.unopened.size was in
    let catalog = c.in-Ok.ensures.ok mid in
    not_opened_then c.args.files size c.read_catalog.new.self first (c.requires.some was) catalog.pages
    (before c.args.files size c.read_catalog.new.self first c.in-Ok.rows.items catalog) (again c.args.files size c.read_catalog.new.self first c.in-Ok.rows.items catalog) _
    (c.in-Err-open_numbered.ensures.unharmed clean)

pub returns-clause-cause : goal.returns-clause-cause
returns-clause-cause g c clean =
    let was = c.read_catalog.ensures.honest clean in
    rw c.from-in-Err.ensures (from_store _ _ _ _ _ _ _ c.in-Err.error (le_refl _) inl (has_some c.args.files (c.requires.unopened.size was) (c.requires.some was)) (c.in-Err.ensures.cause clean))

pub returns-clause-unharmed : goal.returns-clause-unharmed
returns-clause-unharmed g c clean =
    let was = c.read_catalog.ensures.honest clean in
    not_opened c.args.files (c.requires.unopened.size was) _ (c.requires.some was) (c.read_catalog.ensures.kept clean)
