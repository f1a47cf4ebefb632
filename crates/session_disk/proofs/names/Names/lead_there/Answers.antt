use Rattle.std.proofs.Common.{refl}
use Rattle.session_disk.proofs.Missing.{misses_first, misses_later, missed_at, seen_at}
use Rattle.session_disk.proofs.names.Names.lead_there.Goals as goal

pub returns-then-not-finds-clause-no : goal.returns-then-not-finds-clause-no
returns-then-not-finds-clause-no g c none =
    let v = g.F.LogFolder.view in
    misses_first (v c.args.folder.now) (v c.finds.new.folder) _ _ (missed_at _ _ _ _ _ _ c.as_str.ensures.value (c.if-not-finds.ensures.no refl))

pub returns-then-not-finds-2-clause-no : goal.returns-then-not-finds-2-clause-no
returns-then-not-finds-2-clause-no g c none =
    let v = g.F.LogFolder.view in
    misses_later (v c.args.folder.now) (v c.finds.new.folder) (v c.finds-2.new.folder) _ _ (seen_at _ _ _ _ _ _ c.as_str.ensures.value (c.if-not-finds.ensures.yes refl))
    (misses_first (v c.finds.new.folder) (v c.finds-2.new.folder) _ _ (missed_at _ _ _ _ _ _ c.as_str-2.ensures.value (c.if-not-finds-2.ensures.no refl)))

pub returns-clause-no : goal.returns-clause-no
returns-clause-no g c none =
    let v = g.F.LogFolder.view in
    misses_later (v c.args.folder.now) (v c.finds.new.folder) (v c.finds-3.new.folder) _ _ (seen_at _ _ _ _ _ _ c.as_str.ensures.value (c.if-not-finds.ensures.yes refl))
    (misses_later (v c.finds.new.folder) (v c.finds-2.new.folder) (v c.finds-3.new.folder) _ _ (seen_at _ _ _ _ _ _ c.as_str-2.ensures.value (c.if-not-finds-2.ensures.yes refl))
    (missed_at _ _ _ _ _ _ c.as_str-3.ensures.value (c.finds-3.ensures.no none)))
