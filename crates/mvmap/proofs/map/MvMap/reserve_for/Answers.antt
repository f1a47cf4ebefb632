use Rattle.std.proofs.Common.{◌≡◌, ap, refl, ◌∙◌, Err, List, Ok, get_or}
use Rattle.std.specs.FinSet as set
use Rattle.std.proofs.lemmas.Result.{on_err_weaker, on_ok_weaker}
use Rattle.version_arena.specs.ArenaState.{Record}
use Rattle.mvmap.specs.Table.{Table}
use Rattle.mvmap.specs.Versions.{Place}
use Rattle.mvmap.specs.Slots.{versions_of}
use Rattle.mvmap.proofs.Fills.{on_err, opened_places, opened_stays, opened_versions, place_there, table_is, there_at_place}
use Rattle.mvmap.proofs.map.MvMap.reserve_for.Goals as goal

-- if room for entries is refused
pub returns-in_err-open_all-clause-versions : goal.returns-in_err-open_all-clause-versions
returns-in_err-open_all-clause-versions c =
    opened_versions c.self.inside.arena.records c.self.inside.slots c.open_all.new.self c.open_all.ensures.opened
    ∙ ap (λ (t : Table). t.versions) c.self.view_is

pub returns-in_err-open_all-clause-places : goal.returns-in_err-open_all-clause-places
returns-in_err-open_all-clause-places c = λ q h.
    place_there c.open_all.new.self q (opened_stays c.self.inside.slots c.open_all.new.self c.open_all.ensures.opened q
    (there_at_place c.self.inside.slots q (ap (λ (t : Table). set.contains t.places q) c.self.view_is ∙ h)))

pub returns-in_err-open_all-clause-elsewhere : goal.returns-in_err-open_all-clause-elsewhere
returns-in_err-open_all-clause-elsewhere c = λ q apart.
    opened_places c.self.inside.slots c.open_all.new.self q (c.open_all.ensures.elsewhere q apart)
    ∙ ap (λ (t : Table). set.contains t.places q) c.self.view_is

pub returns-in_err-open_all-clause-refused : goal.returns-in_err-open_all-clause-refused
returns-in_err-open_all-clause-refused c =
    on_err c.from_residual.result _ (table_is _ _ (returns-in_err-open_all-clause-versions c) refl (ap (λ (t : Table). t.arena) c.self.view_is))

pub returns-in_err-open_all-clause-succeeds : goal.returns-in_err-open_all-clause-succeeds
returns-in_err-open_all-clause-succeeds c = λ there fits.
    let ok : c.open_all.result ≡ Ok tt = c.open_all.ensures.succeeds (λ k d l.
    let write = get_or c.args.writes.now k d in
    let place : Place = (write.0, c.args.i) in
    there_at_place c.self.inside.slots place (ap (λ (t : Table). set.contains t.places place) c.self.view_is ∙ there k d l)) in
    let err : c.open_all.result ≡ Err c.in_err-open_all.field-0.0 = c.in_err-open_all.was in
    cc

-- if there is room for entries
pub returns-clause-ok : goal.returns-clause-ok
returns-clause-ok c =
    on_ok_weaker c.reserve.result (λ room. (λ k d l. place_there c.open_all.new.self _ (c.in_ok-open_all.ensures.ok k d l), room.0, room.1)) c.reserve.ensures.ok

pub returns-clause-versions : goal.returns-clause-versions
returns-clause-versions c =
    ap (λ (rs : List Record). versions_of rs c.open_all.new.self) c.reserve.ensures.records
    ∙ opened_versions c.self.inside.arena.records c.self.inside.slots c.open_all.new.self c.open_all.ensures.opened
    ∙ ap (λ (t : Table). t.versions) c.self.view_is

pub returns-clause-places : goal.returns-clause-places
returns-clause-places c = λ q h.
    place_there c.open_all.new.self q (opened_stays c.self.inside.slots c.open_all.new.self c.open_all.ensures.opened q
    (there_at_place c.self.inside.slots q (ap (λ (t : Table). set.contains t.places q) c.self.view_is ∙ h)))

pub returns-clause-elsewhere : goal.returns-clause-elsewhere
returns-clause-elsewhere c = λ q apart.
    opened_places c.self.inside.slots c.open_all.new.self q (c.open_all.ensures.elsewhere q apart)
    ∙ ap (λ (t : Table). set.contains t.places q) c.self.view_is

pub returns-clause-refused : goal.returns-clause-refused
returns-clause-refused c =
    on_err_weaker c.reserve.result (λ same. table_is _ _ (returns-clause-versions c) refl (same ∙ ap (λ (t : Table). t.arena) c.self.view_is)) c.reserve.ensures.unchanged
