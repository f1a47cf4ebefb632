use Rattle.std.proofs.Common.{arith, sym, ap, ◌∙◌, Some}
use Rattle.std.specs.Option.{option_map}
use Rattle.version_arena.specs.ArenaState.{Record}
use Rattle.version_arena.specs.Lent.{lent}
use Rattle.mvmap.specs.Versions.{Stands}
use Rattle.mvmap.specs.Reading.{visible_over}
use Rattle.mvmap.specs.Slots.{entry_of, seen_in}
use Rattle.mvmap.specs.declared.slot.Slot.{Slot}
use Rattle.mvmap.proofs.Fills.{lent_within}
use Rattle.mvmap.proofs.Walks.{walk_ends, walk_starts, walk_stops}
use Rattle.mvmap.proofs.seek.seek.Goals as goal

pub loop-place-init : goal.loop-place-init
loop-place-init c = walk_starts c.args.at_key.now c.args.i c.count_below-place.result c.count_below-place.ensures

pub returns-in-Estimate : goal.returns-in-Estimate
returns-in-Estimate c =
    let rs = c.args.arena.now.records in
    let e = c.index-at_key-place.result in
    let seen = walk_stops rs c.args.at_key.now c.args.i c.loop-place.place e c.requires.ascending c.loop-place.invariant c.loop-place-test.true c.index-at_key-place.is in
    seen.1 ∙ ap (λ (s : Slot). visible_over e.0 (entry_of rs s) (seen_in rs c.args.at_key.now e.0)) c.in-Estimate.is

pub returns-in-Placed : goal.returns-in-Placed
returns-in-Placed c =
    let rs = c.args.arena.now.records in
    let e = c.index-at_key-place.result in
    let seen = walk_stops rs c.args.at_key.now c.args.i c.loop-place.place e c.requires.ascending c.loop-place.invariant c.loop-place-test.true c.index-at_key-place.is in
    let stands = ap (option_map (λ (x : Record). Stands x.incarnation x.change)) (sym (ap (option_map lent) c.unwrap.ensures) ∙ c.get.ensures) in
    rw c.standing.ensures
    (seen.2, seen.1 ∙ ap (λ o. visible_over e.0 o (seen_in rs c.args.at_key.now e.0)) (sym (stands ∙ ap (entry_of rs) (sym c.in-Placed.is))))

pub unwrap-requires : goal.unwrap-requires
unwrap-requires c =
    let e = c.index-at_key-place.result in
    let seen = walk_stops c.args.arena.now.records c.args.at_key.now c.args.i c.loop-place.place e c.requires.ascending c.loop-place.invariant c.loop-place-test.true c.index-at_key-place.is in
    lent_within lent c.args.arena.now.records c.get.result c.in-Placed.id c.get.ensures
    (c.requires.placed e.0 c.in-Placed.id (seen.0 ∙ ap Some c.in-Placed.is))

pub returns : goal.returns
returns c = walk_ends c.args.arena.now.records c.args.at_key.now c.args.i c.loop-place.place c.loop-place.invariant (omega (arith, c.loop-place-test.false))
