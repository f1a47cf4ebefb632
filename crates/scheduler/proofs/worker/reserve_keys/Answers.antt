use Rattle.std.proofs.Common.{◌<◌, arith, length, ap, ◌∙◌}
use Rattle.std.proofs.lemmas.List.{length-map}
use Rattle.scheduler.specs.Workers.{but_key_room}
use Rattle.scheduler.proofs.KeyRoom.{grown_more, rest_same, room_more}
use Rattle.scheduler.proofs.worker.reserve_keys.Goals as goal

pub returns-in_err-reserve_keys-clause-same : goal.returns-in_err-reserve_keys-clause-same
returns-in_err-reserve_keys-clause-same c =
    let workers = c.loop-index.workers.items in
    let count = ap length c.loop-index.invariant.same in
    let within : c.loop-index.index < length workers = omega (arith, count, length-map workers but_key_room, length-map c.args.workers.now.items but_key_room) in
    rest_same workers c.loop-index.index c.index_mut.result.now c.reserve_keys.new.self within c.index_mut.ensures.value c.reserve_keys.ensures.same ∙ c.loop-index.invariant.same

pub loop-index-preserved : goal.loop-index-preserved
loop-index-preserved c =
    let workers = c.loop-index.workers.items in
    let i = c.loop-index.index in
    let old = c.index_mut.result.now in
    let new = c.reserve_keys.new.self in
    let count = ap length c.loop-index.invariant.same in
    let within : i < length workers = omega (arith, count, length-map workers but_key_room, length-map c.args.workers.now.items but_key_room) in
    record {
      room = room_more workers i old new within c.index_mut.ensures.value c.args.count c.in_ok-reserve_keys.ensures.room c.loop-index.invariant.room;
      grown = grown_more workers i old new within c.index_mut.ensures.value c.args.workers.now.items c.reserve_keys.ensures.grown c.loop-index.invariant.grown;
      same = rest_same workers i old new within c.index_mut.ensures.value c.reserve_keys.ensures.same ∙ c.loop-index.invariant.same;
    }
