use Rattle.std.proofs.Common.{◌≡◌, ◌+◌, ◌∙◌, List, Some, length, get_or, arith, ap, refl, subst, sym}
use Rattle.std.specs.FinMap.{len, len-entries}
use Rattle.version_arena.specs.ArenaState.{Record}
use Rattle.stm_state.specs.declared.state.CallState.{CallState}
use Rattle.stm_state.specs.declared.state.Recorded.{Recorded}
use Rattle.stm_state.specs.State.{fresh}
use Rattle.stm_state.specs.Steps.{after_record, counted, one_execution, written_by}
use Rattle.scheduler.specs.Schedule.{Schedule, state_of}
use Rattle.stm_core.specs.Inner.{IsPromised}
use Rattle.stm_core.proofs.Readied.{kept_is}
use Rattle.stm_core.proofs.recording.record_run.Goals as goal

pub make_record_room-requires : goal.make_record_room-requires
make_record_room-requires c =
    omega (arith, c.written_count-count.ensures.count, len-entries c.in-Some.kept.receipt.writes, c.in_ok-check_limits.ensures.within.0)

pub overflow_add-keys : goal.overflow_add-keys
overflow_add-keys c = omega (arith, c.written_count-count.ensures.limit, c.recorded_count.ensures.limit)

pub overflow_add-records : goal.overflow_add-records
overflow_add-records c = omega (arith, c.written_count-count.ensures.count, len-entries c.in-Some.kept.receipt.writes, c.in_ok-check_limits.ensures.within.0)

pub overflow_add-promised : goal.overflow_add-promised
overflow_add-promised c = omega (arith, c.written_count-count.ensures.count, len-entries c.in-Some.kept.receipt.writes, c.in_ok-check_limits.ensures.within.0)

pub keep_run-requires-clause-room : goal.keep_run-requires-clause-room
keep_run-requires-clause-room c = λ run at.
    let same : c.in-Some.kept ≡ run = (let both : Some c.in-Some.kept ≡ Some run = sym c.in-Some.is ∙ at in cc) in
    let last = ap (λ (t : Schedule). length (written_by (get_or t.calls c.args.call fresh).last)) c.make_record_room.ensures.same in
    let seen = ap (λ (k : CallState). length (written_by k.last)) c.call-state.ensures in
    omega (arith, c.written_count-count.ensures.count, len-entries c.in-Some.kept.receipt.writes, ap (λ (k : Recorded). len k.receipt.writes) same, c.recorded_count.ensures.count, seen, last, c.in-Ok.ensures.keys)

pub returns-clause-state : goal.returns-clause-state
returns-clause-state c =
    let old = c.args.map.now in
    let new = c.make_record_room.new.map in
    let kept = c.in-Some.kept in
    let added = c.args.promised.now + c.written_count-count.result in
    λ run is.
    let same = kept_is run c.args.ready.now is kept c.in-Some.is in
    let records : length new.arena.records ≡ length old.arena.records = ap (λ (rs : List Record). length rs) c.make_record_room.ensures.grown.records in
    let placed : length new.arena.records + added ≡ length old.arena.records + c.args.promised.now + len run.receipt.writes =
    omega (arith, records, c.written_count-count.ensures.count, len-entries kept.receipt.writes, ap (λ (k : Recorded). len k.receipt.writes) same) in
    ap (λ v. state_of v (length new.arena.records + added) c.keep_run.new.self) c.make_record_room.ensures.grown.versions
    ∙ ap (λ p. state_of old.versions p c.keep_run.new.self) placed
    ∙ c.keep_run.ensures.state _ is.recorded run.answers.items refl old.versions (length old.arena.records + c.args.promised.now)
    ∙ ap (λ (t : Schedule). counted one_execution c.args.worker (after_record c.args.worker c.args.call run.answers.items run.receipt (state_of old.versions (length old.arena.records + c.args.promised.now) t))) c.make_record_room.ensures.same

pub returns-clause-promised : goal.returns-clause-promised
returns-clause-promised c =
    let kept = c.in-Some.kept in
    let writes = kept.receipt.writes in
    let all : IsPromised c.args.call writes c.make_record_room.new.map c.args.promised.now (c.args.promised.now + c.written_count-count.result) = record {
      count = omega (arith, c.written_count-count.ensures.count, len-entries writes);
      places = c.in-Ok.ensures.open_;
      room = c.in-Ok.ensures.room;
      bytes = c.in-Ok.ensures.bytes;
    } in
    λ run is. subst (λ (k : Recorded). IsPromised c.args.call k.receipt.writes c.make_record_room.new.map c.args.promised.now (c.args.promised.now + c.written_count-count.result)) (kept_is run c.args.ready.now is kept c.in-Some.is) all
