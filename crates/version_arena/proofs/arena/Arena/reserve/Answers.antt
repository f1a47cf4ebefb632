use Rattle.std.proofs.Common.{◌≡◌, ◌+◌, ◌-◌, ◌≤◌, length, map, take, sym, ap, ◌∙◌, arith}
use Rattle.std.proofs.lemmas.Bool.{ltb-false}
use Rattle.std.proofs.lemmas.List.{length-map, length-take, take-take}
use Rattle.std.proofs.lemmas.List.Elements.{All-same}
use Rattle.version_arena.specs.ArenaState.{ArenaState}
use Rattle.version_arena.specs.StoredRecords.{IsStored, record_of}
use Rattle.version_arena.proofs.StoredRecords.{all_stored, records_same, on_err, state_is}
use Rattle.version_arena.proofs.arena.Arena.reserve.Goals as goal

pub invariant_of-self-in_err-grow : goal.invariant_of-self-in_err-grow
invariant_of-self-in_err-grow c =
    let before = c.self.invariant in let olds = c.self.inside.stored.items in let len = c.self.inside.len in let after = c.grow.new.stored.items in
    let cs = c.self.inside.pool.chunks in let ds = c.reserve.new.self.chunks in let keeps = c.reserve.ensures.keeps in
    let same = c.in_err-grow.ensures.unchanged in let long = ap length same in (
      omega (arith, before.0, long),
      omega (arith, before.1, long),
      λ h. omega (arith, before.2 (omega (arith, h, long)), c.reserve.ensures.room),
      All-same (IsStored ds) (take len after) (take len olds) (ap (take len) same) (all_stored cs ds keeps (take len olds) before.3),
    )

pub returns-in_err-grow-clause-records : goal.returns-in_err-grow-clause-records
returns-in_err-grow-clause-records c =
    let olds = c.self.inside.stored.items in let len = c.self.inside.len in let cs = c.self.inside.pool.chunks in let ds = c.reserve.new.self.chunks in
    ap (λ ss. map (record_of ds) (take len ss)) c.in_err-grow.ensures.unchanged ∙ records_same cs ds c.reserve.ensures.keeps (take len olds) c.self.invariant.3 ∙ ap (λ (a : ArenaState). a.records) c.self.view_is

pub returns-in_err-grow-clause-unchanged : goal.returns-in_err-grow-clause-unchanged
returns-in_err-grow-clause-unchanged c =
    let room = ap (λ ss. length ss - c.self.inside.len) c.in_err-grow.ensures.unchanged ∙ ap (λ (a : ArenaState). a.room) c.self.view_is in
    on_err c.from_residual-in_err-grow.result _ (state_is _ _ (returns-in_err-grow-clause-records c) room (ap (λ (a : ArenaState). a.bytes) c.self.view_is))

-- the places with a record are as they were
front : (c : goal.After-self-1) → take c.self.inside.len c.grow.new.stored.items ≡ take c.self.inside.len c.self.inside.stored.items
front c =
    let olds = c.self.inside.stored.items in let len = c.self.inside.len in
    sym (take-take len (length olds) c.grow.new.stored.items c.self.invariant.0) ∙ ap (take len) c.grow.ensures.begins

pub invariant_of-self-2 : goal.invariant_of-self-2
invariant_of-self-2 c =
    let before = c.self.invariant in let olds = c.self.inside.stored.items in let len = c.self.inside.len in let after = c.grow.new.stored.items in
    let cs = c.self.inside.pool.chunks in let ds = c.reserve.new.self.chunks in let keeps = c.reserve.ensures.keeps in
    let long = c.in_ok-grow.ensures.ok in let count = len + c.args.records in
    let limit : count ≤ 1048576 =
    let records = c.args.self.now.records in
    omega (
      arith,
      ltb-false 1048576 (length records + c.args.records) (sym c.if-is_full_for.ensures.full),
      ap (λ (a : ArenaState). length a.records) c.self.view_is,
      length-map (take len olds) (record_of cs),
      length-take len olds,
      before.0,
    ) in (
      omega (arith, before.0, long),
      omega (arith, before.1, long, limit),
      λ h. omega (arith, c.in_ok-reserve.ensures.enough),
      All-same (IsStored ds) (take len after) (take len olds) (front c) (all_stored cs ds keeps (take len olds) before.3),
    )

pub returns-clause-records : goal.returns-clause-records
returns-clause-records c =
    let olds = c.self.inside.stored.items in let len = c.self.inside.len in let cs = c.self.inside.pool.chunks in let ds = c.reserve.new.self.chunks in
    ap (map (record_of ds)) (front c) ∙ records_same cs ds c.reserve.ensures.keeps (take len olds) c.self.invariant.3 ∙ ap (λ (a : ArenaState). a.records) c.self.view_is
