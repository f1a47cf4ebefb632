use Rattle.std.proofs.Common.{◌+◌, ◌<◌, ◌∷◌, [], ◌++◌, All, length, map, set, take, ap, ◌∙◌, arith}
use Rattle.std.proofs.lemmas.List.{length-set, take_more_set}
use Rattle.std.proofs.lemmas.List.Elements.{All-push, All-same}
use Rattle.version_arena.specs.ArenaState.{ArenaState}
use Rattle.version_arena.specs.StoredRecords.{IsStored, record_of}
use Rattle.version_arena.proofs.StoredRecords.{all_stored, map_push, records_same, state_is}
use Rattle.version_arena.proofs.arena.Arena.place_lent.Goals as goal

-- there is room for one more record
there : (c : goal.After-at) → c.self.inside.len < length c.self.inside.stored.items
there c = omega (arith, c.requires.room, ap (λ (a : ArenaState). a.room) c.self.view_is)

pub invariant_of-self : goal.invariant_of-self
invariant_of-self c =
    let before = c.self.invariant in let olds = c.self.inside.stored.items in let len = c.self.inside.len in let added = c.of.result in
    let cs = c.self.inside.pool.chunks in let ds = c.of.new.pool.chunks in
    let long = length-set olds len added in
    let stored : All (IsStored ds) (take (len + 1) (set olds len added)) =
    All-same (IsStored ds) (take (len + 1) (set olds len added)) (take len olds ++ added ∷ []) (take_more_set olds len added (there c))
    (All-push (IsStored ds) (take len olds) added (all_stored cs ds c.of.ensures.keeps (take len olds) before.3) c.of.ensures.stored) in (
      omega (arith, long, there c),
      omega (arith, long, before.1),
      λ h. omega (arith, before.2 (omega (arith, there c)), c.of.ensures.room, c.len_of-bytes.ensures, c.requires.bytes, ap (λ (a : ArenaState). a.bytes) c.self.view_is),
      stored,
    )

pub returns-clause-placed : goal.returns-clause-placed
returns-clause-placed c =
    let olds = c.self.inside.stored.items in let len = c.self.inside.len in let added = c.of.result in
    let cs = c.self.inside.pool.chunks in let ds = c.of.new.pool.chunks in
    let records = ap (map (record_of ds)) (take_more_set olds len added (there c)) ∙ map_push (record_of ds) (take len olds) added
    ∙ ap (λ rs. rs ++ record_of ds added ∷ []) (records_same cs ds c.of.ensures.keeps (take len olds) c.self.invariant.3 ∙ ap (λ (a : ArenaState). a.records) c.self.view_is)
    ∙ ap (λ r. c.args.self.now.records ++ r ∷ []) c.of.ensures.record in
    state_is _ _ records (omega (arith, length-set olds len added, ap (λ (a : ArenaState). a.room) c.self.view_is)) (omega (arith, c.len_of-bytes.ensures, ap (λ (a : ArenaState). a.bytes) c.self.view_is))
