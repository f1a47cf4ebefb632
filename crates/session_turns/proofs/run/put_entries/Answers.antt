use Rattle.std.proofs.Common.{◌≡◌, ◌∷◌, rules}
use Rattle.std.specs.FinMap as map
use Rattle.session_turns.proofs.Entries.{put_next}
use Rattle.session_turns.proofs.run.put_entries.Goals as goal

pub loop-key-preserved : goal.loop-key-preserved
loop-key-preserved c =
    let step : c.loop-key.key-iterator ≡ (c.in-Some.key.now, c.in-Some.value.now) ∷ c.next.new.self = search rules in
    put_next c.args.changes.now c.loop-key.changes c.set.new.self c.in-Some.key.now c.in-Some.value.now c.loop-key.key-iterator c.next.new.self (map.entries c.args.entries.now) c.loop-key.invariant step (search rules)
