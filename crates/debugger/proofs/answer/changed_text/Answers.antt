use Rattle.std.proofs.Common.{◌≡◌, ℕ, Bool, true, if◌then◌else◌, Some, None, Ok, sym, ap, ◌∙◌, inl, rules}
use Rattle.debugger.specs.More.{changes}
use Rattle.debugger.specs.Replay.{ReplayState, RunsTo, are_bytes_in_memory}
use Rattle.debugger.specs.Session.{change_of, moved, stop_of}
use Rattle.debugger.proofs.Stops.{on_err, stop_is}
use Rattle.debugger.proofs.answer.changed_text.Goals as goal

-- a run to a change reached the moment of `change_of`
change_is : {X : Type 0} (address len : ℕ) (x : X) (old new : ReplayState) → are_bytes_in_memory address len ≡ true → RunsTo {X = X} (changes address len old) (Ok x) old new → change_of address len old ≡ Some new
change_is address len x old new within ran =
    ap (λ (b : Bool). if b then stop_of (changes address len old) old else None) within
    ∙ stop_is (changes address len old) old new ran

pub returns-in-Ok-clause-text : goal.returns-in-Ok-clause-text
returns-in-Ok-clause-text c =
    let found = change_is c.args.address c.args.count c.in-Ok.field-0 c.args.replay.now c.run_to_change.new.self c.in-Ok.ensures.0 c.in-Ok.ensures.1 in
    rw found (search rules)

pub returns-in-Ok-clause-replay : goal.returns-in-Ok-clause-replay
returns-in-Ok-clause-replay c =
    let found = change_is c.args.address c.args.count c.in-Ok.field-0 c.args.replay.now c.run_to_change.new.self c.in-Ok.ensures.0 c.in-Ok.ensures.1 in
    rw found (search rules)

pub returns-in-Ok-clause-err : goal.returns-in-Ok-clause-err
returns-in-Ok-clause-err c =
    let found = change_is c.args.address c.args.count c.in-Ok.field-0 c.args.replay.now c.run_to_change.new.self c.in-Ok.ensures.0 c.in-Ok.ensures.1 in
    on_err c.where_line.result _ (inl (sym (ap (moved c.args.replay.now) found)))
