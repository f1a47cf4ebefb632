-- Private help of proofs; no public clause cites it. The calls that reads of each key name, in the table of the run in order.
use Rattle.std.specs.Prelude.{ℕ, List, [], ◌∷◌, ◌++◌, fold}
use Rattle.std.specs.FinMap as map
use Rattle.rv_ledger.specs.Change.{ContentChange}
use Rattle.rv_ledger.specs.declared.change.Change.TheVariants as change
use Rattle.std.specs.List.{flat_map, slice_get}
use Rattle.conflicts.specs.declared.key_waits.KeyWaits.{KeyWaits}
use Rattle.conflicts.specs.ByKey.{key_waits_from}
use Rattle.conflicts.specs.Calls.{CallLists, calls_at}
use Rattle.conflicts.specs.Reads.{Keys}
use Rattle.conflicts.specs.Waits.{Wait, waits_for}

-- the calls that are named below a change
abbrev pub below_change : ContentChange → List ℕ → List ℕ
below_change (change.Sum amount) calls = calls
below_change (change.Value value) calls = []
below_change change.Gone calls = []

-- the calls that reads of each key name, ascending, after a change of a key by the next call
abbrev pub after_change : ℕ → CallLists → List ℕ → ContentChange → CallLists
after_change call named key change = map.insert named key (below_change change (calls_at named key) ++ call ∷ [])

-- the same after its changes
abbrev pub after_changes : ℕ → List (List ℕ × ContentChange) → CallLists → CallLists
after_changes call changes named = fold (λ before e. after_change call before e.0 e.1) named changes

-- the waits of a call that reads these keys, at a key from the earliest call on
abbrev pub waits_in : CallLists → Keys → List Wait
waits_in named keys = flat_map (λ key. waits_for key (calls_at named key)) (map.keys keys)

-- the same, key by key
abbrev pub key_waits_in : CallLists → Keys → List KeyWaits
key_waits_in named keys = flat_map (λ key. key_waits_from key (slice_get (calls_at named key) 0)) (map.keys keys)
