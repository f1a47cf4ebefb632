-- Private help of proofs; no public clause cites it. Some calls at each key, and how many waits there are at each.
use Rattle.std.specs.Prelude.{ℕ, ◌+◌, List, [], ◌∷◌, ◌++◌, fold, map}
use Rattle.std.specs.FinMap as finite
use Rattle.std.specs.Option.{unwrap_or}
use Rattle.rv_ledger.specs.Change.{ContentChange}
use Rattle.rv_ledger.specs.Key.{key_cmp}
use Rattle.conflicts.specs.Sums.{HotKeyView}
use Rattle.conflicts.specs.Waits.{Wait}

-- some calls at each key
abbrev pub CallLists : Type 0
CallLists = finite.FinMap key_cmp (List ℕ)

abbrev pub calls_at : CallLists → List ℕ → List ℕ
calls_at lists key = unwrap_or (finite.get lists key) []

-- one more call at a key
abbrev pub with_call_at : ℕ → CallLists → List ℕ → CallLists
with_call_at call lists key = finite.insert lists key (calls_at lists key ++ call ∷ [])

-- one more call at each key that it changes
abbrev pub with_call_changes : ℕ → List (List ℕ × ContentChange) → CallLists → CallLists
with_call_changes call changes lists = fold (λ before e. with_call_at call before e.0) lists changes

-- how many waits there are at each key
abbrev pub Counts : Type 0
Counts = finite.FinMap key_cmp ℕ

abbrev pub count_at : Counts → List ℕ → ℕ
count_at counts key = unwrap_or (finite.get counts key) 0

-- some more at a key
abbrev pub with_more : Counts → List ℕ → ℕ → Counts
with_more counts key n = finite.insert counts key (count_at counts key + n)

-- one more at the key of each wait
abbrev pub with_waits : Counts → List Wait → Counts
with_waits counts waits = fold (λ before wait. with_more before wait.key 1) counts waits

-- the writers of a key, and its waits
abbrev pub hot_key : CallLists → Counts → List ℕ → HotKeyView
hot_key writers waits key = record { key = key; writers = calls_at writers key; waits = count_at waits key }

-- the same of each key with a wait
abbrev pub hot_keys : CallLists → Counts → List HotKeyView
hot_keys writers waits = map (hot_key writers waits) (finite.keys waits)
