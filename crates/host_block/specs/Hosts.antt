-- A host over one storage: what it does with a run of a block.
use Rattle.std.specs.Prelude.{◌≡◌, ◌⊎◌, ℕ, List, [], ◌∷◌, Option, Some, IfSome}
use Rattle.std.specs.FinMap as map
use Rattle.overlay.specs.Overlay.{with_contents}
use Rattle.rv_ledger.specs.Call.{Invocation}
use Rattle.rv_ledger.specs.Key.{Storage}
use Rattle.rv_step.specs.Fold.{receipts_of, store_after}
use Rattle.host_block.specs.Ordered.{IsBaseKept, OrderedView, SameGiven}
use Rattle.host_block.specs.declared.ordered_run.BlockResult.{BlockResult}

-- the host answers what its storage has at the key that is asked for
abbrev pub IsAnsweredFrom : Storage → OrderedView → OrderedView → Type 0
IsAnsweredFrom store before after = (key : List ℕ) × (before.asked ≡ Some key) × IsBaseKept (map.get store key) before after

-- one call of the host: the run goes on, to wherever it stops; or it is answered; or the call is refused
abbrev pub IsHostCall : Storage → OrderedView → OrderedView → Type 0
IsHostCall store before after = SameGiven before after ⊎ IsAnsweredFrom store before after ⊎ (after ≡ before)

-- calls of the host one after another, by what each leaves
abbrev pub AreHostCalls : Storage → OrderedView → List OrderedView → OrderedView → Type 0
AreHostCalls store first [] last = last ≡ first
AreHostCalls store first (next ∷ later) last = IsHostCall store first next × AreHostCalls store next later last

-- the result, if there is one, is that of the calls one after another over a storage
abbrev pub IsResultOver : Storage → List Invocation → Option BlockResult → Type 0
IsResultOver store calls result = IfSome result (λ r. (r.receipts.now ≡ receipts_of calls store) × (with_contents store r.changes.now ≡ store_after calls store))
