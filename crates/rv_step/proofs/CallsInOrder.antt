-- The writes of the receipts of calls, and calls after calls.
use Rattle.std.proofs.Common.{◌≡◌, List, [], ◌∷◌, ◌++◌, ap, refl}
use Rattle.rv_ledger.specs.Applied.{apply_receipts}
use Rattle.rv_ledger.specs.Call.{Invocation}
use Rattle.rv_ledger.specs.Key.{Storage}
use Rattle.rv_step.specs.Chain.{ends}
use Rattle.rv_step.specs.Fold.{receipts_of, store_after, store_after_call}

-- the writes of the receipts of calls leave the same storage as the calls
pub receipts_applied : (calls : List Invocation) (s : Storage) → apply_receipts s (receipts_of calls s) ≡ store_after calls s
unfolding receipts_of store_after
receipts_applied [] s = refl
receipts_applied (call ∷ calls) s = receipts_applied calls (store_after_call call s)

-- the receipts of calls and then of other calls
pub receipts_append : (first rest : List Invocation) (s : Storage) → receipts_of (first ++ rest) s ≡ receipts_of first s ++ receipts_of rest (store_after first s)
unfolding receipts_of store_after
receipts_append [] rest s = refl
receipts_append (call ∷ calls) rest s = ap (λ receipts. ends call s ∷ receipts) (receipts_append calls rest (store_after_call call s))

-- and the storage that they leave
pub after_append : (first rest : List Invocation) (s : Storage) → store_after (first ++ rest) s ≡ store_after rest (store_after first s)
unfolding store_after
after_append [] rest s = refl
after_append (call ∷ calls) rest s = after_append calls rest (store_after_call call s)
