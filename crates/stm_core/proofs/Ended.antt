-- What a run of a job leaves, once workers are done.
use Rattle.std.proofs.Common.{◌≡◌, ◌≤◌, ℕ, zero, suc, true, slice_get, option_and_then, List, [], ◌∷◌, length, map, None, Some, refl, ap, ◌∙◌}
use Rattle.std.specs.List.{filter_map}
use Rattle.std.specs.FinMap.{get, same_map, slice_cmp-IsAntisymmetric, nat_cmp-IsAntisymmetric}
use Rattle.std.specs.Cmp.Lexicographic.{nat_list_cmp_total}
use Rattle.rv_ledger.specs.Key.{Storage}
use Rattle.rv_ledger.specs.declared.job.Job.{Job}
use Rattle.rv_ledger.specs.declared.receipt.Receipt.{Receipt}
use Rattle.rv_step.specs.Fold.{receipts_of, store_after}
use Rattle.mvmap.specs.Table.{Table}
use Rattle.mvmap.specs.Versions.{entry_at}
use Rattle.mvmap.specs.Reading.{value_seen, reading}
use Rattle.stm_state.specs.declared.state.CallState.{CallState}
use Rattle.stm_state.specs.State.{is_done}
use Rattle.stm_state.specs.Done.{HasVersionsAlone, DoneHasVersionsAlone, DoneIsInOrder, block_of, last_receipt}
use Rattle.scheduler.specs.Schedule.{Schedule}
use Rattle.stm_core.specs.Inner.{IsReached, state_in}

-- the receipts of calls that all have one
all_receipts : (calls : List CallState) (receipts : List Receipt) → map last_receipt calls ≡ map Some receipts → filter_map last_receipt calls ≡ receipts
all_receipts [] [] h = refl
all_receipts [] (r ∷ receipts) h = cc
all_receipts (call ∷ calls) [] h = cc
all_receipts (call ∷ calls) (r ∷ receipts) h =
    let first : last_receipt call ≡ Some r = cc in
    let rest : map last_receipt calls ≡ map Some receipts = cc in
    rw first (ap (λ xs. r ∷ xs) (all_receipts calls receipts rest))

-- so the receipt of the call at an index is the one at that index
receipt_there : (calls : List CallState) (receipts : List Receipt) → map last_receipt calls ≡ map Some receipts → (i : ℕ) → option_and_then last_receipt (slice_get calls i) ≡ slice_get receipts i
receipt_there [] [] h i = refl
receipt_there [] (r ∷ receipts) h i = cc
receipt_there (call ∷ calls) [] h i = cc
receipt_there (call ∷ calls) (r ∷ receipts) h zero = cc
receipt_there (call ∷ calls) (r ∷ receipts) h (suc i) = let rest : map last_receipt calls ≡ map Some receipts = cc in receipt_there calls receipts rest i

module _ (job : Job) (table : Table) (promised : ℕ) (schedule : Schedule) (h : IsReached job table promised schedule) (done : is_done (state_in table promised schedule) ≡ true) where
  -- no entry is an estimate, and no call past the last one has an entry
  pub versions_alone : DoneHasVersionsAlone → HasVersionsAlone (block_of job.block job.store) (state_in table promised schedule)
  versions_alone law = law (block_of job.block job.store) (length schedule.tasks) (state_in table promised schedule) h.reached done

  -- the receipts are those of running the calls in order
  pub receipts_are : DoneIsInOrder → filter_map last_receipt schedule.calls ≡ receipts_of job.block job.store
  receipts_are law = all_receipts schedule.calls (receipts_of job.block job.store) (law job.block job.store (length schedule.tasks) (state_in table promised schedule) h.reached done).0

  pub receipt_is : DoneIsInOrder → (i : ℕ) → option_and_then last_receipt (slice_get schedule.calls i) ≡ slice_get (receipts_of job.block job.store) i
  receipt_is law = receipt_there schedule.calls (receipts_of job.block job.store) (law job.block job.store (length schedule.tasks) (state_in table promised schedule) h.reached done).0

  -- so is the storage
  pub store_is : DoneIsInOrder → DoneHasVersionsAlone → (store : Storage)
      → ((key : List ℕ) (i : ℕ) → ((w : ℕ) → i ≤ w → entry_at table.versions key w ≡ None) → get store key ≡ value_seen (get job.store key) (reading table.versions key i)) → store ≡ store_after job.block job.store
  store_is order alone store apply_writes = same_map nat_list_cmp_total (slice_cmp-IsAntisymmetric nat_cmp-IsAntisymmetric) store (store_after job.block job.store)
      (λ key. apply_writes key (length job.block) ((versions_alone alone).0 key) ∙ (order job.block job.store (length schedule.tasks) (state_in table promised schedule) h.reached done).1 key)
