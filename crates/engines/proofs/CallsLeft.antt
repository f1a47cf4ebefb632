-- Calls after calls that were run.
use Rattle.std.proofs.Common.{◌≡◌, ℕ, List, ◌++◌, take, drop, append_assoc, ap, sym, ◌∙◌}
use Rattle.std.proofs.lemmas.List.{take-append-drop}
use Rattle.rv_ledger.specs.Call.{Invocation}
use Rattle.rv_ledger.specs.Key.{Storage}
use Rattle.rv_ledger.specs.declared.receipt.Receipt.{Receipt}
use Rattle.rv_step.specs.Fold.{receipts_of, store_after}
use Rattle.rv_step.proofs.CallsInOrder.{after_append, receipts_append}

module _ (n : ℕ) (left now later : List Invocation) (s next : Storage) (front : now ≡ take n left) (back : later ≡ drop n left) (is : next ≡ store_after now s) where
  parts : now ++ later ≡ left
  parts = ap (λ calls. calls ++ later) front ∙ ap (λ calls. take n left ++ calls) back ∙ take-append-drop n left

  -- the receipts of some calls before those of the others, which run on what these left
  pub receipts_of_all : (done more appended all : List Receipt) → more ≡ receipts_of now s → appended ≡ done ++ more → done ++ receipts_of left s ≡ all
      → appended ++ receipts_of later next ≡ all
  receipts_of_all done more appended all ran longer whole =
      ap (λ receipts. receipts ++ receipts_of later next) (longer ∙ ap (λ receipts. done ++ receipts) ran)
      ∙ append_assoc done (receipts_of now s) (receipts_of later next)
      ∙ ap (λ receipts. done ++ receipts) (ap (λ (t : Storage). receipts_of now s ++ receipts_of later t) is ∙ sym (receipts_append now later s) ∙ ap (λ calls. receipts_of calls s) parts)
      ∙ whole

  -- and what all of them leave
  pub store_of_all : (end : Storage) → store_after left s ≡ end → store_after later next ≡ end
  store_of_all end whole = ap (store_after later) is ∙ sym (after_append now later s) ∙ ap (λ calls. store_after calls s) parts ∙ whole
