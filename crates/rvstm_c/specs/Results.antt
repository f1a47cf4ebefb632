-- What the calls on the result of a block copy.
use Rattle.std.specs.Prelude.{◌≡◌, ℕ, List, length, slice_get, Option, Some, None}
use Rattle.std.specs.FinMap as map
use Rattle.std.specs.Option.{option_map}
use Rattle.rv_ledger.specs.Change.{Content}
use Rattle.rv_ledger.specs.declared.receipt.Receipt.{Receipt}
use Rattle.session_requests.specs.Requests.{◌>>=◌}
use Rattle.rvstm_c.specs.Blocks.{result_in}
use Rattle.rvstm_c.specs.Embedding.{IsCopied}
use Rattle.rvstm_c.specs.Entries.{change_for_c, receipt_for_c, write_for_c}
use Rattle.rvstm_c.specs.Statuses.{closed, no_entry, wrong_stage}
use Rattle.rvstm_c.specs.declared.block.EmbeddedBlock.{EmbeddedBlock}
use Rattle.rvstm_c.specs.declared.entries.ChangeForC.{ChangeForC}
use Rattle.rvstm_c.specs.declared.entries.EntriesForC.{EntriesForC}
use Rattle.rvstm_c.specs.declared.entries.ReceiptForC.{ReceiptForC}
use Rattle.rvstm_c.specs.declared.entries.WriteForC.{WriteForC}

-- the receipts and the changes of a block
abbrev pub ResultLists : Type 0
ResultLists = List Receipt × List (List ℕ × Content)

abbrev pub entries_of : ResultLists → Option EntriesForC
entries_of result = Some (record { receipts = length result.0; changes = length result.1 })

abbrev pub given_receipt : ℕ → ResultLists → Option ReceiptForC
given_receipt call result = option_map receipt_for_c (slice_get result.0 call)

abbrev pub given_write : ℕ → ℕ → ResultLists → Option WriteForC
given_write call index result = slice_get result.0 call >>= (λ receipt. option_map write_for_c (slice_get (map.entries receipt.writes) index))

abbrev pub given_change : ℕ → ResultLists → Option ChangeForC
given_change index result = option_map change_for_c (slice_get result.1 index)

-- the output of a call was copied to a buffer; or there is no result, or no such call
abbrev pub IsOutputOf : Option Receipt → List ℕ → ℕ → List ℕ → Type 0
IsOutputOf None before status after = (status ≡ no_entry) × (after ≡ before)
IsOutputOf (Some receipt) before status after = IsCopied receipt.out before status after

abbrev pub IsOutputCopiedAt : ℕ → Option ResultLists → List ℕ → ℕ → List ℕ → Type 0
IsOutputCopiedAt call None before status after = (status ≡ wrong_stage) × (after ≡ before)
IsOutputCopiedAt call (Some result) before status after = IsOutputOf (slice_get result.0 call) before status after

abbrev pub IsOutputCopied : ℕ → Option EmbeddedBlock → List ℕ → ℕ → List ℕ → Type 0
IsOutputCopied call None before status after = (status ≡ closed) × (after ≡ before)
IsOutputCopied call (Some block) before status after = IsOutputCopiedAt call (result_in (Some block)) before status after
