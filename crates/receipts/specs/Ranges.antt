-- The ranges of the numbers in a result: 64 bits, 32 bits, or a byte.
use Rattle.std.specs.Prelude.{ℕ, ◌<◌, ◌^◌, List, All}
use Rattle.std.specs.FinMap.{entries}
use Rattle.rv_ledger.specs.Change.{ContentChange}
use Rattle.rv_ledger.specs.Key.{Storage}
use Rattle.rv_ledger.specs.declared.change.Change.TheVariants as change
use Rattle.rv_ledger.specs.declared.receipt.Receipt.{Receipt}

-- every number is a byte
abbrev pub AreBytes : List ℕ → Type 0
AreBytes numbers = All (λ n. n < 256) numbers

-- every number has 32 bits
abbrev pub AreWords : List ℕ → Type 0
AreWords numbers = All (λ n. n < 2 ^ 32) numbers

-- a value of bytes, a removal, or an amount of 64 bits
abbrev pub IsChangeInRange : ContentChange → Type 0
IsChangeInRange (change.Value value) = AreBytes value
IsChangeInRange change.Gone = Unit {0}
IsChangeInRange (change.Sum amount) = amount < 2 ^ 64

-- a key of bytes, and such a change
pub record IsWriteInRange (write : List ℕ × ContentChange) : Type 0 where
  pub key : AreBytes write.0
  pub change : IsChangeInRange write.1

-- a key and a value of bytes
pub record IsEntryInRange (entry : List ℕ × List ℕ) : Type 0 where
  pub key : AreBytes entry.0
  pub value : AreBytes entry.1

-- gas, pc and registers have 32 bits, and output, keys and values are bytes
pub record IsReceiptInRange (receipt : Receipt) : Type 0 where
  pub gas : receipt.gas < 2 ^ 32
  pub pc : receipt.pc < 2 ^ 32
  pub out : AreBytes receipt.out
  pub regs : AreWords receipt.regs
  pub writes : All IsWriteInRange (entries receipt.writes)

-- the numbers of some receipts and of a storage are in their ranges
pub record AreInRange (receipts : List Receipt) (store : Storage) : Type 0 where
  pub each_receipt : All IsReceiptInRange receipts
  pub each_entry : All IsEntryInRange (entries store)
