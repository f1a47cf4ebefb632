-- The entries of a block's result, as C gets them.
use Rattle.std.specs.Prelude.{ℕ, true, false, List, length, replicate, Option, Some, None}
use Rattle.std.specs.Arc.{arc_value}
use Rattle.std.specs.FinMap as map
use Rattle.std.specs.Option.{option_map}
use Rattle.elf32.specs.Layout.{Layout}
use Rattle.rv_ledger.specs.Change.{Content, ContentChange}
use Rattle.rv_ledger.specs.declared.change.Change.TheVariants as change
use Rattle.rv_ledger.specs.declared.end.End.{End}
use Rattle.rv_ledger.specs.declared.end.End.TheVariants as end
use Rattle.rv_ledger.specs.declared.end.Trap.TheVariants as trap
use Rattle.rv_ledger.specs.declared.receipt.Receipt.{Receipt}
use Rattle.rvstm_c.specs.Refusals.{padded}
use Rattle.rvstm_c.specs.declared.entries.ChangeForC.{ChangeForC}
use Rattle.rvstm_c.specs.declared.entries.ReceiptForC.{ReceiptForC}
use Rattle.rvstm_c.specs.declared.entries.WriteForC.{WriteForC}
use Rattle.rvstm_c.specs.declared.image.EmbeddedImage.{EmbeddedImage}

-- the program of a handle's image, if it has one
abbrev pub program_in : Option EmbeddedImage → Option Layout
program_in image = option_map (λ held. arc_value held.program) image

-- the numbers of the ends
abbrev pub end_number : End → ℕ
end_number end.Returned = 0
end_number end.Reverted = 1
end_number end.OutOfGas = 2
end_number (end.Trapped trap.Illegal) = 3
end_number (end.Trapped trap.Misaligned) = 4
end_number (end.Trapped trap.MemoryFault) = 5
end_number (end.Trapped trap.FetchFault) = 6
end_number (end.Trapped trap.Breakpoint) = 7
end_number (end.Trapped trap.UnknownCall) = 8
end_number (end.Trapped trap.BadLength) = 9
end_number (end.Trapped trap.TooManyWrites) = 10

abbrev pub receipt_for_c : Receipt → ReceiptForC
receipt_for_c r = record {
  end = end_number r.end;
  gas = r.gas;
  pc = r.pc;
  registers = r.regs;
  output_length = length r.out;
  writes = map.len r.writes;
}

abbrev pub write_for_c : List ℕ × ContentChange → WriteForC
write_for_c (key, change.Value value) = record { amount = 0; kind = 0; length = length value; key = key; value = padded 256 value }
write_for_c (key, change.Gone) = record { amount = 0; kind = 1; length = 0; key = key; value = replicate 256 0 }
write_for_c (key, change.Sum amount) = record { amount = amount; kind = 2; length = 0; key = key; value = replicate 256 0 }

abbrev pub change_for_c : List ℕ × Content → ChangeForC
change_for_c (key, Some value) = record { length = length value; present = true; key = key; value = padded 256 value }
change_for_c (key, None) = record { length = 0; present = false; key = key; value = replicate 256 0 }
