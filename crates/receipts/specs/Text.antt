-- The text of a result: what each call did, and the storage after the last one.
use Rattle.std.specs.Prelude.{ℕ, List, [], ◌∷◌, ◌++◌, codes, map}
use Rattle.std.specs.Fmt.{decimal}
use Rattle.std.specs.FinMap.{entries}
use Rattle.std.specs.Int.{to_be_bytes, w32}
use Rattle.std.specs.List.{enumerate_from, flat_map}
use Rattle.hex.specs.Hex.{encode_lower}
use Rattle.rv_ledger.specs.Change.{ContentChange}
use Rattle.rv_ledger.specs.Key.{Storage}
use Rattle.rv_ledger.specs.declared.change.Change.TheVariants as change
use Rattle.rv_ledger.specs.declared.end.End.{End}
use Rattle.rv_ledger.specs.declared.end.End.TheVariants.{Returned, Reverted, OutOfGas, Trapped}
use Rattle.rv_ledger.specs.declared.end.Trap.{Trap}
use Rattle.rv_ledger.specs.declared.end.Trap.TheVariants.{Illegal, Misaligned, MemoryFault, FetchFault, Breakpoint, UnknownCall, BadLength, TooManyWrites}
use Rattle.rv_ledger.specs.declared.receipt.Receipt.{Receipt}

-- the name of a trap
abbrev pub trap_name : Trap → List ℕ
trap_name Illegal = codes "illegal"
trap_name Misaligned = codes "misaligned"
trap_name MemoryFault = codes "memory-fault"
trap_name FetchFault = codes "fetch-fault"
trap_name Breakpoint = codes "breakpoint"
trap_name UnknownCall = codes "unknown-call"
trap_name BadLength = codes "bad-length"
trap_name TooManyWrites = codes "too-many-writes"

-- the name of a call's end
abbrev pub end_name : End → List ℕ
end_name Returned = codes "returned"
end_name Reverted = codes "reverted"
end_name OutOfGas = codes "out-of-gas"
end_name (Trapped trap) = trap_name trap

-- bytes in lower-case hex, two digits each, or a dash if there are none
abbrev pub bytes_text : List ℕ → List ℕ
bytes_text [] = codes "-"
bytes_text (b ∷ bytes) = encode_lower (b ∷ bytes)

-- a word in eight lower-case hex digits, the highest first
abbrev pub word_text : ℕ → List ℕ
word_text word = encode_lower (to_be_bytes w32 word)

-- what was done to a key: its value, `gone` if it was removed, or `add` and the amount
abbrev pub change_fields : ContentChange → List (List ℕ)
change_fields (change.Value value) = bytes_text value ∷ []
change_fields change.Gone = codes "gone" ∷ []
change_fields (change.Sum amount) = codes "add" ∷ decimal amount ∷ []

-- fields, each after a space, and the line's end
abbrev pub more_fields : List (List ℕ) → List ℕ
more_fields [] = codes "\n"
more_fields (field ∷ fields) = 32 ∷ (field ++ more_fields fields)

-- a line: a word, and the fields, each after one space
abbrev pub printed_line : List ℕ → List (List ℕ) → List ℕ
printed_line word fields = word ++ more_fields fields

-- how the call of an index ended
abbrev pub call_line : ℕ → Receipt → List ℕ
call_line index receipt =
    printed_line (codes "call") (
    decimal index ∷ end_name receipt.end ∷ codes "gas" ∷ decimal receipt.gas ∷ codes "pc" ∷ word_text receipt.pc
    ∷ codes "out" ∷ bytes_text receipt.out ∷ []
    )

-- the registers, x0 first
abbrev pub regs_line : List ℕ → List ℕ
regs_line regs = printed_line (codes "regs") (map word_text regs)

-- one write of the call of an index
abbrev pub write_line : ℕ → List ℕ × ContentChange → List ℕ
write_line index (key, change) = printed_line (codes "write") (decimal index ∷ encode_lower key ∷ change_fields change)

-- one key of the storage with its value
abbrev pub store_line : List ℕ × List ℕ → List ℕ
store_line (key, value) = printed_line (codes "store") (encode_lower key ∷ bytes_text value ∷ [])

-- all lines of a call, the writes by ascending key
abbrev pub call_lines : ℕ × Receipt → List ℕ
call_lines (index, receipt) =
    call_line index receipt ++ regs_line receipt.regs ++ flat_map (write_line index) (entries receipt.writes)

-- all lines: the calls in block order, numbered from 0, the storage by ascending key, and the end
abbrev pub result_text : List Receipt → Storage → List ℕ
result_text receipts store =
    flat_map call_lines (enumerate_from 0 receipts) ++ flat_map store_line (entries store) ++ printed_line (codes "end") []
