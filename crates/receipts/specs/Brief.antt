-- The text of receipts, with or without the registers.
use Rattle.std.specs.Prelude.{ℕ, List, [], ◌++◌, codes, Bool, true, false}
use Rattle.std.specs.FinMap.{entries}
use Rattle.std.specs.List.{enumerate_from, flat_map}
use Rattle.rv_ledger.specs.declared.receipt.Receipt.{Receipt}
use Rattle.receipts.specs.Text.{call_line, call_lines, printed_line, write_line}

-- the lines of a call; if they are brief, without the line of its registers
abbrev pub lines_of_call : Bool → ℕ × Receipt → List ℕ
lines_of_call false call = call_lines call
lines_of_call true (index, receipt) = call_line index receipt ++ flat_map (write_line index) (entries receipt.writes)

-- the calls in block order, numbered from 0, and the end
abbrev pub receipts_text : Bool → List Receipt → List ℕ
receipts_text is_brief receipts = flat_map (lines_of_call is_brief) (enumerate_from 0 receipts) ++ printed_line (codes "end") []
