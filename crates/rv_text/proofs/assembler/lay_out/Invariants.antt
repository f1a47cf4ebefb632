use Rattle.std.proofs.Common.{◌≡◌, ◌+◌, drop}
use Rattle.rv_text.specs.Assembly.{layout_from, empty_layout}
use Rattle.rv_text.specs.Layout.{source_layout_of}
use Rattle.rv_text.proofs.Layouts.{texts}
use Rattle.rv_text.proofs.assembler.lay_out.Given as goal

-- the lines that are left, after what was laid down so far, give what all lines give
abbrev pub invariant-loop-index : goal.invariant-loop-index
invariant-loop-index l = layout_from (l.index + 1) (drop l.index (texts l.lines)) (source_layout_of l.layout) ≡ layout_from 1 (texts l.lines) empty_layout
