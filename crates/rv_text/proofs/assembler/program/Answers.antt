use Rattle.std.proofs.Common.{arith, ap, map, ◌∙◌, sym}
use Rattle.rv_text.specs.Assembly.{item_words}
use Rattle.rv_text.specs.Shown.{shown_item, shown_labels}
use Rattle.rv_text.proofs.Sizes.{sized}
use Rattle.rv_text.proofs.assembler.program.Goals as goal

pub unreachable-requires : goal.unreachable-requires
unreachable-requires c =
    let words = ap (λ items. item_words (shown_labels c.args.layout.labels.entries) (map shown_item items)) (sym c.as_slice.ensures.value) ∙ c.in_ok-text.ensures in
    sized _ _ _ _ _ words c.args.layout.counted c.args.layout.text_within (omega arith) (sym c.new.ensures ∙ c.in-None.is)
