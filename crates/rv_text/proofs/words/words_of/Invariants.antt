use Rattle.std.proofs.Common.{◌≡◌, drop, map}
use Rattle.rv_text.specs.Assembly.{item_words}
use Rattle.rv_text.specs.Shown.{shown_item, shown_labels}
use Rattle.rv_text.proofs.Appended.{behind}
use Rattle.rv_text.proofs.words.words_of.Given as goal

-- the words of the statements that are left, after the words so far, are the words of all
abbrev pub invariant-loop-item : goal.invariant-loop-item
invariant-loop-item l = behind l.text.items (item_words (shown_labels l.labels.entries) (drop l.item-index (map shown_item l.items))) ≡ item_words (shown_labels l.labels.entries) (map shown_item l.items)
