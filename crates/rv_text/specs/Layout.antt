-- Private help of contracts: what a `Layout` says. No public clause cites it.
use Rattle.std.specs.Prelude.{map}
use Rattle.rv_text.specs.Assembly.{SourceLayout}
use Rattle.rv_text.specs.Shown.{shown_item, shown_labels}
use Rattle.rv_text.specs.declared.layout.Layout as code

abbrev pub source_layout_of : code.Layout → SourceLayout
source_layout_of layout = record {
  section = layout.section;
  items = map shown_item layout.items.items;
  text_size = layout.text_size;
  data_bytes = layout.data_bytes.items;
  labels = shown_labels layout.labels.entries;
}
