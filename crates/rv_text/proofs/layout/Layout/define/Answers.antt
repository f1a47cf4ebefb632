use Rattle.std.proofs.Common.{ap, sym, ◌∙◌, inr, is_some, Ok}
use Rattle.std.specs.Option.{option_map}
use Rattle.rv_text.specs.Assembly.{with_label}
use Rattle.rv_text.specs.Layout.{source_layout_of}
use Rattle.rv_text.proofs.Places.{place_shown, again, anew, inserted}
use Rattle.rv_text.proofs.layout.Layout.define.Goals as goal

pub returns-then-is_some : goal.returns-then-is_some
returns-then-is_some c =
    let known = place_shown c.args.self.now.labels.entries c.in-Some.name.now ∙ sym c.in_ok-insert.ensures.old in
    inr (ap (λ label. with_label (option_map (λ name. name.now) label) (source_layout_of c.args.self.now)) c.in-Some.is ∙ again _ _ (ap is_some known ∙ sym c.if-is_some.ensures))

pub returns : goal.returns
returns c =
    let known = place_shown c.args.self.now.labels.entries c.in-Some.name.now ∙ sym c.in_ok-insert.ensures.old in
    ap (λ label. with_label (option_map (λ name. name.now) label) (source_layout_of c.args.self.now)) c.in-Some.is
    ∙ anew _ _ (ap is_some known ∙ sym c.if-is_some.ensures)
    ∙ ap (λ labels. Ok (record (source_layout_of c.args.self.now) { labels = labels })) (inserted c.args.self.now.labels _ c.in-Some.name _ _ _ c.in_ok-insert.ensures.old (sym c.if-is_some.ensures) c.place-place.ensures c.in_ok-insert.ensures.entries)
