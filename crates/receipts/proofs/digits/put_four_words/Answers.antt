use Rattle.std.proofs.Common.{◌+◌, ◌++◌, ◌∙◌, ℕ, List, ap, take}
use Rattle.receipts.proofs.Words.{four_cut, four_put}
use Rattle.receipts.proofs.digits.put_four_words.Goals as goal

pub returns : goal.returns
returns c =
    let at : ℕ = c.args.at in
    let line : List ℕ = c.args.line.now in
    let put = four_put at line c.put_field.new.line c.put_field-2.new.line c.put_field-3.new.line c.put_field-4.new.line _ _ _ _
    (c.put_field.ensures ∙ ap (λ field. take at line ++ field) c.front_field.ensures)
    (c.put_field-2.ensures ∙ ap (λ field. take (at + 9) c.put_field.new.line ++ field) c.back_field.ensures)
    (c.put_field-3.ensures ∙ ap (λ field. take (at + 18) c.put_field-2.new.line ++ field) c.front_field-2.ensures)
    (c.put_field-4.ensures ∙ ap (λ field. take (at + 27) c.put_field-3.new.line ++ field) c.back_field-2.ensures) in
    put ∙ ap (λ fields. take at line ++ fields) (four_cut c.args.words.now c.word_bytes.result c.digits_of.result.0 c.digits_of.result.1 c.requires.words c.word_bytes.ensures c.digits_of.ensures.front c.digits_of.ensures.back)
