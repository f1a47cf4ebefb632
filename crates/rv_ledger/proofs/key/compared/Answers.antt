use Rattle.std.proofs.Common.{◌+◌, ◌*◌, ◌∙◌, List, ℕ, [], drop, refl, sym, ap, arith, nat_cmp}
use Rattle.std.specs.Cmp.Lexicographic.{slice_cmp}
use Rattle.byteorder.specs.Endian.{big_from}
use Rattle.std.proofs.lemmas.List.{drop_all}
use Rattle.rv_ledger.proofs.Words.{by_word, then_equal, then_unequal}
use Rattle.rv_ledger.proofs.key.compared.Goals as goal

pub loop-word-init : goal.loop-word-init
loop-word-init c = refl

pub returns-then-first-second : goal.returns-then-first-second
returns-then-first-second c =
    let xs = c.args.left.now in
    let ys = c.args.right.now in
    let at = c.loop-word.word * 8 in
    let rest = slice_cmp nat_cmp (drop ((c.loop-word.word + 1) * 8) xs) (drop ((c.loop-word.word + 1) * 8) ys) in
    let step = by_word c.loop-word.word xs ys c.fits-left c.fits-right c.told-left c.told-right (omega arith) in
    c.cmp.ensures
    ∙ ap (λ n. nat_cmp n c.word_at-second.result) c.word_at-first.ensures
    ∙ ap (nat_cmp (big_from 0 8 (drop at xs))) c.word_at-second.ensures
    ∙ sym (then_unequal (big_from 0 8 (drop at xs)) (big_from 0 8 (drop at ys)) rest (λ e. c.if-first-second.true (c.word_at-first.ensures ∙ e ∙ sym c.word_at-second.ensures)))
    ∙ sym step
    ∙ sym c.loop-word.invariant

pub loop-word-preserved : goal.loop-word-preserved
loop-word-preserved c =
    let step = by_word c.loop-word.word c.args.left.now c.args.right.now c.fits-left c.fits-right c.told-left c.told-right (omega arith) in
    c.loop-word.invariant ∙ step ∙ then_equal _ _ _ (sym c.word_at-first.ensures ∙ c.if-first-second.false ∙ c.word_at-second.ensures)

pub returns : goal.returns
returns c =
    let at = c.loop-word.word * 8 in
    sym (c.loop-word.invariant
    ∙ ap (λ (rest : List ℕ). slice_cmp nat_cmp rest (drop at c.args.right.now)) (drop_all at c.args.left.now (omega arith))
    ∙ ap (slice_cmp nat_cmp []) (drop_all at c.args.right.now (omega arith)))
