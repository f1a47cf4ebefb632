use Rattle.std.proofs.Common.{arith, ◌≡◌, ◌++◌, ◌∷◌, [], List, map, ◌∙◌, sym, ap, length-set}
use Rattle.std.specs.List.{range_with_len}
use Rattle.std.proofs.lemmas.List.{take_more_set, take_all}
use Rattle.std.proofs.lemmas.List.FromFn.{map-range_with_len_more}
use Rattle.elf32.specs.declared.segment.Rights.{Rights}
use Rattle.elf32.specs.Pages.{rights_of_page, page_rights}
use Rattle.elf32.proofs.rights.page_rights.Goals as goal

pub loop-page-preserved : goal.loop-page-preserved
loop-page-preserved g c =
    let before = c.loop-page.rights in
    let page = c.loop-page.page in
    let rights = c.rights_of_page.result in
    record {
      rights =
          take_more_set before page rights (omega arith)
          ∙ ap (λ (l : List Rights). l ++ rights ∷ []) c.loop-page.invariant.rights
          ∙ ap (λ (r : Rights). map (rights_of_page c.args.segments.now) (range_with_len 0 page) ++ r ∷ []) c.rights_of_page.ensures
          ∙ sym (map-range_with_len_more (rights_of_page c.args.segments.now) 0 page page (omega arith));
      len = length-set before page rights ∙ c.loop-page.invariant.len;
    }

pub returns-clause-value : goal.returns-clause-value
unfolding page_rights
returns-clause-value g c =
    let end : c.loop-page.page ≡ g.row.N = omega arith in
    sym (take_all c.loop-page.page c.loop-page.rights (omega arith))
    ∙ c.loop-page.invariant.rights
    ∙ ap (λ n. map (rights_of_page c.args.segments.now) (range_with_len 0 n)) end
