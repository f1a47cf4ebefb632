use Rattle.std.proofs.Common.{arith, ◌≡◌, ◌∙◌, ◌-◌, ◌+◌, ◌%◌, ap, length}
use Rattle.std.proofs.lemmas.List.{take-append-drop}
use Rattle.elf32.specs.Pages.{overwritten_at}
use Rattle.rv_mem.specs.Space.{written}
use Rattle.rv_mem.proofs.Flat.{over_pieces}
use Rattle.rv_mem.proofs.Calls.{memory_length}
use Rattle.rv_mem.proofs.pages.+put_in_pages.Goals as goal

pub returns-clause-space : goal.returns-clause-space
returns-clause-space t c =
    let space = c.args.pages.now.space in
    let parts = c.split_at.ensures in
    let first = c.split_at.result.0.now in
    let later = c.split_at.result.1.now in
    let room = 4096 - c.args.at % 4096 in
    let size : length c.args.pages.now.space.bytes ≡ 1048576 = rw (← c.pages.view_is) (memory_length c.pages.inside c.pages.invariant) in
    c.put_own-2.ensures.space
    ∙ ap (λ m. written m first c.args.at) c.put_in_pages.ensures.space
    ∙ ap (λ bytes. record space { bytes = bytes })
    (over_pieces space.bytes first later c.args.at (c.args.at + room) (omega arith) (omega arith)
    ∙ ap (overwritten_at space.bytes c.args.at) (rw (parts.front, parts.back) (take-append-drop room c.args.new.now)))
