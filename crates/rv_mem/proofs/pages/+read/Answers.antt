use Rattle.std.proofs.Common.{arith, ◌≡◌, ◌-◌, ◌%◌, length}
use Rattle.rv_mem.proofs.Flat.{take_pieces}
use Rattle.rv_mem.proofs.pages.+read.Goals as goal

pub returns : goal.returns
returns t c =
    let page = c.rest_of_page-page in
    let len : length page.result.now ≡ 4096 - c.args.at % 4096 = page.ensures.len in
    let later : length c.split_at_mut-here.result.1.now ≡ length c.args.out.now - (4096 - c.args.at % 4096) = omega arith in
    rw (c.copy_from_slice-2.ensures.after, c.read.ensures, later, len, page.ensures.value)
    (take_pieces c.args.pages.now.space.bytes c.args.at (4096 - c.args.at % 4096) (length c.args.out.now) (omega arith))
