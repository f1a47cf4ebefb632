use Rattle.std.proofs.Common.{◌≡◌, None, ◌∙◌, sym, rules}
use Rattle.rvstm_c.proofs.Loads.{opened_none}
use Rattle.rvstm_c.proofs.image_calls.rvstm_image_open.Goals as goal

pub returns-in-None : goal.returns-in-None
returns-in-None c =
    let none : c.args.handle.now.value ≡ None = search rules in
    let left : c.take_image.new.handle.value ≡ None = c.take_image.ensures.left in
    opened_none c.args.file.now c.in-Err.fault c.args.handle.now.value c.take_image.new.handle.value none left c.in-Err.ensures.err c.in-Err.ensures.memory (sym c.refusal_of.ensures ∙ c.in-None.is)
