use Rattle.std.proofs.Common.{◌∙◌, ap, length, sym}
use Rattle.std.specs.FinMap.{len-entries}
use Rattle.session_turns.proofs.state_lines.key_count.Goals as goal

pub returns : goal.returns
returns c = c.len.ensures.value ∙ ap length c.iter.ensures ∙ sym (len-entries c.args.store.now)
