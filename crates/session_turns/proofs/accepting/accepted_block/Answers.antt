use Rattle.std.proofs.Common.{◌≡◌, ◌∙◌, ap, false, sym}
use Rattle.std.specs.List.{sum_by}
use Rattle.block_file.specs.Block.{block_value}
use Rattle.block_file.specs.declared.block_text.CallLine.{CallLine}
use Rattle.session_turns.specs.Turn.{block_gas, is_above_limit}
use Rattle.session_turns.proofs.Accepted.{not_older, summed}
use Rattle.session_turns.proofs.Frames.{fails_programs}
use Rattle.session_turns.proofs.accepting.accepted_block.Goals as goal

pub returns-in-Err-clause-fails : goal.returns-in-Err-clause-fails
returns-in-Err-clause-fails c =
    let gas : c.gas_of.result ≡ block_gas (block_value c.args.block) = c.gas_of.ensures ∙ ap (sum_by (λ (call : CallLine). call.gas)) c.as_slice.ensures.value ∙ summed c.args.block.calls.items in
    let within : is_above_limit c.args.settings.frame_gas (block_gas (block_value c.args.block)) ≡ false = ap (is_above_limit c.args.settings.frame_gas) (sym gas) ∙ sym c.is_above.ensures ∙ c.if-is_above.false in
    fails_programs c.args.settings c.args.state.now (block_value c.args.block) c.in-Err.stop within (not_older _ _ _ _ c.if-number.false c.number.ensures c.number-2.ensures) (rw c.as_slice-2.ensures.value at c.in-Err.ensures.err)
