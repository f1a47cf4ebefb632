use Rattle.std.proofs.Common.{ℕ, subst}
use Rattle.std.specs.Prelude.{codes}
use Rattle.byte_streams.proofs.Writers.{writer_of}
use Rattle.receipts.proofs.Buffers.{appended_then}
use Rattle.receipts.specs.Buffer.{Appended}
use Rattle.session_turns.specs.Telling.{number_line}
use Rattle.session_turns.proofs.state_lines.push_settings.Goals as goal

pub returns : goal.returns
returns g c =
    let last = subst
    (λ (n : ℕ). Appended (writer_of g.W.Write g.W.Destination) c.push_gas.new.text c.push_gas.new.out c.push_number-2.new.text c.push_number-2.new.out (number_line (codes "brief") n))
    c.one_if.ensures c.push_number-2.ensures in
    appended_then (appended_then c.push_number.ensures c.push_gas.ensures) last
