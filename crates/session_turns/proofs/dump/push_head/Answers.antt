use Rattle.std.proofs.Common.{◌≡◌, ◌∙◌, ◌++◌, ap, subst}
use Rattle.std.specs.Prelude.{codes}
use Rattle.std.specs.Fmt.{decimal}
use Rattle.byte_streams.proofs.Writers.{writer_of}
use Rattle.receipts.proofs.Buffers.{appended_then}
use Rattle.receipts.specs.Buffer.{Appended}
use Rattle.rv_ledger.specs.Rules.{rules_number}
use Rattle.session_turns.proofs.dump.push_head.Goals as goal

pub returns : goal.returns
returns g c =
    let number : c.from.result ≡ rules_number c.args.rules = c.from.ensures ∙ c.number.ensures in
    subst (Appended (writer_of g.W.Write g.W.Destination) c.args.text.now c.args.out.now c.push-2.new.self c.push-2.new.out)
    (ap (λ n. codes "rvblock 2\ngas " ++ (decimal n ++ codes "\n")) number)
    (appended_then c.push.ensures (appended_then c.push_decimal.ensures c.push-2.ensures))
