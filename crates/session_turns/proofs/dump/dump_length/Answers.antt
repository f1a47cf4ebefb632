use Rattle.std.proofs.Common.{◌≡◌, ◌∙◌, ◌+◌, ap, arith, length, length-append, sym}
use Rattle.std.specs.FinMap.{entries}
use Rattle.std.specs.List.{flat_map}
use Rattle.receipts.specs.Text.{store_line}
use Rattle.session_turns.specs.Telling.{dump_head}
use Rattle.session_turns.proofs.Dumps.{head_is}
use Rattle.session_turns.proofs.dump.dump_length.Goals as goal

pub loop-key-init : goal.loop-key-init
loop-key-init c =
    let all : c.into_iter-key-iterator.result ≡ entries c.args.store.now = c.into_iter-key-iterator.ensures.into_iter_gives ∙ c.iter-key-items.ensures in
    record {
      so_far = ap (λ items. c.head_length-length.result + length (flat_map store_line items)) all ∙ ap (λ n. n + length (flat_map store_line (entries c.args.store.now))) c.head_length-length.ensures
          ∙ sym (length-append (dump_head c.args.rules) (flat_map store_line (entries c.args.store.now)));
      small = omega (arith, head_is c.args.rules, c.head_length-length.ensures, ap length all);
    }
