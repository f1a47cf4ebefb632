use Rattle.std.proofs.Common.{◌≡◌, false, rules, arith, sym}
use Rattle.std.specs.Prelude.{codes}
use Rattle.std.specs.Str.{bytes_eq}
use Rattle.block_file.proofs.HexText.{read_long, long_bytes}
use Rattle.block_file.proofs.fields.value.Goals as goal

pub returns : goal.returns
returns c =
    let other : bytes_eq c.args.text.now (codes "-") ≡ false = search rules in
    long_bytes c.args.text.now 256 other
    (read_long c.args.text.now 256 (omega arith) (sym c.if-not-is_lower_hex.ensures) (omega arith))
