use Rattle.std.proofs.Common.{ap, ◌∙◌}
use Rattle.std.specs.Result.{result_ok}
use Rattle.rv_names.proofs.Digits.{digits_are_text, digits_small, digits_read}
use Rattle.rv_names.proofs.numbers.value.Goals as goal

pub returns-in_default-clause-value : goal.returns-in_default-clause-value
returns-in_default-clause-value c = absurd (c.in_default.ensures.cases.0 (digits_are_text c.args.radix c.args.digits.now c.requires.high c.requires.digits))

pub returns-in_default-clause-small : goal.returns-in_default-clause-small
returns-in_default-clause-small c = digits_small c.args.radix c.args.digits.now c.requires.low c.requires.high c.requires.digits c.requires.short

pub returns-clause-value : goal.returns-clause-value
returns-clause-value c =
    let e = digits_read c.args.radix c.args.digits.now c.in-Ok.text.now c.from_str_radix.result c.in-Ok.ensures.cases.0 c.from_str_radix.ensures.value c.requires.low c.requires.high c.requires.digits c.requires.some c.requires.short in
    c.ok.ensures.value ∙ ap result_ok e

pub returns-clause-small : goal.returns-clause-small
returns-clause-small c = digits_small c.args.radix c.args.digits.now c.requires.low c.requires.high c.requires.digits c.requires.short
