use Rattle.std.specs.Str.Parse.{ExplainsUnsignedError, HasUnsignedDigitsIfOk, ParsesUnsigned}
use Rattle.clap.specs.Words.{found_of}
use Rattle.cmdline.proofs.Numbers.{number_is_found}
use Rattle.cmdline.proofs.requests.number_found.Goals as goal

pub returns : goal.returns
returns c =
    number_is_found _ (λ bs r. ParsesUnsigned 64 10 bs r × ExplainsUnsignedError 10 bs r × HasUnsignedDigitsIfOk bs r) (λ word x g. g.0)
    (found_of c.args.found.now) c.args.option.now c.get_one.result c.get_one.ensures.none c.get_one.ensures.value
