use Rattle.always_ends.proofs.Powers.{all_incarnations_are_bounded, incarnations_are_bounded, incarnations_have_causes}
use Rattle.always_ends.proofs.laws.incarnations_are_bounded.Goals as goal

pub returns : goal.returns
returns c = record { causes = incarnations_have_causes; each = incarnations_are_bounded; all = all_incarnations_are_bounded }
