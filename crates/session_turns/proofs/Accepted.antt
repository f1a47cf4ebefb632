-- Whether a frame may run: its gas and its rules.
use Rattle.std.proofs.Common.{◌≡◌, ◌≤◌, ◌+◌, ◌∷◌, [], ℕ, List, false, map, nat_lt, refl, sym, ap, ◌∙◌, arith}
use Rattle.std.specs.List.{sum_by}
use Rattle.std.proofs.lemmas.Bool.Decides.{nat_tests}
use Rattle.std.proofs.lemmas.List.Sums.{sum_by-cons}
use Rattle.block_file.specs.Block.{CallValue, call_value}
use Rattle.block_file.specs.declared.block_text.CallLine.{CallLine}

-- the gas limits of call lines have the same sum as those of the calls that the lines give
pub summed : (calls : List CallLine) → sum_by (λ call. call.gas) calls ≡ sum_by (λ call. call.gas) (map call_value calls)
summed [] = refl
summed (call ∷ calls) = sum_by-cons (λ (c : CallLine). c.gas) call calls ∙ ap (λ n. call.gas + n) (summed calls) ∙ sym (sum_by-cons (λ (c : CallValue). c.gas) (call_value call) (map call_value calls))

-- rules that are at least as high as others are not older than them
pub not_older : (a b x y : ℕ) → b ≤ a → a ≡ x → b ≡ y → nat_lt x y ≡ false
not_older a b x y within p q = grind (arith, nat_tests)
