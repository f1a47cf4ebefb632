use Rattle.std.proofs.Common.{◌≡◌, ◌⊎◌, ◌-◌, Bool, true, false, List, ℕ, [], ◌++◌, cond, inl, inr, replicate, take, ◌∙◌, arith}
use Rattle.std.proofs.lemmas.List.{take_all}
use Rattle.std.specs.Result.{is_ok}
use Rattle.mvmap.specs.declared.hints.TheConstants.{BUCKET_COUNT, NO_HINT}
use Rattle.mvmap.proofs.hints.Hints.open.Goals as goal

-- a list without elements is made `count` long, or stays empty if that was refused
made : (ok : Bool) (was now : List ℕ) (n count content : ℕ) → was ≡ [] → n ≡ 0 → now ≡ cond ok (take count was ++ replicate (count - n) content) was → (now ≡ []) ⊎ (now ≡ replicate count content)
made true was now n count content none empty is =
    let all : count - n ≡ count = omega arith in
    inr (is ∙ rw (none, all, take_all {A = ℕ} count [] (omega arith)))
made false was now n count content none empty is = inl (is ∙ none)

pub returns : goal.returns
returns c = made (is_ok c.resize.result) c.clear.new.self.items c.resize.new.self.items _ BUCKET_COUNT NO_HINT c.clear.ensures.items c.clear.ensures.len c.resize.ensures.items
