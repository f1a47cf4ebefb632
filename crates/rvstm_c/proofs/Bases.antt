-- What an answer makes of a run that asks for a key.
use Rattle.std.proofs.Common.{◌≡◌, ◌&&◌, ℕ, Bool, true, false, List, length, nat_lt, Option, Some, None, IsSome, sym, subst}
use Rattle.host_block.specs.Ordered.{OrderedView}
use Rattle.rvstm_c.specs.Blocks.{BlockStage, IsBasedAt, IsBasedIf, IsBasedRun, Runs, given_content}

on_asked : (o : Option (List ℕ)) (present : Bool) (value : List ℕ) (run : OrderedView) (status : ℕ) (after : BlockStage) → IsSome o
    → IsBasedIf (present && nat_lt 256 (length value)) (given_content present value) run status after → IsBasedRun o present value run status after
on_asked (Some key) present value run status after some h = h
on_asked None present value run status after some h = absurd (no some)
  where
    no : IsSome {T = List ℕ} None → ⊥
    no s = cc

pub is_absent : (s : BlockStage) (run : OrderedView) (present : Bool) (value : List ℕ) (status : ℕ) (after : BlockStage) → s ≡ Runs run → present ≡ false → IsSome run.asked
    → IsBasedIf false None run status after → IsBasedAt present value s status after
is_absent s run present value status after is absent asked h =
    subst (λ (z : BlockStage). IsBasedAt present value z status after) (sym is)
    (subst (λ b. IsBasedAt b value (Runs run) status after) (sym absent) (on_asked run.asked false value run status after asked h))

pub is_present : (s : BlockStage) (run : OrderedView) (present : Bool) (value : List ℕ) (status : ℕ) (after : BlockStage) → s ≡ Runs run → present ≡ true → IsSome run.asked
    → nat_lt 256 (length value) ≡ false → IsBasedIf false (Some value) run status after → IsBasedAt present value s status after
is_present s run present value status after is there asked fits h =
    subst (λ (z : BlockStage). IsBasedAt present value z status after) (sym is)
    (subst (λ b. IsBasedAt b value (Runs run) status after) (sym there) (on_asked run.asked true value run status after asked (subst (λ b. IsBasedIf b (Some value) run status after) (sym fits) h)))
