-- What a filled buffer says of the bytes that are left.
use Rattle.std.proofs.Common.{◌≡◌, ◌==◌, ℕ, Bool, true, List, [], Option, Some, None, IfSome, sym, ◌∙◌}
use Rattle.std.proofs.lemmas.Bool.{eqb-true}
use Rattle.std.specs.Io.KnownBytes.{Keeps}

-- no bytes are left if the buffer shows none
pub ended : (a b : Option (List ℕ)) (n : ℕ) (answer : Bool) → Keeps a b → IfSome b (λ xs. n ≡ 0 → xs ≡ []) → answer ≡ (n == 0) → IfSome a (λ xs. answer ≡ true → xs ≡ [])
ended None b n answer kept end is = tt
ended (Some xs) None n answer kept end is = absurd kept
ended (Some xs) (Some ys) n answer kept end is = λ h. sym kept ∙ end (eqb-true n 0 (sym is ∙ h))
