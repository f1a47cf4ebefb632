-- Copies of nothing.
use Rattle.std.proofs.Common.{◌≡◌, ℕ, ◌-◌, true, List, [], ◌∷◌, length, Result, Ok, refl, ap, arith}
use Rattle.std.proofs.Math.Nat.{add-zero}
use Rattle.std.proofs.lemmas.List.{append-nil, take-append-drop}
use Rattle.elf32.specs.Pages.{overwritten_at}
use Rattle.rv_mem.specs.Space.{AccessFault, Space, allows_range, copied}
use Rattle.rv_mem.specs.declared.access.Access.TheVariants.{Write}

-- nothing written over a list leaves it unchanged
pub over_nothing : (bytes : List ℕ) (place : ℕ) (new : List ℕ) → length new ≡ 0 → overwritten_at bytes place new ≡ bytes
unfolding overwritten_at
over_nothing bytes place [] h = simp (append-nil, add-zero, take-append-drop)
over_nothing bytes place (x ∷ new) h = absurd (omega arith)

-- an allowed copy of nothing leaves memory unchanged
pub copied_nothing : (m : Space) (a : ℕ) (new : List ℕ) → allows_range Write m.rights a (length new) ≡ true → length new ≡ 0 → copied m a new ≡ Ok m
copied_nothing m a [] h l =
    let f : List ℕ → Result Space AccessFault = λ bytes. Ok (record m { bytes = bytes }) in
    rw h (ap f (over_nothing m.bytes (a - 65536) [] refl))
copied_nothing m a (x ∷ xs) h l = absurd (omega arith)
