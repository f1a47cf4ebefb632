-- Inputs that are cut off.
use Rattle.std.proofs.Common.{ℕ, ◌+◌, ◌-◌, ◌^◌, ◌<◌, ◌≤◌, List, ◌++◌, length, take, Option, Some, None, arith, inr, length-append}
use Rattle.std.proofs.lemmas.List.{length-take-le}
use Rattle.std.specs.Io.KnownBytes.{Consumes}
use Rattle.debugger.specs.Session.{MayBeCutOff}

-- a read that gives bytes takes at least one
pub one_more : (turn : ℕ) (heard part : List ℕ) (count : ℕ) → turn ≤ length heard → 0 < count → count ≤ length part → turn + 1 ≤ length (heard ++ take count part)
one_more turn heard part count before some within =
    rw (length-append heard (take count part)) (rw (length-take-le count part within) (omega arith))

-- an input of which this many bytes were taken has at least this many
pub too_long : (may_fail : Type 0) (old new : Option (List ℕ)) (heard : List ℕ) → 2 ^ 64 - 1 ≤ length heard → Consumes old new heard → MayBeCutOff may_fail old
too_long may_fail None new heard many taken = inr tt
too_long may_fail (Some xs) None heard many taken = absurd taken
too_long may_fail (Some xs) (Some ys) heard many taken = inr (rw taken (rw (length-append heard ys) (omega arith)))
