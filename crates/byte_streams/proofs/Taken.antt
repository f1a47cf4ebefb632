-- What a writer's answer says of the bytes that it holds.
use Rattle.std.proofs.Common.{◌≡◌, ℕ, zero, suc, ◌<◌, ◌≤◌, ◌==◌, false, List, [], ◌++◌, Option, Some, None, Result, Ok, Err, length, take, drop, arith, refl, append-nil, append_assoc, length-append, take-append-drop, ◌∙◌, ap, sym}
use Rattle.std.specs.Prelude.{IfErr, IfOk, OnErr}
use Rattle.std.specs.Io.{WritesAtMost}
use Rattle.std.specs.Io.KnownBytes.{Appends, Keeps, WriteAppends}
use Rattle.std.proofs.KnownBytes.{Appends-trans, Appends-kept}
use Rattle.std.proofs.Math.Seq.{take-append_seam}
use Rattle.std.proofs.lemmas.Bool.Decides.{nat_tests}
use Rattle.byte_streams.specs.declared.fault.WriteFault.{WriteFault}
use Rattle.byte_streams.specs.declared.fault.WriteFault.TheVariants.{Io, WroteNothing}
use Rattle.byte_streams.specs.Written.{taken_by, AppendsPart, IsWrittenBefore}

above_zero : (n : ℕ) → (suc n == 0) ≡ false
above_zero n = grind (arith, nat_tests)

-- at least one byte was taken
pub some_taken : {E : Type 0} (r : Result ℕ E) (a b : Option (List ℕ)) (bs : List ℕ) → WritesAtMost r bs → WriteAppends a b r bs → IfOk (taken_by r) (λ n. (0 < n) × (n ≤ length bs) × Appends a b (take n bs))
some_taken (Ok zero) a b bs most writes = tt
some_taken (Ok (suc n)) a b bs most writes = rw above_zero (omega arith, most, writes)
some_taken (Err e) a b bs most writes = tt

nothing_appended : (a b : Option (List ℕ)) → Appends a b [] → Keeps a b
nothing_appended None b writes = tt
nothing_appended (Some xs) None writes = writes
nothing_appended (Some xs) (Some ys) writes = writes ∙ append-nil xs

-- no byte was taken
pub none_taken : {E : Type 0} (r : Result ℕ E) (a b : Option (List ℕ)) (bs : List ℕ) → WriteAppends a b r bs → OnErr (taken_by r) (Keeps a b)
none_taken (Ok zero) a b bs writes = nothing_appended a b writes
none_taken (Ok (suc n)) a b bs writes = rw above_zero tt
none_taken (Err e) a b bs writes = writes

-- a fault that comes is possible
pub may_come : {E : Type 0} (r : Result ℕ E) (bs : List ℕ) (may_refuse : WriteFault → Type 0) → 0 < length bs → OnErr r (may_refuse Io) → IfOk r (λ n. n ≡ 0 → 0 < length bs → may_refuse WroteNothing) → IfErr (taken_by r) may_refuse
may_come (Ok zero) bs may_refuse some fails nothing = nothing refl some
may_come (Ok (suc n)) bs may_refuse some fails nothing = rw above_zero tt
may_come (Err e) bs may_refuse some fails nothing = fails

-- some first bytes are written, and then n more
pub written_more : (a b c : Option (List ℕ)) (rest bytes : List ℕ) (n : ℕ) → IsWrittenBefore a b rest bytes → Appends b c (take n rest) → IsWrittenBefore a c (drop n rest) bytes
written_more a b c rest bytes n before writes = (
  before.0 ++ take n rest,
  append_assoc before.0 _ _ ∙ ap (λ l. before.0 ++ l) (take-append-drop n rest) ∙ before.1,
  Appends-trans a b c _ _ before.2 writes,
)

-- and then no more, while something is left
pub written_part : (a b c : Option (List ℕ)) (rest bytes : List ℕ) → 0 < length rest → IsWrittenBefore a b rest bytes → Keeps b c → AppendsPart a c bytes
written_part a b c rest bytes left before keeps =
    let whole = ap length before.1 in
    let front : take (length before.0) bytes ≡ before.0 =
    ap (λ l. take (length before.0) l) (sym before.1) ∙ take-append_seam before.0 rest
    in
    (length before.0, omega (arith, length-append before.0 rest, whole), rw front (Appends-kept a b c _ before.2 keeps))
