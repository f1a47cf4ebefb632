use Rattle.std.proofs.Common.{◌≡◌, ℕ, ◌∙◌, ◌+◌, ◌-◌, ◌%◌, ◌^◌, ◌<◌, ◌==◌, nat_lt, true, refl, arith}
use Rattle.std.proofs.lemmas.Bool.{and_from}
use Rattle.std.proofs.lemmas.Bool.Decides.{nat_tests}
use Rattle.rv_mem.specs.Paged.{is_open}
use Rattle.rv_mem.specs.Space.{allows_range}
use Rattle.rv_mem.proofs.Each.{by_place, place_even}
use Rattle.rv_mem.proofs.rights.aligned_place.Goals as goal

pub returns-then-at-size-eq0-clause-place : goal.returns-then-at-size-eq0-clause-place
returns-then-at-size-eq0-clause-place c access rights allowed =
    let a = c.args.address in
    let n = c.args.size in
    let at : ℕ = (a + 4294901760) % 2 ^ 32 in
    let fits : a < 2 ^ 32 = omega arith in
    let whole : at % n ≡ 0 = c.if-at-size-eq0.true in
    let even : a % n ≡ 0 = place_even a n at c.requires.size fits refl whole in
    let inside : at < 1048576 = c.if-at-lt-MEMORY_SIZE.true in
    let open_there : is_open access rights at n ≡ true =
    let low : nat_lt at 1048576 ≡ true = grind (arith, nat_tests) in
    let aligned : (at % n == 0) ≡ true = grind (arith, nat_tests) in
    and_from (nat_lt at 1048576) _ low (and_from (at % n == 0) _ aligned allowed) in
    let all : allows_range access rights a n ≡ true = by_place access rights a n at c.requires.size fits refl even ∙ open_there in
    let same : at ≡ a - 65536 = omega arith in
    rw (even, all, same) refl
