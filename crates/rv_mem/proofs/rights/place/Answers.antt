use Rattle.std.proofs.Common.{◌≡◌, ℕ, ◌∙◌, ◌+◌, ◌-◌, ◌%◌, ◌^◌, ◌<◌, true, false, refl, sym, arith}
use Rattle.std.proofs.lemmas.Bool.{and_parts}
use Rattle.std.proofs.lemmas.Bool.Decides.{nat_tests}
use Rattle.rv_mem.specs.Paged.{is_open}
use Rattle.rv_mem.specs.Space.{allows_range}
use Rattle.rv_mem.proofs.Each.{by_place, place_even}
use Rattle.rv_mem.proofs.rights.place.Goals as goal

pub returns-then-is_open : goal.returns-then-is_open
returns-then-is_open c =
    let a = c.args.address in
    let n = c.args.size in
    let at : ℕ = (a + 4294901760) % 2 ^ 32 in
    let fits : a < 2 ^ 32 = omega arith in
    let open_there : is_open c.args.access c.args.rights.now at n ≡ true = sym {a = c.is_open.result} c.is_open.ensures ∙ c.if-is_open.true in
    let inside : at < 1048576 = grind (arith, nat_tests, open_there) in
    let whole : at % n ≡ 0 = grind (arith, nat_tests, open_there) in
    let even : a % n ≡ 0 = place_even a n at c.requires.size fits refl whole in
    let all : allows_range c.args.access c.args.rights.now a n ≡ true = by_place c.args.access c.args.rights.now a n at c.requires.size fits refl even ∙ open_there in
    let same : at ≡ a - 65536 = omega arith in
    record {
      allowed = (and_parts _ _ (and_parts _ _ open_there).1).1;
      value = rw (even, all, same) refl;
      room = grind (arith, nat_tests, inside, whole);
      page = grind (arith, nat_tests, inside, whole);
    }

pub returns-clause-value : goal.returns-clause-value
returns-clause-value c =
    let a = c.args.address in
    let n = c.args.size in
    let at : ℕ = (a + 4294901760) % 2 ^ 32 in
    let fits : a < 2 ^ 32 = omega arith in
    let shut : is_open c.args.access c.args.rights.now at n ≡ false = sym {a = c.is_open.result} c.is_open.ensures ∙ c.if-is_open.false in
    let even : a % n ≡ 0 = c.if-address-size-ne0.false in
    let none : allows_range c.args.access c.args.rights.now a n ≡ false = by_place c.args.access c.args.rights.now a n at c.requires.size fits refl even ∙ shut in
    rw (even, none, c.fault.ensures) refl
