use Rattle.std.proofs.Common.{arith, sym, ◌∙◌, refl}
use Rattle.rv_mem.specs.Space.{allows_range}
use Rattle.rv_mem.proofs.Each.{each_below, each_past, each_pages, each_page_without}
use Rattle.rv_mem.proofs.rights.range_has.Goals as goal

pub returns-then-len-eq0-clause-value : goal.returns-then-len-eq0-clause-value
unfolding allows_range
returns-then-len-eq0-clause-value c = rw c.if-len-eq0.true refl

pub returns-then-address-lt-FIRST_ADDRESS-clause-value : goal.returns-then-address-lt-FIRST_ADDRESS-clause-value
returns-then-address-lt-FIRST_ADDRESS-clause-value c =
    sym (each_below c.args.access c.args.rights.now c.args.address c.args.len (omega arith) (omega arith))

pub returns-then-len-saturating_sub-clause-value : goal.returns-then-len-saturating_sub-clause-value
returns-then-len-saturating_sub-clause-value c =
    sym (each_past c.args.access c.args.rights.now c.args.address c.args.len (omega arith) (omega arith))

pub returns-then-not-is_allowed_by-clause-value : goal.returns-then-not-is_allowed_by-clause-value
returns-then-not-is_allowed_by-clause-value c =
    sym (each_page_without c.args.access c.args.rights.now c.args.address c.args.len c.loop-page.page (omega arith) (omega arith) (omega arith) (omega arith) (sym c.is_allowed_by.ensures ∙ c.if-not-is_allowed_by.true))

pub returns-clause-value : goal.returns-clause-value
returns-clause-value c =
    sym (each_pages c.args.access c.args.rights.now c.args.address c.args.len (omega arith) (omega arith) (λ k low high. c.loop-page.invariant k low (omega arith)))
