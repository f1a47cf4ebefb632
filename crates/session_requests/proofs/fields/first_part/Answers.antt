use Rattle.std.proofs.Common.{◌∙◌, List, ℕ, Some, take, ap, sym, arith}
use Rattle.std.proofs.lemmas.Bool.Decides.{nat_tests}
use Rattle.session_requests.proofs.Parts.{rest_whole, seen_all, seen_enough, seen_hit, seen_more, seen_none}
use Rattle.session_requests.proofs.fields.first_part.Goals as goal

pub loop-place-init : goal.loop-place-init
loop-place-init c = seen_none 32 128 c.args.text.now

pub loop-place-preserved : goal.loop-place-preserved
loop-place-preserved c =
    seen_more 32 128 c.args.text.now c.loop-place.place (omega arith) (omega arith) c.loop-place.invariant (grind (arith, nat_tests))

pub returns-then-place-text : goal.returns-then-place-text
returns-then-place-text c = seen_all 32 128 c.args.text.now c.loop-place.place (omega arith) c.loop-place.invariant

pub returns-then-text-place-eq32 : goal.returns-then-text-place-eq32
returns-then-text-place-eq32 c =
    seen_hit 32 128 c.args.text.now c.loop-place.place (omega arith) (omega arith) c.loop-place.invariant (grind (arith, nat_tests))
    ∙ ap (λ (t : List ℕ). Some (take c.loop-place.place c.args.text.now, t)) (sym (rest_whole c.args.text.now _))

pub returns : goal.returns
returns c = seen_enough 32 128 c.args.text.now c.loop-place.place (omega arith) c.loop-place.invariant
