use Rattle.std.proofs.Common.{rules, [], ◌∷◌, ◌++◌, append_assoc, ap, arith, sym, subst, ◌∙◌}
use Rattle.std.proofs.lemmas.List.{length_push}
use Rattle.std.specs.Vec.Iter.{into_iter_items}
use Rattle.workers.specs.Work.{AreGivenBy}
use Rattle.workers.proofs.GivenBack.{given_push}
use Rattle.workers.proofs.executor.join_threads.Goals as goal

pub loop-thread-preserved-in-Ok : goal.loop-thread-preserved-in-Ok
loop-thread-preserved-in-Ok g c =
    let before = c.loop-thread in
    let kept = before.invariant in
    let thread = c.in-Some.thread in
    let rest = into_iter_items c.next.new.self in
    let longer = length_push before.yielded thread in
    let pushed = c.push_reserved.ensures.len in record {
      yielded = append_assoc before.yielded (thread ∷ []) rest ∙ ap (λ items. before.yielded ++ items) (sym c.in-Some.ensures.steps.0) ∙ kept.yielded;
      rest = search rules;
      within = (let within = kept.within in omega (arith, longer, pushed, within));
      given = λ none. subst (AreGivenBy (g.J.JobName.work_limit) (before.yielded ++ thread ∷ [])) (sym c.push_reserved.ensures.items)
          (given_push (g.J.JobName.work_limit) before.yielded before.back.items thread c.in-Ok.share (kept.given none) c.in-Ok.ensures.given);
      room = search rules;
    }

pub loop-thread-preserved : goal.loop-thread-preserved
loop-thread-preserved g c =
    let before = c.loop-thread in
    let kept = before.invariant in
    let thread = c.in-Some.thread in
    let rest = into_iter_items c.next.new.self in
    let longer = length_push before.yielded thread in record {
      yielded = append_assoc before.yielded (thread ∷ []) rest ∙ ap (λ items. before.yielded ++ items) (sym c.in-Some.ensures.steps.0) ∙ kept.yielded;
      rest = search rules;
      within = (let within = kept.within in omega (arith, longer, within));
      given = λ none. cc;
      room = search rules;
    }
