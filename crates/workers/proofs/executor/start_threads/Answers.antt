use Rattle.std.proofs.Common.{rules, ◌≡◌, ◌+◌, ℕ, [], ◌∷◌, ◌++◌, length, append_assoc, ap, arith, sym, subst, ◌∙◌}
use Rattle.std.proofs.lemmas.List.{length_push}
use Rattle.std.proofs.lemmas.List.Elements.{All-rest}
use Rattle.std.specs.Vec.Iter.{into_iter_items}
use Rattle.workers.specs.declared.book.share.Share.{Share}
use Rattle.workers.specs.DoneCell.{IsPassOf}
use Rattle.workers.specs.Work.{HasPromised, HoldFrom}
use Rattle.workers.proofs.GivenBack.{IsNew, hold_push}
use Rattle.workers.proofs.Limits.{new_keeps}
use Rattle.workers.proofs.executor.start_threads.Goals as goal

pub start_thread-requires-clause-limit : goal.start_thread-requires-clause-limit
start_thread-requires-clause-limit g c κs within =
    let before = c.loop-share in
    let new : HoldFrom IsNew (length before.yielded) (c.in-Some.share ∷ into_iter_items c.next.new.self) = subst (HoldFrom IsNew (length before.yielded)) c.in-Some.ensures.steps.0 before.invariant.new in
    new_keeps (g.J.JobName.work_limit) (length before.yielded) c.in-Some.share new.0

pub loop-share-preserved : goal.loop-share-preserved
loop-share-preserved g c =
    let before = c.loop-share in
    let kept = before.invariant in
    let share = c.in-Some.share in
    let steps = c.in-Some.ensures.steps.0 in
    let rest = into_iter_items c.next.new.self in
    let cell = c.args.shared.now.cell in
    let longer = length_push before.yielded share in
    let made = kept.made in
    let new : HoldFrom IsNew (length before.yielded) (share ∷ rest) = subst (HoldFrom IsNew (length before.yielded)) steps kept.new in
    let here : share.worker ≡ 0 + length before.threads.items = ap (λ told. told.worker) new.0 ∙ omega (arith, made) in
    let IsOwn : Share → Type 0 = λ x. IsPassOf cell x.pass in record {
      yielded = append_assoc before.yielded (share ∷ []) rest ∙ ap (λ items. before.yielded ++ items) (sym steps) ∙ kept.yielded;
      rest = search rules;
      passes = All-rest IsOwn share rest _ steps kept.passes;
      new = subst (λ (n : ℕ). HoldFrom IsNew n rest) (sym longer) new.1;
      promises = subst (HoldFrom HasPromised 0) (sym c.push_reserved.ensures.items)
          (hold_push HasPromised 0 before.threads.items c.start_thread.result kept.promises (subst (λ (w : ℕ). HasPromised w c.start_thread.result) here c.start_thread.ensures.promise));
      made = c.push_reserved.ensures.len ∙ ap (λ n. n + 1) kept.made ∙ sym longer;
      room = search rules;
    }
