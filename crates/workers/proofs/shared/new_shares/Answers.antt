use Rattle.std.proofs.Common.{[], ◌∷◌, All, map, ap, sym, subst, ◌∙◌}
use Rattle.std.proofs.lemmas.List.Elements.{All-append, All-cons, All-nil}
use Rattle.workers.specs.DoneCell.{IsPassOf}
use Rattle.workers.specs.declared.book.share.Share.{Share}
use Rattle.workers.specs.Book.{counts_of_share}
use Rattle.workers.proofs.Zeros.{one_share_more}
use Rattle.workers.proofs.shared.new_shares.Goals as goal

pub loop-worker-preserved : goal.loop-worker-preserved
loop-worker-preserved c =
    let shares = c.loop-worker.shares.items in
    let share = c.new.result in
    let cell = c.args.cell.now in
    let IsOwn : Share → Type 0 = λ x. IsPassOf cell x.pass in
    let own : IsOwn share = subst (IsPassOf cell) (sym c.new.ensures.pass) c.pass.ensures.cell in (
      ap (map counts_of_share) c.in_ok-push.ensures.items ∙ one_share_more c.loop-worker.worker shares share c.loop-worker.invariant.0 c.new.ensures.counts,
      subst (All IsOwn) (sym c.in_ok-push.ensures.items) (All-append IsOwn shares (share ∷ []) c.loop-worker.invariant.1 (All-cons IsOwn share [] own (All-nil IsOwn))),
    )
