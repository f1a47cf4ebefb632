use Rattle.std.proofs.Common.{ℕ, All, List, Option, ap, subst, sym, ◌∙◌}
use Rattle.workers.specs.declared.book.share.Share.{Share}
use Rattle.workers.specs.Book.{KeepsLimit, zero_counts_of_all}
use Rattle.workers.specs.Settle.{AreLeft, IsFinishedAfter}
use Rattle.workers.proofs.GivenBack.{new_count}
use Rattle.workers.proofs.Histories.{is_run, never_bad_count, size_is}
use Rattle.workers.proofs.executor.run_on_threads.Goals as goal

pub shares_back-back-requires-clause-shares : goal.shares_back-back-requires-clause-shares
shares_back-back-requires-clause-shares g c κs within =
    let new = c.in-Ok.ensures.shares in
    new ∙ ap zero_counts_of_all (sym (new_count c.args.workers c.in-Ok.shared.1.items new))

pub returns-clause-bad_count : goal.returns-clause-bad_count
returns-clause-bad_count g c =
    never_bad_count (g.J.JobName.job) c.args.workers c.as_slice.result.now c.into_book-book.result c.holds.ensures.job c.finish-answer.result.0 c.finish-answer.ensures.answer
    c.holds.ensures.reached c.holds.ensures.sized c.holds.ensures.fits c.holds.ensures.way c.args.work_limit (c.holds.ensures.limit ∙ c.requires.limit) c.workers-found.result (size_is c.core.result.now c.into_book-book.result.core c.workers-found.result c.core.ensures c.workers-found.ensures) c.answer_of.result c.answer_of.ensures.err

pub returns-clause-run : goal.returns-clause-run
returns-clause-run g c =
    let book = c.into_book-book.result in
    let back = c.shares_back-back.result.items in
    let answered = subst (λ (shares : List Share). IsFinishedAfter book.fault book.core shares c.finish-answer.result.0) c.as_slice.ensures.value c.finish-answer.ensures.answer in
    let left = subst (λ (limit : Option ℕ). AreLeft limit c.args.workers back) c.requires.limit
    (subst (λ (n : ℕ). AreLeft (g.J.JobName.work_limit) n back) (new_count c.args.workers c.in-Ok.shared.1.items c.in-Ok.ensures.shares) c.shares_back-back.ensures.left) in
    let keeps = subst (λ (limit : Option ℕ). All (λ share. KeepsLimit limit share.counts) back) c.requires.limit c.shares_back-back.ensures.within in
    is_run (g.J.JobName.job) c.args.workers back book c.holds.ensures.job c.finish-answer.result.0 answered
    c.holds.ensures.reached c.holds.ensures.sized c.holds.ensures.fits c.holds.ensures.way c.args.work_limit (c.holds.ensures.limit ∙ c.requires.limit) c.workers-found.result (size_is c.core.result.now book.core c.workers-found.result c.core.ensures c.workers-found.ensures)
    c.reached_by_list.ensures c.last_entry_is_done.ensures c.one_worker_counts_where_reached.ensures left keeps c.answer_of.result c.answer_of.ensures.ok c.answer_of.ensures.err
