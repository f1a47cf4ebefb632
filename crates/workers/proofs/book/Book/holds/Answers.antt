use Rattle.std.proofs.Common.{length, subst}
use Rattle.stm_state.specs.Done.{Reached}
use Rattle.stm_state.specs.Parts.{CallsAreAttended, IsStateSized, OthersHaveEstimates, ReadsAreWatched, RunsAreBorneOut}
use Rattle.stm_core.specs.CoreState.{block_in}
use Rattle.workers.specs.Book.{BookState}
use Rattle.workers.proofs.book.Book.holds.Goals as goal

pub returns-clause-reached : goal.returns-clause-reached
returns-clause-reached g c =
    subst (λ (b : BookState). Reached (block_in b.core) (length b.core.state.tasks) b.core.state) c.self.view_is c.holds.ensures.reached

pub returns-clause-sized : goal.returns-clause-sized
returns-clause-sized g c =
    subst (λ (b : BookState). IsStateSized (length b.core.job.block) (length b.core.state.tasks) b.core.state) c.self.view_is c.holds.ensures.sized

pub returns-clause-attended : goal.returns-clause-attended
returns-clause-attended g c = subst (λ (b : BookState). CallsAreAttended (block_in b.core) b.core.state) c.self.view_is c.holds.ensures.attended

pub returns-clause-estimates : goal.returns-clause-estimates
returns-clause-estimates g c = subst (λ (b : BookState). OthersHaveEstimates (block_in b.core) b.core.state) c.self.view_is c.holds.ensures.estimates

pub returns-clause-watched : goal.returns-clause-watched
returns-clause-watched g c = subst (λ (b : BookState). ReadsAreWatched (block_in b.core) b.core.state) c.self.view_is c.holds.ensures.watched

pub returns-clause-borne_out : goal.returns-clause-borne_out
returns-clause-borne_out g c = subst (λ (b : BookState). RunsAreBorneOut (block_in b.core) b.core.state) c.self.view_is c.holds.ensures.borne_out
