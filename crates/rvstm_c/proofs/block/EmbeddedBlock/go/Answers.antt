use Rattle.std.proofs.Common.{◌≡◌, ℕ, List, Option, Result, Ok, Err, IfOk, OnErr, None, refl, sym, ap, subst, ◌∙◌}
use Rattle.std.specs.declared.alloc.AllocError.{AllocError}
use Rattle.host_block.specs.Ordered.{IsStopped, OrderedView}
use Rattle.rvstm_c.specs.Blocks.{IsGoneTo, Keeps, StaysEnded, run_at, stage_of}
use Rattle.rvstm_c.proofs.block.EmbeddedBlock.go.Goals as goal

gone_to : (result : Result (Option (List ℕ)) AllocError) (run : OrderedView) → IfOk result (λ stop. IsStopped stop run) → OnErr result ((run.asked ≡ None) × (run.result ≡ None)) → IsGoneTo result run
gone_to (Ok stop) run stopped waits = stopped
gone_to (Err error) run stopped waits = waits

pub returns : goal.returns
returns c =
    let same : c.in-Run.run' ≡ run_at (stage_of c.args.self.now.stage) = ap (λ s. run_at (stage_of s)) (sym c.in-Run.is) ∙ ap run_at c.begin.ensures.1 in (
      c.begin.ensures.0,
      c.go.new.self,
      refl,
      subst (λ r. Keeps r c.go.new.self) same (c.go.ensures.stays, c.go.ensures.keeps, c.go.ensures.asked),
      subst (λ r. StaysEnded (Ok None) c.go.result r c.go.new.self) same c.go.ensures.ended,
      gone_to c.go.result c.go.new.self c.go.ensures.stop c.go.ensures.err,
    )
