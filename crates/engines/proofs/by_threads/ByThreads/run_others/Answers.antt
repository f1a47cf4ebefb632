use Rattle.overlay.specs.Overlay.{with_changes}
use Rattle.engines.proofs.CallsLeft.{receipts_of_all, store_of_all}
use Rattle.engines.proofs.by_threads.ByThreads.run_others.Goals as goal

pub loop-batch-preserved : goal.loop-batch-preserved
loop-batch-preserved g c =
    let base = c.args.base.now in
    let before = c.loop-batch in
    let split = c.split_at in
    let ran = c.in-Some-run_batch in record {
      receipts = receipts_of_all c.in-Some.batch.calls before.left.now split.result.0.now split.result.1.now (with_changes base before.over) (with_changes base c.run_batch.new.over)
          split.ensures.front split.ensures.back ran.ensures.store before.receipts.items ran.more.items c.append.new.self.items _ ran.ensures.receipts c.in_ok-append.ensures.items before.invariant.receipts;
      store = store_of_all c.in-Some.batch.calls before.left.now split.result.0.now split.result.1.now (with_changes base before.over) (with_changes base c.run_batch.new.over)
          split.ensures.front split.ensures.back ran.ensures.store _ before.invariant.store;
    }
