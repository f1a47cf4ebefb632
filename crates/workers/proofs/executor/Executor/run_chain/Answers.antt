use Rattle.std.proofs.Common.{rules, ◌+◌, List, [], ◌∷◌, ◌++◌, Result, append_assoc, ap, sym, subst, ◌∙◌}
use Rattle.std.proofs.lemmas.List.{length_push}
use Rattle.std.specs.Vec.Iter.{into_iter_items}
use Rattle.rv_ledger.specs.declared.receipt.Receipt.{Receipt}
use Rattle.workers.specs.declared.chain.ChainFault.{ChainFault}
use Rattle.std.specs.Global.{Vec}
use Rattle.workers.specs.Chain.{IsChain}
use Rattle.workers.proofs.Chains.{one_block_more}
use Rattle.workers.proofs.executor.Executor.run_chain.Goals as goal

pub loop-block-preserved : goal.loop-block-preserved
loop-block-preserved g c =
    let before = c.loop-block in
    let block = c.in-Some.block in
    let ran = c.run_next_block-answer in
    let rest = into_iter_items c.next.new.self in record {
      yielded = append_assoc before.yielded (block ∷ []) rest ∙ ap (λ items. before.yielded ++ items) (sym c.in-Some.ensures.steps.0) ∙ before.invariant.yielded;
      rest = search rules;
      made = c.push_reserved.ensures.len ∙ ap (λ n. n + 1) before.invariant.made ∙ sym (length_push before.yielded block);
      room = search rules;
      chain = subst (λ (answers : List (Result (Vec Receipt) ChainFault)). IsChain c.args.store (before.yielded ++ block ∷ []) answers ran.result.1) (sym c.push_reserved.ensures.items)
          (one_block_more before.yielded before.answers.items c.args.store before.left ran.result.1 block.0 block.1 ran.result.0 before.invariant.chain ran.ensures.answer ran.ensures.left);
    }
