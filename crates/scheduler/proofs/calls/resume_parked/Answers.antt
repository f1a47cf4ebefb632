use Rattle.std.proofs.Common.{◌+◌, ℕ, rules, arith, ap, ◌∙◌, drop, if◌then◌else◌, min, set}
use Rattle.std.proofs.lemmas.List.Edits.{map_over_more}
use Rattle.stm_state.specs.Steps.{is_parked_on, least_parked_call, resume_if_parked}
use Rattle.scheduler.proofs.Awaited.{lowered_more, named_more, still_within, untouched}
use Rattle.scheduler.proofs.calls.resume_parked.Goals as goal

pub loop-index-preserved : goal.loop-index-preserved
loop-index-preserved c =
    let old = untouched (resume_if_parked c.args.on) c.args.calls.now.items c.loop-index.calls.items c.loop-index.index c.index_mut-call.result.now (omega arith) c.loop-index.invariant.calls c.index_mut-call.ensures.value in
    record {
      number = search rules;
      calls = ap (set c.loop-index.calls.items c.loop-index.index) c.resume_if_parked.ensures.call
          ∙ map_over_more (resume_if_parked c.args.on) c.args.calls.now.items c.loop-index.calls.items c.loop-index.index c.index_mut-call.result.now (omega arith) c.loop-index.invariant.calls c.index_mut-call.ensures.value;
      lowest = ap (λ (n : ℕ). least_parked_call c.args.on n (c.loop-index.index + 1) (drop (c.loop-index.index + 1) c.args.calls.now.items)) (c.resume_if_parked.ensures.execution ∙ ap (λ (n : ℕ). if is_parked_on c.args.on c.index_mut-call.result.now then min c.loop-index.execution n else c.loop-index.execution) c.loop-index.invariant.number)
          ∙ lowered_more c.args.on c.loop-index.execution c.loop-index.index c.args.calls.now.items c.index_mut-call.result.now (omega arith) old ∙ c.loop-index.invariant.lowest;
      named = named_more c.args.on c.loop-index.index c.loop-index.calls.items c.resume_if_parked.new.call c.loop-index.named c.is_named-named.result (still_within (resume_if_parked c.args.on) c.args.calls.now.items c.loop-index.calls.items c.loop-index.index (omega arith) c.loop-index.invariant.calls) c.loop-index.invariant.named c.is_named-named.ensures;
    }
