use Rattle.std.proofs.Common.{◌≡◌, Some, slice_get, arith, refl, sym, subst, inl, inr, ◌∙◌}
use Rattle.std.proofs.Math.Nat.{eq-or-lt_of_le}
use Rattle.std.proofs.lemmas.Option.{get_or_from_slice_get, slice_get_within}
use Rattle.workers.specs.declared.book.share.Share.{Share}
use Rattle.workers.specs.Settle.{IsShareOf}
use Rattle.workers.proofs.answer.are_settled.Goals as goal

pub loop-worker-preserved : goal.loop-worker-preserved
loop-worker-preserved g c w share within at = elim (eq-or-lt_of_le {n = w} {m = c.loop-worker.worker} (omega (arith, within))) [
  | inl same ↦ (
      let own = c.is_share_of.ensures.0 c.if-not-is_share_of.false in
      let found : c.index-shares-worker.result ≡ share = c.index-shares-worker.is ∙ get_or_from_slice_get c.args.shares.now c.loop-worker.worker share c.index-shares-worker.result (subst (λ n. slice_get c.args.shares.now n ≡ Some share) same at) in
      subst (λ n. IsShareOf n c.args.core.now share) (sym same) (subst (λ (x : Share). IsShareOf c.loop-worker.worker c.args.core.now x) found own))
  | inr below ↦ c.loop-worker.invariant w share below at
]

pub returns : goal.returns
returns g c = (
  (λ _. record {
    done = sym c.done.ensures ∙ c.if-not-done.false;
    count = c.if-shares-workers.false ∙ c.workers.ensures;
    each = λ w share at. let within = slice_get_within c.args.shares.now w share at in let all = c.loop-worker-test.false in c.loop-worker.invariant w share (omega (arith, within, all)) at;
  }),
  (λ _. refl),
)
