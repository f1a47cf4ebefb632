use Rattle.std.proofs.Common.{◌≡◌, ◌≢◌, ◌∙◌, Err, IsSome, Ok, arith, inl, inr}
use Rattle.std.proofs.lemmas.Bool.{cases_lt}
use Rattle.mvmap.specs.Slots.{slot_at}
use Rattle.mvmap.proofs.Fills.{all_at, at_place, opened_stays, opened_then}
use Rattle.mvmap.proofs.slots.Slots.open_all.Goals as goal

pub returns-in_err-open-clause-succeeds : goal.returns-in_err-open-clause-succeeds
returns-in_err-open-clause-succeeds c = λ there.
    let write = c.loop-key-item.result in
    let before = all_at (λ write. IsSome (slot_at c.args.self.now (write.0, c.args.writer))) c.args.writes.now c.loop-key.key-index write there c.loop-key-test.true c.loop-key-item.is in
    let now = opened_stays c.args.self.now c.loop-key.self c.loop-key.invariant.opened (write.0, c.args.writer) before in
    let ok : c.open.result ≡ Ok tt = c.open.ensures.succeeds now in
    let err : c.open.result ≡ Err c.in_err-open.field-0.0 = c.in_err-open.was in
    cc

pub loop-key-preserved : goal.loop-key-preserved
loop-key-preserved c =
    let write = c.loop-key-item.result in
    let now = c.open.new.self in
    record {
      opened = opened_then c.args.self.now c.loop-key.self now c.loop-key.invariant.opened c.open.ensures.opened;
      made = λ k d upto. elim (cases_lt k c.loop-key.key-index) [
        | inl before ↦ opened_stays c.loop-key.self now c.open.ensures.opened _ (c.loop-key.invariant.made k d before)
        | inr here ↦ at_place (λ write. IsSome (slot_at now (write.0, c.args.writer))) c.args.writes.now c.loop-key.key-index k write d c.in_ok-open.ensures.ok c.loop-key-test.true c.loop-key-item.is (omega (arith, here, upto))
      ];
      elsewhere = λ place apart.
          c.open.ensures.elsewhere place (all_at (λ write. (write.0, c.args.writer) ≢ place) c.args.writes.now c.loop-key.key-index write apart c.loop-key-test.true c.loop-key-item.is)
          ∙ c.loop-key.invariant.elsewhere place apart;
    }
