use Rattle.std.proofs.Common.{◌≡◌, ◌⊎◌, inl, inr, ◌∙◌, ℕ, List, Some, slice_get, length, true, ap, refl, subst, arith}
use Rattle.std.specs.FinMap as map
use Rattle.std.proofs.lemmas.Option.{slice_get_read}
use Rattle.rv_ledger.specs.Change.{ContentChange}
use Rattle.rv_ledger.specs.Key.{WriteMap}
use Rattle.host_block.specs.Slots.{TouchedView}
use Rattle.host_block.proofs.Serials.{one_joined, one_written}
use Rattle.host_block.proofs.parts.add_writes.Goals as goal

pub loop-count-preserved : goal.loop-count-preserved
loop-count-preserved c =
    let e = c.index-entries-count.result in
    let entries : List (List ℕ × ContentChange) = c.as_slice-entries.result.now in
    let read : slice_get entries c.loop-count.count ≡ Some e = slice_get_read {X = List ℕ × ContentChange} entries (length entries) c.loop-count.count e refl c.loop-count-test.true c.index-entries-count.is in
    let at : slice_get (map.entries c.args.writes.now) c.loop-count.count ≡ Some e = subst (λ (es : List (List ℕ × ContentChange)). slice_get es c.loop-count.count ≡ Some e) c.as_slice-entries.ensures read in
    let changes = ap (λ (t : TouchedView). t.changes) c.in_ok-add_write.ensures.ok in
    record {
      bases = ap (λ (t : TouchedView). t.bases) c.in_ok-add_write.ensures.ok ∙ c.loop-count.invariant.bases;
      same = λ store. one_joined c.loop-count.touched.changes c.add_write.new.self.changes c.args.writes.now store c.loop-count.count _ e.0 e.1 at (omega arith) changes ∙ c.loop-count.invariant.same store;
      written = λ key has. either c.loop-count.touched.changes c.args.touched.now.changes c.args.writes.now key (c.loop-count.invariant.written key)
          (one_written c.loop-count.touched.changes c.args.writes.now c.loop-count.count e.0 e.1 _ key at (subst (λ (m : WriteMap). map.contains_key m key ≡ true) changes has));
    }
  where
    either : (now before writes : WriteMap) (key : List ℕ) → (map.contains_key now key ≡ true → (map.contains_key before key ≡ true) ⊎ (map.contains_key writes key ≡ true))
        → (map.contains_key now key ≡ true) ⊎ (map.contains_key writes key ≡ true) → (map.contains_key before key ≡ true) ⊎ (map.contains_key writes key ≡ true)
    either now before writes key f (inl was) = f was
    either now before writes key f (inr by) = inr by
