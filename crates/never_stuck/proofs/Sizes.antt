-- A receipt that replies bear out has at most 256 writes, and few replies.
use Rattle.std.proofs.Common.{◌≡◌, ◌≤◌, ◌+◌, ◌*◌, ℕ, true, List, [], length, slice_get, Option, Some, None, refl, sym, ap, subst, ◌∙◌, arith}
use Rattle.std.specs.FinMap.{entries, len, len-entries}
use Rattle.std.proofs.lemmas.List.{length-map}
use Rattle.rv_ledger.specs.Call.{Invocation}
use Rattle.rv_ledger.specs.declared.receipt.Receipt.{Receipt}
use Rattle.rv_step.specs.Step.{Progress, Going, Over}
use Rattle.rv_step.specs.Moment.{Reply, from_replies, is_over, moment_with}
use Rattle.rv_step.specs.Chain.{borne_out, enough_steps, receipt_with}
use Rattle.rv_step.specs.Replies.{reply_of, replies_of}
use Rattle.rv_step.proofs.Receipts.{bears_over}
use Rattle.stm_state.specs.declared.state.Recorded.{Recorded}
use Rattle.stm_state.specs.State.{State, call_at}
use Rattle.stm_state.specs.Steps.{keys_of, read_of, recorded_reads, written_by}
use Rattle.stm_state.specs.Done.{borne_out_by}
use Rattle.stm_state.proofs.Invariant.{view_of, ViewInvariant}
use Rattle.rv_step.proofs.WriteLimit.{LeavesFew, few_at, moments_few}
use Rattle.never_stuck.proofs.UnstuckGoals.{Setting, block}
use Rattle.never_stuck.proofs.Bounded.{IsPaid, moments_paid}

-- the replies of a call that is over
used : (gas : ℕ) (all : List Reply) (progress : Progress) → is_over progress ≡ true → IsPaid gas all (progress, []) → 200 * length all ≤ gas + 200
unfolding IsPaid
used gas all (Going s) over paid = cc
used gas all (Over end out s) over paid = omega (arith, paid)

small_at : (gas : ℕ) (all left : List Reply) (progress : Progress) (r : Receipt) → LeavesFew progress → IsPaid gas all (progress, left) → receipt_with gas (progress, left) ≡ Some r → (len r.writes ≤ 256) × (200 * length all ≤ gas + 200)
small_at gas all left progress r few paid e =
    let over = bears_over gas progress left r e in
    (subst (λ (x : Receipt). len x.writes ≤ 256) (sym over.2) (few_at gas progress few), used gas all progress over.0 (subst (λ l. IsPaid gas all (progress, l)) over.1 paid))

-- a receipt has at most 256 writes, and few replies bear it out: 200 of the gas for each, and one more
call_small : (call : Invocation) (replies : List Reply) (r : Receipt) → borne_out call replies ≡ Some r → (len r.writes ≤ 256) × (200 * length replies ≤ call.gas + 200)
call_small call replies r e =
    let at : Progress × List Reply = moment_with call replies (enough_steps call) in
    small_at call.gas replies at.1 at.0 r (moments_few from_replies call replies (enough_steps call)) (moments_paid call replies (enough_steps call)) e

-- ---- in a job

module _ (setting : Setting) where
  small_by : (i : ℕ) (replies : List Reply) (r : Receipt) (o : Option Invocation) → slice_get setting.calls i ≡ o → borne_out_by o replies ≡ Some r → (len r.writes ≤ 256) × (length replies ≤ setting.reads + 1)
  small_by i replies r None at e = cc
  small_by i replies r (Some call) at e =
      let small = call_small call replies r e in
      let few = small.1 in
      let within = setting.most i call at in (small.0, omega (arith, few, within))

  -- so it is with each receipt that replies bear out
  pub borne_small : (i : ℕ) (replies : List Reply) (r : Receipt) → (block setting).borne_out i replies ≡ Some r → (len r.writes ≤ 256) × (length replies ≤ setting.reads + 1)
  borne_small i replies r e = small_by i replies r (slice_get setting.calls i) refl e

  module _ (s : State) (f : ViewInvariant (block setting) (view_of s)) where
    reads_by : (i : ℕ) (last : Option Recorded) → (call_at s i).last ≡ last → (length (recorded_reads last) ≤ setting.reads + 1) × (length (keys_of (written_by last)) ≤ 256)
    reads_by i None at = (omega arith, omega arith)
    reads_by i (Some run) at =
        let bears = f.recorded i run at in
        let small = borne_small i (replies_of bears.answers) run.receipt bears.borne_out in
        let short = small.1 in
        let few = small.0 in
        let reads : length run.reads ≡ length (replies_of bears.answers) = ap length (sym bears.reads) ∙ length-map bears.answers read_of ∙ sym (length-map bears.answers reply_of) in
        let size = len-entries run.receipt.writes in
        (omega (arith, short, reads), omega (arith, few, size, length-map (entries run.receipt.writes) (λ write. write.0)))

    -- a call has at most `setting.reads + 1` recorded reads, and wrote at most 256 keys
    pub reads_short : (i : ℕ) → length (recorded_reads (call_at s i).last) ≤ setting.reads + 1
    reads_short i = (reads_by i (call_at s i).last refl).0

    pub written_few : (i : ℕ) → length (keys_of (written_by (call_at s i).last)) ≤ 256
    written_few i = (reads_by i (call_at s i).last refl).1
