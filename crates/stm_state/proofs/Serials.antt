-- Once workers are done, the result is that of running the calls one after another.
use Rattle.std.proofs.Common.{◌≡◌, ◌<◌, ◌≤◌, ◌≢◌, ◌&&◌, ◌==◌, ℕ, zero, suc, true, option_map, List, [], ◌∷◌, length, map, slice_get, Option, None, Some, arith, refl, sym, ap, subst, ◌∙◌, inl, inr}
use Rattle.std.specs.List.{AllByRecursion, list_all}
use Rattle.std.specs.FinMap.{get, empty, get-empty}
use Rattle.std.proofs.lemmas.Bool.{and_parts, cases_lt}
use Rattle.std.proofs.lemmas.List.{get_or_past}
use Rattle.rv_ledger.specs.Change.{Content, ContentChange}
use Rattle.rv_ledger.specs.declared.change.Change.TheVariants as change
use Rattle.rv_ledger.specs.Key.{Storage, WriteMap, key_cmp}
use Rattle.rv_ledger.specs.declared.end.End.TheVariants.{Returned}
use Rattle.rv_ledger.specs.declared.receipt.Receipt.{Receipt}
use Rattle.read_set.specs.Origin.{Origin, named}
use Rattle.rv_step.specs.Moment.{Reply}
use Rattle.rv_step.specs.Chain.{AreFrom}
use Rattle.rv_ledger.specs.Applied.{apply_writes}
use Rattle.rv_step.specs.Replies.{replies_of}
use Rattle.rv_step.specs.declared.answer.StorageAnswer.{StorageAnswer}
use Rattle.mvmap.specs.Versions.{Versions, Estimate, Stands, entry_at}
use Rattle.mvmap.specs.Reading.{Visible, visible_over, visible_below, reading, is_origin, origin_in, stands_among, value_seen}
use Rattle.mvmap.proofs.Readings.{origin_seen}
use Rattle.stm_state.specs.declared.state.Status.{Status}
use Rattle.stm_state.specs.declared.state.Status.TheVariants.{Ready, Executing, Executed, Aborting}
use Rattle.stm_state.specs.declared.state.Recorded.{Recorded}
use Rattle.stm_state.specs.declared.state.Task.TheVariants.{Idle}
use Rattle.stm_state.specs.State.{State, fresh, call_at, task_at, is_idle, is_done}
use Rattle.stm_state.specs.Steps.{Block, read_of, recorded_reads, write_of}
use Rattle.stm_state.specs.Parts.{StandWith}
use Rattle.stm_state.specs.Done.{HasVersionsAlone, Reached, IsSerial}
use Rattle.stm_state.proofs.Invariant.{view_of, ViewInvariant, AreSafe, Invariant, IsCovered, IsRight, IsRightAnswer, validated, ahead, entry_of, lowered_by}
use Rattle.stm_state.proofs.Origins.{made_of_changes, seen_changes}
use Rattle.stm_state.proofs.Tests.{equal_says, idle_at_done}
use Rattle.stm_state.proofs.Writes.{content_after, applied_get}
use Rattle.stm_state.proofs.Asks.{executed_entries}
use Rattle.stm_state.proofs.InvariantKept.{invariant_kept}

-- ---- what being done means

-- both indices are past the last call, and no worker has a task
pub record IsOver (block : Block) (s : State) : Type 0 where
  pub execution : s.execution ≡ block.count
  pub validation : s.validation ≡ block.count
  pub idle : (w : ℕ) → task_at s w ≡ Idle

-- this holds once workers are done
pub over_at_done : (block : Block) (workers : ℕ) (s : State) → Invariant block workers s → is_done s ≡ true → IsOver block s
unfolding is_done
over_at_done block workers s h done =
    let parts = and_parts (s.execution == length s.calls && s.validation == length s.calls) (list_all is_idle s.tasks) done in
    let indices = and_parts (s.execution == length s.calls) (s.validation == length s.calls) parts.0 in
    record {
      execution = equal_says s.execution (length s.calls) indices.0 ∙ h.sized.calls;
      validation = equal_says s.validation (length s.calls) indices.1 ∙ h.sized.calls;
      idle = idle_at_done s done;
    }

-- ---- the receipts and the storage before each call

-- the receipt of a call without a recorded run
abbrev no_receipt : Receipt
no_receipt = record { end = Returned; gas = 0; pc = 0; out = []; regs = []; writes = empty }

-- the receipt of a recorded run, if there is one
abbrev receipt_or : Option Recorded → Receipt
receipt_or None = no_receipt
receipt_or (Some run) = run.receipt

-- the storage after a number of receipts
abbrev pub store_after_receipts : Storage → (ℕ → Receipt) → ℕ → Storage
store_after_receipts base receipt zero = base
store_after_receipts base receipt (suc i) = apply_writes (store_after_receipts base receipt i) (receipt i).writes

-- what is seen of an EXECUTED call is its change applied to what is seen below it
held_see : (base : Content) (i n : ℕ) (o : Option ContentChange) (below : Visible) → value_seen base (visible_over i (option_map (λ c. Stands n c) o) below) ≡ content_after o (value_seen base below)
held_see base i n None below = refl
held_see base i n (Some (change.Value value)) below = refl
held_see base i n (Some change.Gone) below = refl
held_see base i n (Some (change.Sum amount)) below = refl

-- so if a call sees the storage before it, the next call sees that storage with the call's writes applied
pub seen_after : (base : Content) (versions : Versions) (key : List ℕ) (i n : ℕ) (before : Storage) (writes : WriteMap) → entry_at versions key i ≡ option_map (λ c. Stands n c) (get writes key)
    → value_seen base (visible_below (entry_at versions key) i) ≡ get before key → value_seen base (visible_below (entry_at versions key) (suc i)) ≡ get (apply_writes before writes) key
unfolding visible_below
seen_after base versions key i n before writes own seen =
    let below : Visible = visible_below (entry_at versions key) i in
    ap (λ e. value_seen base (visible_over i e below)) own ∙ held_see base i n (get writes key) below ∙ ap (content_after (get writes key)) seen ∙ sym (applied_get before writes key)

-- a version is not an estimate
pub no_estimate : (o : Option ContentChange) (n : ℕ) → option_map (λ c. Stands n c) o ≢ Some Estimate
no_estimate None n h = cc
no_estimate (Some c) n h = cc

-- what holds of the element at each place holds of all elements
all_by_place : {X : Type 0} (P : X → Type 0) (xs : List X) → ((place : ℕ) (x : X) → slice_get xs place ≡ Some x → P x) → AllByRecursion P xs
all_by_place P [] h = tt
all_by_place P (x ∷ xs) h = (h zero x refl, all_by_place P xs (λ place y at. h (suc place) y at))

-- if no worker has a task, no read must still be met
none_covered : (s : State) (i place : ℕ) → ((w : ℕ) → task_at s w ≡ Idle) → IsCovered (view_of s) i place → ⊥
none_covered s i place idle (validated w left failed task meets) = let none = idle w in cc
none_covered s i place idle (ahead q) = let none : lowered_by (task_at s q.worker) ≡ None = ap lowered_by (idle q.worker) in let some = q.task in cc

-- so each read that is safe stands
safe_stands : (s : State) (i : ℕ) → ((w : ℕ) → task_at s w ≡ Idle) → AreSafe (view_of s) i → AllByRecursion (λ read. stands_among (entry_at s.versions) i read ≡ true) (recorded_reads (call_at s i).last)
safe_stands s i idle h = all_by_place (λ read. stands_among (entry_at s.versions) i read ≡ true) (recorded_reads (call_at s i).last)
    (λ place read at. elim (h place read at) [ inl stand ↦ stand | inr covered ↦ absurd (none_covered s i place idle covered) ])

module _ (block : Block) (s : State) (f : ViewInvariant block (view_of s)) (over_now : IsOver block s) where
  -- the receipt of a call
  abbrev receipt_at : ℕ → Receipt
  receipt_at i = receipt_or (call_at s i).last

  -- the storage before a call
  abbrev before : ℕ → Storage
  before i = store_after_receipts block.base receipt_at i

  -- if all lower calls are EXECUTED, the call is too
  status_below : (i : ℕ) → i < block.count → ((j : ℕ) → j < i → (call_at s j).status ≡ Executed) → (st : Status) → (call_at s i).status ≡ st → st ≡ Executed
  status_below i l rest Ready h = let low = f.ready i h in let e = over_now.execution in absurd (omega (arith, low, e, l))
  status_below i l rest Executing h = let run = f.executing i h in let runs = run.1 in let none = over_now.idle run.0 in cc
  status_below i l rest Executed h = refl
  status_below i l rest Aborting h = elim (f.aborting i h) [
    | inl wait ↦ absurd (wait.not_done (rest wait.on wait.lower))
    | inr marks ↦ let some = marks.1 in let none = over_now.idle marks.0 in cc
  ]

  -- all calls below a number are EXECUTED
  executed_below : (m i : ℕ) → i < m → i < block.count → (call_at s i).status ≡ Executed
  executed_below zero i l within = absurd (omega arith)
  executed_below (suc m) i l within = status_below i within (λ j low. executed_below m j (omega (arith, low, l)) (omega (arith, low, within))) (call_at s i).status refl

  pub all_executed : (i : ℕ) → i < block.count → (call_at s i).status ≡ Executed
  all_executed i within = executed_below (suc i) i (omega arith) within

  -- all reads of a call stand
  all_stand : (i : ℕ) → i < block.count → AllByRecursion (λ read. stands_among (entry_at s.versions) i read ≡ true) (recorded_reads (call_at s i).last)
  all_stand i within = safe_stands s i over_now.idle (f.safe i (all_executed i within) (let e = over_now.validation in omega (arith, e, within)))

  -- the entries of a call are its writes
  entry_is : (i : ℕ) → i < block.count → (key : List ℕ) → entry_at s.versions key i ≡ option_map (λ c. Stands (call_at s i).incarnation c) (write_of (call_at s i).last key)
  entry_is i within key = executed_entries block (view_of s) f i (all_executed i within) key

  -- the writes of a recorded run are those of its receipt
  write_is : (last : Option Recorded) (key : List ℕ) → write_of last key ≡ get (receipt_or last).writes key
  write_is None key = sym (get-empty key_cmp key)
  write_is (Some run) key = refl

  -- what call i sees is the storage before it
  seen_is_store : (i : ℕ) → i ≤ block.count → (key : List ℕ) → value_seen (get block.base key) (visible_below (entry_at s.versions key) i) ≡ get (before i) key
  unfolding visible_below
  seen_is_store zero l key = refl
  seen_is_store (suc i) l key =
      let n = (call_at s i).incarnation in
      seen_after (get block.base key) s.versions key i n (before i) (receipt_at i).writes
      (entry_is i (omega arith) key ∙ ap (option_map (λ c. Stands n c)) (write_is (call_at s i).last key)) (seen_is_store i (omega arith) key)

  -- an answer whose read stands is that of the storage before the call
  answer_is : (i : ℕ) → i ≤ block.count → (key : List ℕ) (value : Content) (o : Origin) → is_origin o (reading s.versions key i) ≡ true → IsRight block (view_of s) i key value o → value ≡ get (before i) key
  answer_is i l key value o stand right =
      let e = entry_at s.versions key in
      let same : origin_in (reading s.versions key i) ≡ o = origin_seen o (reading s.versions key i) stand in
      let told = seen_changes e i in
      right.value_is told.0 (subst (λ (x : Origin). StandWith e (named x) told.0) same told.1)
      ∙ sym (made_of_changes e i (get block.base key) told.0 told.1) ∙ seen_is_store i l key

  -- the answers of a run whose reads stand are those of the storage before the call
  answers_are : (i : ℕ) → i ≤ block.count → (answers : List StorageAnswer) → AllByRecursion (λ read. stands_among (entry_at s.versions) i read ≡ true) (map read_of answers) → AllByRecursion (IsRightAnswer block (view_of s) i) answers → AreFrom (before i) (replies_of answers)
  answers_are i l [] stand right = tt
  answers_are i l (x ∷ xs) stand right = (answer_is i l x.key x.value x.origin stand.0 right.0, answers_are i l xs stand.1 right.1)

  -- each call has a recorded run
  receipt_is : (i : ℕ) → i < block.count → (run : Recorded) × ((call_at s i).last ≡ Some run)
  receipt_is i within = f.executed i (all_executed i within)

  -- answers of the storage before a call bear its receipt out
  ends_in : (i : ℕ) → i < block.count → (replies : List Reply) × AreFrom (before i) replies × (block.borne_out i replies ≡ Some (receipt_at i))
  ends_in i within =
      let run = receipt_is i within in
      let b = f.recorded i run.0 run.1 in
      let reads : recorded_reads (call_at s i).last ≡ map read_of b.answers = ap recorded_reads run.1 ∙ sym b.reads in (
        replies_of b.answers,
        answers_are i (omega (arith, within)) b.answers (subst (λ xs. AllByRecursion (λ read. stands_among (entry_at s.versions) i read ≡ true) xs) reads (all_stand i within)) b.right,
        b.borne_out ∙ ap (λ o. Some (receipt_or o)) (sym run.1),
      )

  -- the result is that of the calls one after another
  pub serial : IsSerial block s
  serial = record {
    before = before;
    receipt = receipt_at;
    first = refl;
    has = λ i within. let run = receipt_is i within in ap (λ o. option_map (λ r. r.receipt) o) run.1 ∙ ap (λ o. Some (receipt_or o)) (sym run.1);
    ends = ends_in;
    next = λ i within. refl;
    last = λ key. seen_is_store block.count (omega arith) key;
  }

  -- no call past the last one has an entry, and no entry is an estimate
  pub versions_alone : length s.calls ≡ block.count → HasVersionsAlone block s
  versions_alone size = (
    past,
    λ place h. elim (cases_lt place.1 block.count) [
      | inl within ↦ no_estimate (write_of (call_at s place.1).last place.0) (call_at s place.1).incarnation (sym (entry_is place.1 within place.0) ∙ h)
      | inr content_after ↦ let none : entry_at s.versions place.0 place.1 ≡ None = past place.0 place.1 content_after in cc
    ],
  )
    where
      past : (key : List ℕ) (w : ℕ) → block.count ≤ w → entry_at s.versions key w ≡ None
      past key w content_after = f.entries w key (λ x h. let none = over_now.idle x in cc) ∙ ap (λ call. entry_of call key) (get_or_past s.calls w fresh (omega (arith, size, content_after)))

-- once workers are done, the result is that of running the calls one after another
pub serial_at_done : (block : Block) (workers : ℕ) (s : State) → Reached block workers s → is_done s ≡ true → IsSerial block s
serial_at_done block workers s reached done = let h = invariant_kept block workers s reached in serial block s h.facts (over_at_done block workers s h done)

-- once workers are done, no call past the last one has an entry, and no entry is an estimate
pub versions_at_done : (block : Block) (workers : ℕ) (s : State) → Reached block workers s → is_done s ≡ true → HasVersionsAlone block s
versions_at_done block workers s reached done = let h = invariant_kept block workers s reached in versions_alone block s h.facts (over_at_done block workers s h done) h.sized.calls
