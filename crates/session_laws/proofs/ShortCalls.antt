-- A call writes no value that is longer than its rules allow.
use Rattle.std.proofs.Common.{◌≡◌, ℕ, ◌≤◌, inl, inr, false, nat_lt, List, length, take, length-take, Option, Some, None, Result, Ok, refl, arith, lit≤}
use Rattle.std.specs.FinMap as finite
use Rattle.std.proofs.lemmas.Bool.{cond_both}
use Rattle.std.proofs.lemmas.Bool.Decides.{nat_tests}
use Rattle.rv_mem.specs.Space.{Space}
use Rattle.rv_ledger.specs.Call.{Invocation}
use Rattle.rv_ledger.specs.Change.{Content, ContentChange, IfValue, add}
use Rattle.rv_ledger.specs.declared.change.Change.TheVariants as change
use Rattle.rv_ledger.specs.Key.{Storage, WriteMap}
use Rattle.rv_ledger.specs.Rules.{longest_value}
use Rattle.rv_ledger.specs.declared.rules.Rules.{Rules}
use Rattle.rv_ledger.specs.declared.rules.Rules.TheVariants.{One, Two, Three}
use Rattle.rv_ledger.specs.declared.end.Trap.{Trap}
use Rattle.rv_ledger.specs.declared.writes.Write.{Write}
use Rattle.ecalls.specs.StorageCalls.{a2, a7, has_rights, length_of, longest, numbered_call, request_asked, request_by, request_of, request_with, requested_call, within_length}
use Rattle.ecalls.specs.declared.storage_call.StorageCall.{StorageCall}
use Rattle.ecalls.specs.declared.storage_call.StorageCall.TheVariants as call
use Rattle.ecalls.specs.declared.request_kind.StorageRequest.{StorageRequest}
use Rattle.ecalls.specs.declared.request_kind.StorageRequest.TheVariants as request
use Rattle.rv_step.specs.declared.machine.Machine.{Machine}
use Rattle.rv_step.specs.Step.{Going, change_after_add}
use Rattle.rv_step.specs.Moment.{from_storage, moment_over, start}
use Rattle.rv_step.specs.Chain.{ends, enough_steps}
use Rattle.rv_step.proofs.Kept.{IsAsked, IsKept, receipt_writes}
use Rattle.rv_step.proofs.Moments.{kept_at}
use Rattle.session_laws.proofs.Values.{EachValue, insert_keeps, none_kept}

-- a change writes no value above a length
abbrev pub IsShortChange : ℕ → ContentChange → Type 0
IsShortChange limit c = IfValue c (λ value. length value ≤ limit)

-- ---- what an ECALL asks for

abbrev IsShortRequest : ℕ → Result StorageRequest Trap → Type 0
IsShortRequest limit (Ok (request.Write write)) = IsShortChange limit write.change
IsShortRequest limit other = Unit {0}

pub within : (limit count : ℕ) → nat_lt limit count ≡ false → count ≤ limit
within limit count h = grind (arith, nat_tests)

-- at most this number of bytes is taken
short_bytes : (limit count : ℕ) (bytes : List ℕ) → count ≤ limit → length (take count bytes) ≤ limit
short_bytes limit count bytes h = omega (arith, length-take count bytes)

module _ (rules : Rules) (registers : List ℕ) (memory : Space) where
  abbrev limit : ℕ
  limit = longest_value rules

  -- a call that lacks a right asks for nothing
  with_rights : (c : StorageCall) → IsShortRequest limit (Ok (request_with c registers memory)) → IsShortRequest limit (request_by c registers memory)
  with_rights c h = cond_both (has_rights c registers memory) _ _ (λ r. IsShortRequest limit r) (λ _. h) (λ _. tt)

  request_within : (c : StorageCall) → length_of c registers ≤ longest c rules → IsShortRequest limit (Ok (request_with c registers memory))
  request_within call.Write h = short_bytes limit (a2 registers) _ h
  request_within call.Read h = tt
  request_within call.Remove h = tt
  request_within call.Return h = tt
  request_within call.Revert h = tt
  request_within call.Add h = tt

  asked_within : (c : Option StorageCall) → IsShortRequest limit (request_asked registers memory (within_length registers rules c))
  asked_within None = tt
  asked_within (Some c) = cond_both (nat_lt (longest c rules) (length_of c registers)) _ _ (λ asked. IsShortRequest limit (request_asked registers memory asked))
      (λ _. tt)
      (λ short. with_rights c (request_within c (within (longest c rules) (length_of c registers) short)))

  request_short : IsShortRequest limit (request_of registers memory rules)
  unfolding request_of requested_call
  request_short = asked_within (numbered_call rules (a7 registers))

-- ---- sums

-- a sum has eight bytes
sum_length : (content : Content) (amount : ℕ) → length (add content amount) ≡ 8
unfolding add
sum_length content amount = refl

pub sum_short : (rules : Rules) (content : Content) (amount : ℕ) → length (add content amount) ≤ longest_value rules
sum_short One content amount = rw (sum_length content amount) (lit≤ tt)
sum_short Two content amount = rw (sum_length content amount) (lit≤ tt)
sum_short Three content amount = rw (sum_length content amount) (lit≤ tt)

added_short : (rules : Rules) (own : Option ContentChange) (amount : ℕ) → IsShortChange (longest_value rules) (change_after_add own amount)
added_short rules None amount = tt
added_short rules (Some (change.Sum sum)) amount = tt
added_short rules (Some (change.Value value)) amount = sum_short rules (Some value) amount
added_short rules (Some change.Gone) amount = sum_short rules None amount

-- ---- steps

module _ (rules : Rules) where
  abbrev pub AreShortWrites : WriteMap → Type 0
  AreShortWrites own = EachValue (IsShortChange (longest_value rules)) own

  -- a machine that is under these rules and wrote no value above their length
  abbrev HasShort : Machine → Type 0
  HasShort s = (s.rules ≡ rules) × AreShortWrites s.own

  asked_short : (s : Machine) (write : Write) → s.rules ≡ rules → IsAsked s write → IsShortChange (longest_value rules) write.change
  asked_short s write same (inl e) = rw (e, same) at (request_short s.rules s.regs s.memory)
  asked_short s write same (inr (amount, e)) = rw e (added_short rules (finite.get s.own write.key) amount)

  short_kept : IsKept HasShort
  short_kept = record {
    moves = λ s registers pc h. h;
    pays = λ s gas fits h. h;
    stores = λ s memory keeps h. h;
    writes = λ s write asked room h. (h.0, insert_keeps (IsShortChange (longest_value rules)) s.own write.key write.change (asked_short s write h.0 asked) h.1);
  }

  none_short : AreShortWrites finite.empty
  none_short = none_kept (IsShortChange (longest_value rules))

  start_short : (invocation : Invocation) → invocation.rules ≡ rules → HasShort (start invocation)
  unfolding start
  start_short invocation same = (same, none_short)

  pub ends_short : (invocation : Invocation) (store : Storage) → invocation.rules ≡ rules → AreShortWrites (ends invocation store).writes
  unfolding ends
  ends_short invocation store same = receipt_writes AreShortWrites none_short invocation.gas (moment_over invocation store (enough_steps invocation))
      (kept_at from_storage HasShort short_kept (enough_steps invocation) (Going (start invocation), store) (start_short invocation same)).1
