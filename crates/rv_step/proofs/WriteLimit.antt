-- A call writes at most 256 keys.
use Rattle.std.proofs.Common.{◌≡◌, ℕ, ◌+◌, ◌≤◌, ◌||◌, Bool, true, false, cond, nat_lt, List, sym, subst, arith, lit≤}
use Rattle.std.specs.Cmp.Lexicographic.{nat_list_cmp_total}
use Rattle.std.specs.FinMap.{empty, insert, len, len-insert, len-empty, contains_key}
use Rattle.std.proofs.lemmas.Bool.Decides.{nat_tests}
use Rattle.rv_ledger.specs.Call.{Invocation}
use Rattle.rv_ledger.specs.Change.{ContentChange}
use Rattle.rv_ledger.specs.Key.{Storage, WriteMap, key_cmp, has_room}
use Rattle.rv_step.specs.Step.{Progress, Going}
use Rattle.rv_step.specs.Moment.{Source, from_storage, machine_of, moment_from, moment_over, start}
use Rattle.rv_step.specs.Chain.{ends, enough_steps, receipt_at}
use Rattle.rv_step.proofs.Kept.{IsKept, receipt_writes}
use Rattle.rv_step.proofs.Moments.{kept_at}

abbrev IsFew : WriteMap → Type 0
IsFew own = len own ≤ 256

-- one more write that has room
one_more : (b : Bool) (n : ℕ) → (b || nat_lt n 256) ≡ true → n ≤ 256 → cond b n (n + 1) ≤ 256
one_more true n h k = k
one_more false n h k = grind (arith, nat_tests)

insert_few : (own : WriteMap) (key : List ℕ) (c : ContentChange) → has_room own key ≡ true → IsFew own → IsFew (insert own key c)
insert_few own key c room few = subst (λ n. n ≤ 256) (sym (len-insert nat_list_cmp_total own key c)) (one_more (contains_key own key) (len own) room few)

few_kept : IsKept (λ s. IsFew s.own)
few_kept = record {
  moves = λ s registers pc h. h;
  pays = λ s gas fits h. h;
  stores = λ s memory keeps h. h;
  writes = λ s write asked room h. insert_few s.own write.key write.change room h;
}

-- the own writes of a call are at most 256 keys
abbrev pub LeavesFew : Progress → Type 0
LeavesFew progress = IsFew (machine_of progress).own

none_few : IsFew empty
none_few = subst (λ n. n ≤ 256) (sym (len-empty key_cmp ContentChange)) (lit≤ tt)

pub few_at : (limit : ℕ) (progress : Progress) → LeavesFew progress → len (receipt_at limit progress).writes ≤ 256
few_at limit progress few = receipt_writes IsFew none_few limit progress few

-- a call has no writes at its start
start_few : (call : Invocation) → LeavesFew (Going (start call))
unfolding start
start_few call = none_few

-- each moment has writes of at most 256 keys
pub moments_few : {A : Type 0} (source : Source A) (call : Invocation) (first : A) (n : ℕ) → LeavesFew (moment_from source n (Going (start call), first)).0
moments_few source call first n = kept_at source (λ s. IsFew s.own) few_kept n (Going (start call), first) (start_few call)

-- a call writes at most 256 keys
pub ends_few : (call : Invocation) (store : Storage) → len (ends call store).writes ≤ 256
unfolding ends
ends_few call store = few_at call.gas (moment_over call store (enough_steps call)) (moments_few from_storage call store (enough_steps call))
