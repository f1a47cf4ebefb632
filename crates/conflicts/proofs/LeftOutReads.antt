-- A call does the same over storages that have the same at each key that it reads.
use Rattle.std.proofs.Common.{◌≡◌, ℕ, zero, suc, Bool, true, false, cond, List, Option, Some, None, is_some, is_eq, refl, sym, ap, ◌∙◌}
use Rattle.std.specs.FinMap as map
use Rattle.std.specs.Ordering.{eq_by_cmp}
use Rattle.std.specs.Cmp.{tied_itself}
use Rattle.std.specs.Cmp.Lexicographic.{nat_list_cmp_total}
use Rattle.rv_ledger.specs.Change.{Content}
use Rattle.rv_ledger.specs.Call.{Invocation}
use Rattle.rv_ledger.specs.Key.{Storage, key_cmp}
use Rattle.rv_step.specs.declared.machine.Machine.{Machine}
use Rattle.rv_step.specs.Asked.{key_of}
use Rattle.rv_step.specs.Chain.{ends, enough_steps, receipt_at}
use Rattle.rv_step.specs.Moment.{advance, after_result, from_storage, moment_over, start}
use Rattle.rv_step.specs.Step.{Progress, Going, Over, StepResult, Leads, Asks, step, answered, delivered}
use Rattle.rv_step.proofs.Moments.{no_more, one_more}
use Rattle.rv_step.proofs.Receipts.{keeps_storage}
use Rattle.conflicts.specs.LeftOut.{AgreeAt}
use Rattle.conflicts.specs.Reads.{Keys, key_asked_at, keys_read, keys_until, with_key}

-- ---- sets of keys

either : (b : Bool) (o : Option (Unit {0})) → is_some o ≡ true → is_some (cond b (Some tt) o) ≡ true
either true o h = refl
either false o h = h

-- one more key leaves the others in the set
still_in : (keys : Keys) (more : Option (List ℕ)) (key : List ℕ) → map.contains_key keys key ≡ true → map.contains_key (with_key keys more) key ≡ true
still_in keys None key h = h
still_in keys (Some k) key h = ap is_some (map.get-insert nat_list_cmp_total keys k tt key) ∙ either (eq_by_cmp key_cmp key k) (map.get keys key) h

-- and the new key is in the set
now_in : (keys : Keys) (more : Option (List ℕ)) (key : List ℕ) → more ≡ Some key → map.contains_key (with_key keys more) key ≡ true
now_in keys more key e =
    ap (λ (o : Option (List ℕ)). map.contains_key (with_key keys o) key) e
    ∙ ap is_some (map.get-insert nat_list_cmp_total keys key tt key)
    ∙ ap (λ o. is_some (cond (is_eq o) (Some tt) (map.get keys key))) (tied_itself nat_list_cmp_total key)

-- ---- moments

moment_first : (call : Invocation) (store : Storage) → moment_over call store zero ≡ Going (start call)
moment_first call store = ap (λ (at : Progress × Storage). at.0) (no_more from_storage (Going (start call), store))

moment_next : (call : Invocation) (store : Storage) (n : ℕ) → moment_over call store (suc n) ≡ (advance from_storage (moment_over call store n, store)).0
moment_next call store n =
    ap (λ (at : Progress × Storage). at.0)
    (one_more from_storage n (Going (start call), store) ∙ ap (advance from_storage) (keeps_storage store (Going (start call)) n))

module _ (one other : Storage) where
  -- a step has the same result if both storages have the same at the key that it asks for
  same_result : (s : Machine) (o : StepResult) → ((key : List ℕ) → key_of o ≡ Some key → map.get one key ≡ map.get other key) → (after_result from_storage s o one).0 ≡ (after_result from_storage s o other).0
  same_result s (Leads progress) h = refl
  same_result s (Asks key) h = ap (λ (content : Content). answered s (delivered s key content)) (h key refl)

  same_step : (progress : Progress) → ((key : List ℕ) → key_asked_at progress ≡ Some key → map.get one key ≡ map.get other key) → (advance from_storage (progress, one)).0 ≡ (advance from_storage (progress, other)).0
  same_step (Going s) h = same_result s (step s) h
  same_step (Over end out s) h = refl

  module _ (call : Invocation) where
    fewer : (n : ℕ) → AgreeAt (keys_until call one (suc n)) one other → AgreeAt (keys_until call one n) one other
    unfolding keys_until
    fewer n h key is = h key (still_in (keys_until call one n) (key_asked_at (moment_over call one n)) key is)

    asked : (n : ℕ) → AgreeAt (keys_until call one (suc n)) one other → (key : List ℕ) → key_asked_at (moment_over call one n) ≡ Some key → map.get one key ≡ map.get other key
    unfolding keys_until
    asked n h key is = h key (now_in (keys_until call one n) (key_asked_at (moment_over call one n)) key is)

    same_moment : (n : ℕ) → AgreeAt (keys_until call one n) one other → moment_over call one n ≡ moment_over call other n
    same_moment zero h = moment_first call one ∙ sym (moment_first call other)
    same_moment (suc n) h =
        moment_next call one n
        ∙ same_step (moment_over call one n) (asked n h)
        ∙ ap (λ (p : Progress). (advance from_storage (p, other)).0) (same_moment n (fewer n h))
        ∙ sym (moment_next call other n)

    same_keys : (n : ℕ) → AgreeAt (keys_until call one n) one other → keys_until call one n ≡ keys_until call other n
    unfolding keys_until
    same_keys zero h = refl
    same_keys (suc n) h =
        ap (λ (keys : Keys). with_key keys (key_asked_at (moment_over call one n))) (same_keys n (fewer n h))
        ∙ ap (λ (p : Progress). with_key (keys_until call other n) (key_asked_at p)) (same_moment n (fewer n h))

    pub same_ends : AgreeAt (keys_read call one) one other → ends call one ≡ ends call other
    unfolding ends
    same_ends h = ap (receipt_at call.gas) (same_moment (enough_steps call) h)

    pub same_keys_read : AgreeAt (keys_read call one) one other → keys_read call one ≡ keys_read call other
    same_keys_read h = same_keys (enough_steps call) h
