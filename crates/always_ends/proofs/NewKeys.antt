-- The number of the keys that a run must move at which its call has no entry.
use Rattle.std.proofs.Common.{◌≡◌, ◌≢◌, ◌≤◌, ◌+◌, not, ℕ, Bool, false, cond, List, [], ◌∷◌, ◌++◌, length, Option, None, Some, option_map, arith, refl, ap, ◌∙◌}
use Rattle.std.specs.List.{AllByRecursion, filter}
use Rattle.std.specs.Ordering.{eq_by_cmp}
use Rattle.std.specs.Cmp.{eq_by_cmp_equiv}
use Rattle.std.specs.Cmp.Lexicographic.{nat_list_cmp_total}
use Rattle.std.specs.FinMap.{contains_key, entries, len, len-entries}
use Rattle.std.proofs.lemmas.Bool.{cond_both, or_parts}
use Rattle.std.proofs.lemmas.List.{length-map}
use Rattle.rv_ledger.specs.Change.{ContentChange}
use Rattle.rv_ledger.specs.Key.{WriteMap, key_cmp}
use Rattle.mvmap.specs.Versions.{Entry, Estimate, Versions, changed, entry_at}
use Rattle.stm_state.specs.declared.state.Recorded.{Recorded}
use Rattle.stm_state.specs.Parts.{has_key}
use Rattle.stm_state.specs.Steps.{keys_of, keys_to_move, left_over, write_of, written_by}
use Rattle.stm_state.proofs.Writes.{changed_at, changed_other, entries_found}

-- one if there is no entry
abbrev pub if_new : Option Entry → ℕ
if_new None = 1
if_new (Some entry) = 0

-- the keys at which writer i has no entry
abbrev pub new_keys : Versions → ℕ → List (List ℕ) → ℕ
new_keys v i [] = 0
new_keys v i (key ∷ keys) = if_new (entry_at v key i) + new_keys v i keys

-- ---- an entry changes

-- of another writer
pub new_keys_other : (v : Versions) (key : List ℕ) (i : ℕ) (o : Option Entry) (j : ℕ) → j ≢ i → (keys : List (List ℕ)) → new_keys (changed v (key, i) o) j keys ≡ new_keys v j keys
new_keys_other v key i o j ne [] = refl
new_keys_other v key i o j ne (k ∷ keys) =
    let here = ap if_new (changed_other v key i o k j ne) in
    let rest = new_keys_other v key i o j ne keys in omega (arith, here, rest)

-- at another key
pub new_keys_left : (v : Versions) (key : List ℕ) (i : ℕ) (o : Option Entry) (keys : List (List ℕ)) → has_key key keys ≡ false → new_keys (changed v (key, i) o) i keys ≡ new_keys v i keys
new_keys_left v key i o [] h = refl
new_keys_left v key i o (k ∷ keys) h =
    let both = or_parts (eq_by_cmp key_cmp key k) (has_key key keys) h in
    let other : eq_by_cmp key_cmp k key ≡ false = (eq_by_cmp_equiv nat_list_cmp_total).symm k key ∙ both.0 in
    let here = ap if_new (changed_at v key i o k ∙ ap (λ b. cond b o (entry_at v k i)) other) in
    let rest = new_keys_left v key i o keys both.1 in omega (arith, here, rest)

-- ---- at a record

if_new_most : (o : Option Entry) → if_new o ≤ 1
if_new_most None = omega arith
if_new_most (Some entry) = omega arith

new_keys_most : (v : Versions) (i : ℕ) (keys : List (List ℕ)) → new_keys v i keys ≤ length keys
new_keys_most v i [] = omega arith
new_keys_most v i (key ∷ keys) = let here = if_new_most (entry_at v key i) in let rest = new_keys_most v i keys in omega (arith, here, rest)

new_keys_joined : (v : Versions) (i : ℕ) (keys more : List (List ℕ)) → new_keys v i (keys ++ more) ≡ new_keys v i keys + new_keys v i more
new_keys_joined v i [] more = omega arith
new_keys_joined v i (key ∷ keys) more = let rest = new_keys_joined v i keys more in omega (arith, rest)

-- each write of the last run is at its key
written_found : (last : Option Recorded) → AllByRecursion (λ write. write_of last write.0 ≡ Some write.1) (written_by last)
written_found None = tt
written_found (Some run) = entries_found run.receipt.writes

-- if the call has estimates at the keys of its last run, none of those keys is new
new_keys_none : (v : Versions) (i : ℕ) (last : Option Recorded) → ((key : List ℕ) → entry_at v key i ≡ option_map (λ change. Estimate) (write_of last key)) → (p : List ℕ × ContentChange → Bool) (writes : List (List ℕ × ContentChange))
    → AllByRecursion (λ write. write_of last write.0 ≡ Some write.1) writes → new_keys v i (keys_of (filter p writes)) ≡ 0
new_keys_none v i last at p [] h = refl
new_keys_none v i last at p (write ∷ writes) h =
    let rest = new_keys_none v i last at p writes h.1 in
    cond_both (p write) _ _ (λ xs. new_keys v i (keys_of xs) ≡ 0)
    (λ _. let here = ap if_new (at write.0 ∙ ap (option_map (λ change. Estimate)) h.0) in omega (arith, here, rest))
    (λ _. rest)

-- so the new ones are at most those that it wrote
pub new_keys_few : (v : Versions) (i most : ℕ) (last : Option Recorded) (writes : WriteMap) → ((key : List ℕ) → entry_at v key i ≡ option_map (λ change. Estimate) (write_of last key)) → len writes ≤ most → new_keys v i (keys_to_move last writes) ≤ most
new_keys_few v i most last writes at few =
    let none = new_keys_none v i last at (λ write. not (contains_key writes write.0)) (written_by last) (written_found last) in
    let joined = new_keys_joined v i (keys_of (entries writes)) (keys_of (left_over last writes)) in
    let some = new_keys_most v i (keys_of (entries writes)) in
    omega (arith, few, none, joined, some, len-entries writes, length-map (entries writes) (λ write. write.0))
