-- What a storage has after the changes of a block.
use Rattle.std.proofs.Common.{◌≡◌, ℕ, Bool, true, false, cond, List, Option, None, Some, refl, sym, ap, ◌∙◌}
use Rattle.std.specs.FinMap.{get, insert, get-insert, get-remove}
use Rattle.std.specs.Cmp.Lexicographic.{nat_list_cmp_total}
use Rattle.std.specs.Ordering.{eq_by_cmp}
use Rattle.std.proofs.lemmas.Map.Lookups.{exact_bytes}
use Rattle.std.proofs.lemmas.Map.Views.{tells_apart}
use Rattle.overlay.proofs.WithChanges.{same_at_all}
use Rattle.overlay.specs.Overlay.{Changes}
use Rattle.mvmap.proofs.Sums.{add_twice}
use Rattle.rv_ledger.specs.Applied.{apply_write, apply_writes}
use Rattle.rv_ledger.specs.Change.{Content, ContentChange, add, apply_change}
use Rattle.rv_ledger.specs.Key.{Storage, WriteMap, key_cmp}
use Rattle.rv_ledger.specs.declared.change.Change.TheVariants as change
use Rattle.stm_state.proofs.Writes.{applied_get, content_after}
use Rattle.host_block.specs.Changes.{Agrees, change_after, known_after}

pub same_key : (key k : List ℕ) → eq_by_cmp key_cmp key k ≡ true → key ≡ k
same_key key k h = tells_apart exact_bytes key k h

-- what a storage has at a key after one write
after_write : (store : Storage) (k : List ℕ) (c : ContentChange) (key : List ℕ) (b : Bool) → eq_by_cmp key_cmp key k ≡ b
    → get (apply_write store k c) key ≡ cond b (apply_change c (get store key)) (get store key)
after_write store k (change.Value value) key b h = get-insert nat_list_cmp_total store k value key ∙ ap (λ t. cond t (Some value) (get store key)) h
after_write store k change.Gone key b h = get-remove nat_list_cmp_total store k key ∙ ap (λ t. cond t None (get store key)) h
after_write store k (change.Sum amount) key true h =
    get-insert nat_list_cmp_total store k (add (get store k) amount) key ∙ ap (λ t. cond t (Some (add (get store k) amount)) (get store key)) h
    ∙ ap (λ q. Some (add (get store q) amount)) (sym (same_key key k h))
after_write store k (change.Sum amount) key false h =
    get-insert nat_list_cmp_total store k (add (get store k) amount) key ∙ ap (λ t. cond t (Some (add (get store k) amount)) (get store key)) h

-- a change and a write after it have the effect of both
both_changes : (before : Option ContentChange) (write : ContentChange) (base : Content) → apply_change (change_after before write) base ≡ apply_change write (content_after before base)
both_changes before (change.Value value) base = refl
both_changes before change.Gone base = refl
both_changes None (change.Sum amount) base = refl
both_changes (Some (change.Value value)) (change.Sum amount) base = refl
both_changes (Some change.Gone) (change.Sum amount) base = refl
both_changes (Some (change.Sum sum)) (change.Sum amount) base = ap Some (sym (add_twice base sum amount))

-- a write that joins the changes is applied after them
pub applied_write : (store : Storage) (changes : WriteMap) (key : List ℕ) (write : ContentChange)
    → apply_writes store (insert changes key (change_after (get changes key) write)) ≡ apply_write (apply_writes store changes) key write
applied_write store changes key write = same_at_all _ _ (λ q. at q (eq_by_cmp key_cmp q key) refl)
  where
    joined : ContentChange
    joined = change_after (get changes key) write

    at : (q : List ℕ) (b : Bool) → eq_by_cmp key_cmp q key ≡ b → get (apply_writes store (insert changes key joined)) q ≡ get (apply_write (apply_writes store changes) key write) q
    at q true h =
        applied_get store (insert changes key joined) q
        ∙ ap (λ o. content_after o (get store q)) (get-insert nat_list_cmp_total changes key joined q ∙ ap (λ t. cond t (Some joined) (get changes q)) h)
        ∙ both_changes (get changes key) write (get store q)
        ∙ ap (λ k. apply_change write (content_after (get changes k) (get store q))) (sym (same_key q key h))
        ∙ ap (apply_change write) (sym (applied_get store changes q))
        ∙ sym (after_write (apply_writes store changes) key write q true h)
    at q false h =
        applied_get store (insert changes key joined) q
        ∙ ap (λ o. content_after o (get store q)) (get-insert nat_list_cmp_total changes key joined q ∙ ap (λ t. cond t (Some joined) (get changes q)) h)
        ∙ sym (applied_get store changes q)
        ∙ sym (after_write (apply_writes store changes) key write q false h)

-- what is known after a change is what the change makes of the content before
known_is : (o : Option ContentChange) (base : Option Content) (content before : Content) → known_after o base ≡ Some content
    → ((c : Content) → base ≡ Some c → before ≡ c) → content_after o before ≡ content
known_is (Some (change.Value value)) base content before h same = cc
known_is (Some change.Gone) base content before h same = cc
known_is (Some (change.Sum amount)) None content before h same = cc
known_is (Some (change.Sum amount)) (Some c) content before h same = let is : before ≡ c = same c refl in let told : Some (add c amount) ≡ content = cc in ap (λ z. Some (add z amount)) is ∙ told
known_is None None content before h same = cc
known_is None (Some c) content before h same = let is : before ≡ c = same c refl in cc

-- what is known of a key is what each such storage has there after the changes
pub known_at : (bases : Changes) (changes : WriteMap) (store : Storage) (key : List ℕ) (content : Content) → Agrees bases store
    → known_after (get changes key) (get bases key) ≡ Some content → content ≡ get (apply_writes store changes) key
known_at bases changes store key content agrees known =
    sym (applied_get store changes key ∙ known_is (get changes key) (get bases key) content (get store key) known (λ c h. agrees key c h))
