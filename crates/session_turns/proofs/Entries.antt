-- Entries put over a storage.
use Rattle.std.proofs.Common.{◌≡◌, ◌∷◌, [], ℕ, List, Option, Some, None, true, false, cond, T, sym, ap, refl, ◌∙◌}
use Rattle.std.specs.Ordering.{eq_by_cmp}
use Rattle.std.specs.Cmp.Lexicographic.{nat_list_cmp_total}
use Rattle.std.specs.FinMap as map
use Rattle.std.specs.List.{fold}
use Rattle.std.specs.FinMap.{find, get, get-empty, get-entries, get-insert, insert, empty, is_sorted, entries_sorted}
use Rattle.std.specs.FinMap.Entries.{below_all}
use Rattle.std.proofs.Math.Facts.{and_yes}
use Rattle.rv_ledger.specs.Key.{Storage, key_cmp}
use Rattle.rv_ledger.proofs.SortedKeys.{not_below}
use Rattle.overlay.specs.Overlay.{Changes, with_changes}
use Rattle.overlay.proofs.Commits.{equal}
use Rattle.overlay.proofs.WithChanges.{one_more_change, same_at_all}
use Rattle.session_turns.specs.Turn.{put_over}

-- entries put over a storage, one after another
abbrev pub put_each : Storage → List (List ℕ × List ℕ) → Storage
put_each store entries = fold (λ s e. map.insert s e.0 e.1) store entries

-- putting the rest over the storage now gives what putting all over it gave before
abbrev pub IsPutting : Changes → Changes → List (List ℕ × List ℕ) → List (List ℕ × List ℕ) → Type 0
IsPutting old now rest all = (base : Storage) → put_each (with_changes base now) rest ≡ put_each (with_changes base old) all

pub put_next : (old now next : Changes) (k v : List ℕ) (before rest all : List (List ℕ × List ℕ)) → IsPutting old now before all → before ≡ (k, v) ∷ rest → next ≡ map.insert now k (Some v) → IsPutting old next rest all
put_next old now next k v before rest all so step is base =
    ap (λ (d : Changes). put_each (with_changes base d) rest) is ∙ ap (λ (s : Storage). put_each s rest) (one_more_change base now k (Some v))
    ∙ ap (put_each (with_changes base now)) (sym step) ∙ so base

-- a storage without entries is empty
pub no_entries : (s : Storage) → map.entries s ≡ [] → s ≡ empty
no_entries s none = same_at_all s empty (λ q. get-entries s q ∙ ap (find key_cmp q) none ∙ sym (get-empty key_cmp q))

-- the first content if there is one, otherwise the second
abbrev or_else : Option (List ℕ) → Option (List ℕ) → Option (List ℕ)
or_else (Some c) d = Some c
or_else None d = d

or_none : (c : Option (List ℕ)) → or_else c None ≡ c
or_none (Some c) = refl
or_none None = refl

get_put : (s : Storage) (es : List (List ℕ × List ℕ)) (q : List ℕ) → T (is_sorted key_cmp es) → get (put_each s es) q ≡ or_else (find key_cmp q es) (get s q)
get_put s [] q h = refl
get_put s (e ∷ es) q h =
    let order = and_yes (below_all key_cmp e.0 es) (is_sorted key_cmp es) h in
    get_put (insert s e.0 e.1) es q order.1 ∙ ap (or_else (find key_cmp q es)) (get-insert nat_list_cmp_total s e.0 e.1 q)
    ∙ elim (eq_by_cmp key_cmp q e.0) as (λ b. eq_by_cmp key_cmp q e.0 ≡ b → or_else (find key_cmp q es) (cond b (Some e.1) (get s q)) ≡ or_else (cond b (Some e.1) (find key_cmp q es)) (get s q)) [
      | true ↦ λ t. ap (λ o. or_else o (Some e.1)) (not_below q e.0 es (equal _ t) order.0)
      | false ↦ λ t. refl
    ] refl

-- put over an empty storage, the entries of a storage make that storage
pub over_none : (entries : Storage) → put_over empty entries ≡ entries
over_none entries = same_at_all _ _ (λ q.
    get_put empty (map.entries entries) q (entries_sorted entries) ∙ ap (or_else (find key_cmp q (map.entries entries))) (get-empty key_cmp q)
    ∙ or_none (find key_cmp q (map.entries entries)) ∙ sym (get-entries entries q))
