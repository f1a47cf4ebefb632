-- Entries in the order of their keys: a key below all others is not among them.
use Rattle.std.proofs.Common.{◌≡◌, ℕ, List, [], ◌∷◌, Some, None, cond, T, is_eq, is_lt, refl, ap, ◌∙◌}
use Rattle.std.specs.declared.cmp.Ordering.{Ordering}
use Rattle.std.specs.declared.cmp.Ordering.TheVariants.{Less, Equal, Greater}
use Rattle.std.specs.Cmp.Lexicographic.{nat_list_cmp_total}
use Rattle.std.specs.FinMap.{find}
use Rattle.std.specs.FinMap.Entries.{below_all}
use Rattle.std.proofs.Math.Facts.{and_yes}
use Rattle.rv_ledger.specs.Key.{key_cmp}

-- what is tested to be Less is
pub less : (o : Ordering) → T (is_lt o) → o ≡ Less
less Less h = refl
less Equal h = absurd h
less Greater h = absurd h

-- a key equal to one below all others is not among them
pub not_below : {X : Type 0} (q k : List ℕ) (es : List (List ℕ × X)) → key_cmp q k ≡ Equal → T (below_all key_cmp k es) → find key_cmp q es ≡ None
not_below q k [] tie h = refl
not_below q k (e ∷ es) tie h =
    let both = and_yes (is_lt (key_cmp k e.0)) (below_all key_cmp k es) h in
    ap (λ r. cond (is_eq r) (Some e.1) (find key_cmp q es)) (nat_list_cmp_total.congr q k e.0 tie ∙ less (key_cmp k e.0) both.0) ∙ not_below q k es tie both.1
