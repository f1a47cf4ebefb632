-- Calls are read after any storage as after none.
use Rattle.std.proofs.Common.{◌≡◌, ◌<◌, ◌≤◌, ◌+◌, ◌==◌, ℕ, List, [], ◌∷◌, ◌++◌, length, length-append, Option, None, Result, Ok, Err, ◌⊎◌, inl, inr, refl, sym, ap, subst, ◌∙◌, arith, if◌then◌else◌}
use Rattle.std.specs.declared.cmp.Ordering.{Ordering}
use Rattle.std.specs.declared.cmp.Ordering.TheVariants.{Less, Equal, Greater}
use Rattle.std.specs.Cmp.Lexicographic.{nat_list_cmp_total}
use Rattle.std.specs.FinMap.{entries, entries-insert, insert, empty}
use Rattle.std.specs.FinMap.Entries.{put, by_order}
use Rattle.rv_ledger.specs.Key.{Storage, key_cmp}
use Rattle.rv_ledger.specs.declared.rules.Rules.{Rules}
use Rattle.block_file.specs.declared.fault.Cause.{Cause}
use Rattle.block_file.specs.declared.fault.Cause.TheVariants.{BadLine}
use Rattle.block_file.specs.Line.{on_line, read_parts}
use Rattle.block_file.specs.Block.{Parsed, CallValue, with_line}
use Rattle.block_file.proofs.Lines.{goes_on}
use Rattle.session_laws.proofs.Cuts.{at_end}
use Rattle.session_laws.proofs.LineKinds.{state, Adds, line_adds}
use Rattle.session_laws.proofs.Sorted.{Entry}

-- ---- what no line takes back

put_some : (k v : List ℕ) (es : List Entry) → put key_cmp k v es ≡ [] → ⊥
put_some k v [] h = cc
put_some k v (e ∷ es) h = by (key_cmp k e.0) h
  where
    by : (o : Ordering) → by_order o ((k, v) ∷ e ∷ es) ((e.0, v) ∷ es) (e ∷ put key_cmp k v es) ≡ [] → ⊥
    by Less h = cc
    by Equal h = cc
    by Greater h = cc

abbrev pub Filled : Storage → Type 0
Filled m = entries m ≡ [] → ⊥

inserted : (m : Storage) (k v : List ℕ) → Filled (insert m k v)
inserted m k v h = put_some k v (entries m) (sym (entries-insert nat_list_cmp_total m k v) ∙ h)

pub record Later (s t : Parsed) : Type 0 where
  pub programs : length s.block.programs ≤ length t.block.programs
  pub filled : Filled s.block.store → Filled t.block.store
  pub fresh : (s.last ≡ None) ⊎ Filled s.block.store → (t.last ≡ None) ⊎ Filled t.block.store

same_later : (s t : Parsed) → s ≡ t → Later s t
same_later s t h = subst (λ x. Later s x) h (record { programs = omega arith; filled = λ f. f; fresh = λ f. f })

line_later : (s t : Parsed) (line : List ℕ) → with_line s line ≡ Ok t → Later s t
line_later s t line h = by (line_adds s.block.rules s.block.programs s.block.store s.block.calls s.last t line h)
  where
    by : Adds s.block.rules s.block.programs s.block.store s.block.calls s.last t (λ u. with_line u line) → Later s t
    by (inl (p, is)) = subst (λ x. Later s x) (sym is) (record { programs = omega (arith, length-append s.block.programs (p ∷ [])); filled = λ f. f; fresh = λ f. f })
    by (inr (inl (k, v, is))) = subst (λ x. Later s x) (sym is) (record { programs = omega arith; filled = λ f. inserted s.block.store k v; fresh = λ f. inr (inserted s.block.store k v) })
    by (inr (inr (c, is, again))) = subst (λ x. Later s x) (sym is) (record { programs = omega arith; filled = λ f. f; fresh = λ f. f })

then_later : (s t u : Parsed) → Later s t → Later t u → Later s u
then_later s t u a b = record { programs = omega (arith, a.programs, b.programs); filled = λ f. b.filled (a.filled f); fresh = λ f. b.fresh (a.fresh f) }

pub parts_later : (n : ℕ) (s t : Parsed) (parts : List (List ℕ)) → read_parts with_line BadLine n s parts ≡ Ok t → Later s t
parts_later n s t [] h = let same : s ≡ t = cc in same_later s t same
parts_later n s t (rest ∷ []) h = same_later s t ((at_end with_line BadLine (length rest == 0) _ s t h).1)
parts_later n s t (line ∷ next ∷ more) h = by (with_line s line) refl (λ u e. parts_later (n + 1) u t (next ∷ more) e) h
  where
    by : (r : Result Parsed Cause) → with_line s line ≡ r → ((u : Parsed) → read_parts with_line BadLine (n + 1) u (next ∷ more) ≡ Ok t → Later u t)
        → on_line n r (λ u. read_parts with_line BadLine (n + 1) u (next ∷ more)) ≡ Ok t → Later s t
    by (Ok u) e on h = then_later s u t (line_later s u line e) (on u h)
    by (Err cause) e on h = cc

-- ---- calls

module _ (rules : Rules) (programs : List (List ℕ)) (m : Storage) (last : Option (List ℕ)) (g : Parsed) (none : entries g.block.store ≡ []) (few : length g.block.programs ≤ length programs) where
  abbrev Again : ℕ → List CallValue → List (List ℕ) → Type 0
  Again j calls parts = read_parts with_line BadLine j (state rules programs m calls last) parts ≡ Ok (state rules programs m g.block.calls last)

  one_call : (k j : ℕ) (calls : List CallValue) (line : List ℕ) (parts : List (List ℕ)) (t : Parsed) → 0 < length parts
      → Adds rules programs empty calls None t (λ s. with_line s line) → read_parts with_line BadLine (k + 1) t parts ≡ Ok g
      → ((c : CallValue) → read_parts with_line BadLine (k + 1) (state rules programs empty (calls ++ c ∷ []) None) parts ≡ Ok g → Again (j + 1) (calls ++ c ∷ []) parts) → Again j calls (line ∷ parts)
  one_call k j calls line parts t some (inl (p, is)) h on =
      let later = parts_later (k + 1) t g parts h in
      let more : length t.block.programs ≡ length (programs ++ p ∷ []) = ap (λ x. length x.block.programs) is in
      absurd (omega (arith, later.programs, more, length-append programs (p ∷ [])))
  one_call k j calls line parts t some (inr (inl (key, value, is))) h on =
      let later = parts_later (k + 1) t g parts h in
      absurd (later.filled (subst (λ x. Filled x.block.store) (sym is) (inserted empty key value)) none)
  one_call k j calls line parts t some (inr (inr (c, is, again))) h on =
      goes_on with_line BadLine j (state rules programs m calls last) (state rules programs m (calls ++ c ∷ []) last) line parts some (again m last)
      ∙ on c (subst (λ x. read_parts with_line BadLine (k + 1) x parts ≡ Ok g) is h)

  pub calls_again : (k j : ℕ) (calls : List CallValue) (parts : List (List ℕ)) → read_parts with_line BadLine k (state rules programs empty calls None) parts ≡ Ok g → Again j calls parts
  calls_again k j calls [] h =
      let same : state rules programs empty calls None ≡ g = cc in
      ap (λ x. Ok (state rules programs m x.block.calls last)) same
  calls_again k j calls (rest ∷ []) h =
      let ends = at_end with_line BadLine (length rest == 0) _ (state rules programs empty calls None) g h in
      ap (λ b. if b then Ok (state rules programs m calls last) else Err (record { line = j; cause = BadLine })) ends.0
      ∙ ap (λ x. Ok (state rules programs m x.block.calls last)) ends.1
  calls_again k j calls (line ∷ next ∷ more) h =
      by (with_line (state rules programs empty calls None) line) refl h (λ c e. calls_again (k + 1) (j + 1) (calls ++ c ∷ []) (next ∷ more) e)
    where
      by : (r : Result Parsed Cause) → with_line (state rules programs empty calls None) line ≡ r → on_line k r (λ u. read_parts with_line BadLine (k + 1) u (next ∷ more)) ≡ Ok g
          → ((c : CallValue) → read_parts with_line BadLine (k + 1) (state rules programs empty (calls ++ c ∷ []) None) (next ∷ more) ≡ Ok g → Again (j + 1) (calls ++ c ∷ []) (next ∷ more)) → Again j calls (line ∷ next ∷ more)
      by (Ok t) e h on = one_call k j calls line (next ∷ more) t (omega arith) (line_adds rules programs empty calls None t line e) h on
      by (Err cause) e h on = cc
