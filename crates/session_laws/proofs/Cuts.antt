-- At which positions a text that follows another one is cut, and how its parts are read.
use Rattle.std.proofs.Common.{◌≡◌, ◌<◌, ◌+◌, ◌==◌, ℕ, suc, Bool, true, false, cond, List, [], ◌∷◌, ◌++◌, length, Result, Ok, Err, refl, sym, ap, subst, ◌∙◌, arith, if◌then◌else◌}
use Rattle.std.specs.List.{onto_first}
use Rattle.std.proofs.lemmas.Bool.Decides.{nat_tests}
use Rattle.block_file.specs.declared.fault.Cause.{Cause}
use Rattle.block_file.specs.declared.fault.BlockFault.{BlockFault}
use Rattle.block_file.specs.Line.{cut, on_line, read_parts}

-- the last part and the first one after it become one part
abbrev pub join : List (List ℕ) → List (List ℕ) → List (List ℕ)
join [] bs = bs
join (a ∷ []) [] = a ∷ []
join (a ∷ []) (b ∷ bs) = (a ++ b) ∷ bs
join (a ∷ c ∷ cs) bs = a ∷ join (c ∷ cs) bs

onto_some : (x : ℕ) (parts : List (List ℕ)) → 0 < length (onto_first x parts)
onto_some x [] = omega arith
onto_some x (a ∷ parts) = omega arith

pub cut_some : (byte : ℕ) (xs : List ℕ) → 0 < length (cut byte xs)
cut_some byte [] = omega arith
cut_some byte (x ∷ xs) = elim (x == byte) as (λ b. 0 < length (cond b ([] ∷ cut byte xs) (onto_first x (cut byte xs)))) [ true ↦ omega arith | false ↦ onto_some x (cut byte xs) ]

join_none : (bs : List (List ℕ)) → 0 < length bs → join ([] ∷ []) bs ≡ bs
join_none [] h = absurd (omega arith)
join_none (b ∷ bs) h = refl

join_end : (es bs : List (List ℕ)) → 0 < length es → [] ∷ join es bs ≡ join ([] ∷ es) bs
join_end [] bs h = absurd (omega arith)
join_end (a ∷ es) bs h = refl

join_onto : (x : ℕ) (es bs : List (List ℕ)) → 0 < length es → 0 < length bs → onto_first x (join es bs) ≡ join (onto_first x es) bs
join_onto x [] bs h k = absurd (omega arith)
join_onto x (a ∷ []) [] h k = absurd (omega arith)
join_onto x (a ∷ []) (b ∷ bs) h k = refl
join_onto x (a ∷ c ∷ cs) bs h k = refl

pub cut_join : (byte : ℕ) (xs ys : List ℕ) → cut byte (xs ++ ys) ≡ join (cut byte xs) (cut byte ys)
cut_join byte [] ys = sym (join_none (cut byte ys) (cut_some byte ys))
cut_join byte (x ∷ xs) ys =
    let rest = cut_join byte xs ys in
    elim (x == byte) as (λ b. cond b ([] ∷ cut byte (xs ++ ys)) (onto_first x (cut byte (xs ++ ys))) ≡ join (cond b ([] ∷ cut byte xs) (onto_first x (cut byte xs))) (cut byte ys)) [
      | true ↦ ap (λ (t : List (List ℕ)). [] ∷ t) rest ∙ join_end (cut byte xs) (cut byte ys) (cut_some byte xs)
      | false ↦ ap (onto_first x) rest ∙ join_onto x (cut byte xs) (cut byte ys) (cut_some byte xs) (cut_some byte ys)
    ]

pub join_some : (es bs : List (List ℕ)) → 0 < length bs → 0 < length (join es bs)
join_some [] bs h = h
join_some (a ∷ []) [] h = absurd (omega arith)
join_some (a ∷ []) (b ∷ bs) h = omega arith
join_some (a ∷ c ∷ cs) bs h = omega arith

-- ---- reading

module _ {S : Type 0} (read : S → List ℕ → Result S Cause) (unended : Cause) where
  abbrev Gives : ℕ → S → List (List ℕ) → S → Type 0
  Gives n s parts t = read_parts read unended n s parts ≡ Ok t

  pub at_end : (b : Bool) (fault : BlockFault) (s t : S) → (if b then Ok s else Err fault) ≡ Ok t → (b ≡ true) × (s ≡ t)
  at_end true fault s t h = (refl, cc)
  at_end false fault s t h = cc

  no_byte : (rest : List ℕ) → (length rest == 0) ≡ true → rest ≡ []
  no_byte [] h = refl
  no_byte (b ∷ rest) h = absurd (above (length rest) h)
    where
      above : (n : ℕ) → (suc n == 0) ≡ true → ⊥
      above n h = grind (arith, nat_tests)

  -- a line with a part after it
  step : (n : ℕ) (s : S) (line : List ℕ) (parts : List (List ℕ)) → 0 < length parts → read_parts read unended n s (line ∷ parts) ≡ on_line n (read s line) (λ u. read_parts read unended (n + 1) u parts)
  step n s line [] h = absurd (omega arith)
  step n s line (next ∷ more) h = refl

  -- parts that are read, and then those after them
  pub reads_on : (n : ℕ) (s t u : S) (es bs : List (List ℕ)) → 0 < length bs → Gives n s es t → ((k : ℕ) → Gives k t bs u) → Gives n s (join es bs) u
  reads_on n s t u [] bs some h behind = let same : s ≡ t = cc in subst (λ x. Gives n x bs u) (sym same) (behind n)
  reads_on n s t u (a ∷ []) [] some h behind = absurd (omega arith)
  reads_on n s t u (a ∷ []) (b ∷ bs) some h behind =
      let last = at_end (length a == 0) _ s t h in
      let none = no_byte a last.0 in
      subst (λ x. Gives n s ((x ++ b) ∷ bs) u) (sym none) (subst (λ x. Gives n x (b ∷ bs) u) (sym last.1) (behind n))
  reads_on n s t u (a ∷ c ∷ cs) bs some h behind =
      step n s a (join (c ∷ cs) bs) (join_some (c ∷ cs) bs some)
      ∙ after (read s a) (λ v e. reads_on (n + 1) v t u (c ∷ cs) bs some e behind) h
    where
      after : (r : Result S Cause) → ((v : S) → Gives (n + 1) v (c ∷ cs) t → Gives (n + 1) v (join (c ∷ cs) bs) u) → on_line n r (λ v. read_parts read unended (n + 1) v (c ∷ cs)) ≡ Ok t → on_line n r (λ v. read_parts read unended (n + 1) v (join (c ∷ cs) bs)) ≡ Ok u
      after (Ok v) on e = on v e
      after (Err cause) on e = cc

  -- and the converse
  pub reads_split : (n : ℕ) (s t u : S) (es bs : List (List ℕ)) → 0 < length bs → Gives n s es t → Gives n s (join es bs) u → (k : ℕ) × Gives k t bs u
  reads_split n s t u [] bs some h whole = let same : s ≡ t = cc in (n, subst (λ x. Gives n x bs u) same whole)
  reads_split n s t u (a ∷ []) [] some h whole = absurd (omega arith)
  reads_split n s t u (a ∷ []) (b ∷ bs) some h whole =
      let last = at_end (length a == 0) _ s t h in
      let none = no_byte a last.0 in
      (n, subst (λ x. Gives n x (b ∷ bs) u) last.1 (subst (λ x. Gives n s ((x ++ b) ∷ bs) u) none whole))
  reads_split n s t u (a ∷ c ∷ cs) bs some h whole =
      after (read s a) (λ v e f. reads_split (n + 1) v t u (c ∷ cs) bs some e f) h (sym (step n s a (join (c ∷ cs) bs) (join_some (c ∷ cs) bs some)) ∙ whole)
    where
      after : (r : Result S Cause) → ((v : S) → Gives (n + 1) v (c ∷ cs) t → Gives (n + 1) v (join (c ∷ cs) bs) u → (k : ℕ) × Gives k t bs u) → on_line n r (λ v. read_parts read unended (n + 1) v (c ∷ cs)) ≡ Ok t → on_line n r (λ v. read_parts read unended (n + 1) v (join (c ∷ cs) bs)) ≡ Ok u → (k : ℕ) × Gives k t bs u
      after (Ok v) on e f = on v e f
      after (Err cause) on e f = cc
