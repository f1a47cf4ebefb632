-- How a text is read from line n on.
use Rattle.std.proofs.Common.{◌≡◌, ◌<◌, ◌≤◌, ◌+◌, ◌==◌, ℕ, Bool, true, false, List, [], ◌∷◌, length, drop, Result, Ok, Err, IfErr, Bor, map, get_or, ◌-◌, ◌≢◌, ◌⊎◌, inl, inr, suc, add-one, length-drop, subst, ap, ◌∙◌, sym, arith, if◌then◌else◌}
use Rattle.std.proofs.lemmas.Result.{IfErr-weaker}
use Rattle.std.proofs.lemmas.List.{drop-map, length-map}
use Rattle.std.proofs.Math.Seq.{drop-cons}
use Rattle.block_file.specs.declared.fault.Cause.TheVariants.{Memory}
use Rattle.block_file.specs.declared.fault.Cause.{Cause}
use Rattle.block_file.specs.declared.fault.BlockFault.{BlockFault}
use Rattle.block_file.specs.Line.{read_parts, on_line}

-- the texts that references point to
abbrev pub texts : List (Bor (List ℕ)) → List (List ℕ)
texts parts = map (λ part. part.now) parts

-- a line with a part after it
pub goes_on : {S : Type 0} (read : S → List ℕ → Result S Cause) (unended : Cause) (n : ℕ) (s t : S) (line : List ℕ) (rest : List (List ℕ)) → 0 < length rest → read s line ≡ Ok t → read_parts read unended n s (line ∷ rest) ≡ read_parts read unended (n + 1) t rest
goes_on read unended n s t line [] h e = absurd (omega arith)
goes_on read unended n s t line (next ∷ more) h e = ap (λ r. on_line n r (λ u. read_parts read unended (n + 1) u (next ∷ more))) e

pub stops : {S : Type 0} (read : S → List ℕ → Result S Cause) (unended : Cause) (n : ℕ) (s : S) (cause : Cause) (line : List ℕ) (rest : List (List ℕ)) → 0 < length rest → read s line ≡ Err cause → read_parts read unended n s (line ∷ rest) ≡ Err (record { line = n; cause = cause })
stops read unended n s cause line [] h e = absurd (omega arith)
stops read unended n s cause line (next ∷ more) h e = ap (λ r. on_line n r (λ u. read_parts read unended (n + 1) u (next ∷ more))) e

-- no fault is on an earlier line
pub later : {S : Type 0} (read : S → List ℕ → Result S Cause) (unended : Cause) (n : ℕ) (s : S) (parts : List (List ℕ)) → IfErr (read_parts read unended n s parts) (λ first. n ≤ first.line)
later read unended n s [] = tt
later read unended n s (rest ∷ []) = elim (length rest == 0) as (λ b. IfErr (if b then Ok s else Err (record { line = n; cause = unended })) (λ (first : BlockFault). n ≤ first.line)) [ true ↦ tt | false ↦ omega arith ]
later {S} read unended n s (line ∷ next ∷ more) =
    elim (read s line) as (λ r. IfErr (on_line n r (λ t. read_parts read unended (n + 1) t (next ∷ more))) (λ first. n ≤ first.line)) [
      | Ok t ↦ IfErr-weaker _ (λ first. n + 1 ≤ first.line) _ (λ first h. omega arith) (later read unended (n + 1) t (next ∷ more))
      | Err cause ↦ omega arith
    ]

-- what is read from line n on is read so from any other line on
pub read_from : {S : Type 0} (read : S → List ℕ → Result S Cause) (unended : Cause) (n m : ℕ) (s t : S) (parts : List (List ℕ)) → read_parts read unended n s parts ≡ Ok t → read_parts read unended m s parts ≡ Ok t
read_from read unended n m s t [] h = h
read_from {S} read unended n m s t (rest ∷ []) h = by (length rest == 0) (record { line = n; cause = unended }) (record { line = m; cause = unended }) h
  where
    by : (b : Bool) (one two : BlockFault) → (if b then Ok s else Err one) ≡ Ok t → (if b then Ok s else Err two) ≡ Ok t
    by true one two h = h
    by false one two h = cc
read_from {S} read unended n m s t (line ∷ next ∷ more) h = by (read s line) (λ u e. read_from read unended (n + 1) (m + 1) u t (next ∷ more) e) h
  where
    by : (r : Result S Cause) → ((u : S) → read_parts read unended (n + 1) u (next ∷ more) ≡ Ok t → read_parts read unended (m + 1) u (next ∷ more) ≡ Ok t)
        → on_line n r (λ u. read_parts read unended (n + 1) u (next ∷ more)) ≡ Ok t → on_line m r (λ u. read_parts read unended (m + 1) u (next ∷ more)) ≡ Ok t
    by (Ok u) again h = again u h
    by (Err cause) again h = cc

-- a line is taken; `wanted` is what all parts give
pub read_on : {S : Type 0} (read : S → List ℕ → Result S Cause) (unended : Cause) (n : ℕ) (s t : S) (parts : List (List ℕ)) (line : List ℕ) (rest : List (List ℕ)) (wanted : Result S BlockFault)
    → parts ≡ line ∷ rest → 0 < length rest → read s line ≡ Ok t
    → read_parts read unended n s parts ≡ wanted → read_parts read unended (n + 1) t rest ≡ wanted
read_on read unended n s t parts line rest wanted cut more e h =
    sym (goes_on read unended n s t line rest more e) ∙ ap (read_parts read unended n s) (sym cut) ∙ h

-- a line is refused
pub refused_on : {S : Type 0} (read : S → List ℕ → Result S Cause) (unended : Cause) (n : ℕ) (s : S) (cause : Cause) (parts : List (List ℕ)) (line : List ℕ) (rest : List (List ℕ)) (wanted : Result S BlockFault)
    → parts ≡ line ∷ rest → 0 < length rest → (cause ≡ Memory) ⊎ (read s line ≡ Err cause)
    → read_parts read unended n s parts ≡ wanted
    → (wanted ≡ Err (record { line = n; cause = cause })) ⊎ ((cause ≡ Memory) × IfErr wanted (λ first. n ≤ first.line))
refused_on read unended n s cause parts line rest wanted cut more (inl memory) h =
    inr (memory, subst (λ r. IfErr r (λ first. n ≤ first.line)) h (later read unended n s parts))
refused_on read unended n s cause parts line rest wanted cut more (inr e) h =
    inl (sym h ∙ ap (read_parts read unended n s) cut ∙ stops read unended n s cause line rest more e)

-- the part at an index, and the parts after it
drop-texts : (parts : List (Bor (List ℕ))) (i : ℕ) (d : Bor (List ℕ)) → i < length parts → drop i (texts parts) ≡ (get_or parts i d).now ∷ drop (i + 1) (texts parts)
drop-texts parts i d h =
    drop-map (λ part. part.now) i parts ∙ ap texts (drop-cons parts i d h)
    ∙ ap (λ rest. (get_or parts i d).now ∷ rest) (sym (drop-map (λ part. part.now) (suc i) parts) ∙ ap (λ k. drop k (texts parts)) (sym (add-one i)))

length-rest : (parts : List (Bor (List ℕ))) (i : ℕ) → length (drop i (texts parts)) ≡ length parts - i
length-rest parts i = length-drop i (texts parts) ∙ ap (λ n. n - i) (length-map parts (λ part. part.now))

-- the steps of a loop over the parts; `wanted` is what all of them give

pub taken : {S : Type 0} (read : S → List ℕ → Result S Cause) (unended : Cause) (n m : ℕ) (s t : S) (parts : List (Bor (List ℕ))) (i : ℕ) (d : Bor (List ℕ)) (wanted : Result S BlockFault)
    → m ≡ n + 1 → i < length parts → i + 1 ≢ length parts → read s (get_or parts i d).now ≡ Ok t
    → read_parts read unended n s (drop i (texts parts)) ≡ wanted → read_parts read unended m t (drop (i + 1) (texts parts)) ≡ wanted
taken read unended n m s t parts i d wanted next lt more e h =
    let behind : 0 < length (drop (i + 1) (texts parts)) = omega (arith, length-rest parts (i + 1)) in
    ap (λ k. read_parts read unended k t (drop (i + 1) (texts parts))) next
    ∙ read_on read unended n s t (drop i (texts parts)) (get_or parts i d).now (drop (i + 1) (texts parts)) wanted (drop-texts parts i d lt) behind e h

pub ended : {S : Type 0} (read : S → List ℕ → Result S Cause) (unended : Cause) (n m : ℕ) (s : S) (parts : List (Bor (List ℕ))) (i : ℕ) (d : Bor (List ℕ)) (wanted : Result S BlockFault)
    → i + 1 ≡ length parts → true ≡ (length (get_or parts i d).now == 0)
    → read_parts read unended n s (drop i (texts parts)) ≡ wanted → read_parts read unended m s (drop (i + 1) (texts parts)) ≡ wanted
ended read unended n m s parts i d wanted last empty h =
    let none : length (drop (i + 1) (texts parts)) ≡ 0 = omega (arith, length-rest parts (i + 1)) in
    at_end (drop (i + 1) (texts parts)) none (ap (read_parts read unended n s) (sym (drop-texts parts i d (omega arith))) ∙ h)
  where
    at_end : (rest : List (List ℕ)) → length rest ≡ 0 → read_parts read unended n s ((get_or parts i d).now ∷ rest) ≡ wanted → read_parts read unended m s rest ≡ wanted
    at_end [] none h = ap (λ b. if b then Ok s else Err (record { line = n; cause = unended })) empty ∙ h
    at_end (part ∷ rest) none h = absurd (omega arith)

pub refused : {S : Type 0} (read : S → List ℕ → Result S Cause) (unended : Cause) (n : ℕ) (s : S) (cause : Cause) (parts : List (Bor (List ℕ))) (i : ℕ) (d : Bor (List ℕ)) (wanted : Result S BlockFault)
    → i < length parts → i + 1 ≢ length parts → (cause ≡ Memory) ⊎ (read s (get_or parts i d).now ≡ Err cause)
    → read_parts read unended n s (drop i (texts parts)) ≡ wanted
    → (wanted ≡ Err (record { line = n; cause = cause })) ⊎ ((cause ≡ Memory) × IfErr wanted (λ first. n ≤ first.line))
refused read unended n s cause parts i d wanted lt more e h =
    let behind : 0 < length (drop (i + 1) (texts parts)) = omega (arith, length-rest parts (i + 1)) in
    refused_on read unended n s cause (drop i (texts parts)) (get_or parts i d).now (drop (i + 1) (texts parts)) wanted (drop-texts parts i d lt) behind e h
