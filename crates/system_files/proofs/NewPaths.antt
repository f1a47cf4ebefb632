-- The paths of new files.
use Rattle.std.proofs.Common.{◌≡◌, ◌<◌, ◌≤◌, ◌+◌, ◌++◌, ◌∷◌, List, [], ℕ, suc, Option, None, Some, MatchOption, Bor, IfOk, inl, inr, refl, sym, subst, ◌∙◌, ap, append_assoc, arith, length, take, drop, get_or}
use Rattle.std.specs.Prelude.{Result, Ok, Err, codes}
use Rattle.std.specs.Fmt.{decimal}
use Rattle.std.specs.Option.{option_map, unwrap_or}
use Rattle.std.specs.Str.Pattern.{RFindsChar}
use Rattle.std.proofs.lemmas.List.{take-append-drop}
use Rattle.std.proofs.lemmas.Option.{none-some}
use Rattle.std.proofs.lemmas.Str.{len_utf8_ascii}
use Rattle.std.proofs.lemmas.Str.Pattern.{NoCharPasses-char}
use Rattle.std.proofs.Math.Seq.{drop-cons}
use Rattle.system_files.specs.Entries.{HasNoSlash, IsNewPath}

-- what is known of a path that is split at its last slash, if it has one
abbrev IsParted : List ℕ → Option (Bor (List ℕ) × Bor (List ℕ)) → Type 0
IsParted path r = MatchOption r (RFindsChar 47 path None) (λ x. (i : ℕ) × (j : ℕ) × RFindsChar 47 path (Some (i, j)) × (x.0.now ≡ take i path) × (x.1.now ≡ drop j path) × (i ≤ j) × (length x.0.now ≡ i) × (length x.1.now + j ≡ length path))

-- a path that has no slash
pub unparted : (path : List ℕ) (r : Option (Bor (List ℕ) × Bor (List ℕ))) → IsParted path r → option_map (λ x. x.0.now) r ≡ None → HasNoSlash path
unparted path None h none = λ i. NoCharPasses-char 47 path i h (omega arith)
unparted path (Some x) h none = absurd (none-some x.0.now (sym none))

-- a path that has a slash, with this text before it
pub parted : (path outer : List ℕ) (r : Option (Bor (List ℕ) × Bor (List ℕ))) → IsParted path r → option_map (λ x. x.0.now) r ≡ Some outer → (name : List ℕ) × HasNoSlash name × (path ≡ outer ++ (codes "/" ++ name))
parted path outer None h some = absurd (none-some outer some)
parted path outer (Some x) h some =
    let i = h.0 in
    let j = h.1 in
    let next : j ≡ suc i = omega (arith, h.2.1.ends, len_utf8_ascii 47 (omega arith)) in
    let slash : get_or path i 0 ≡ 47 = h.2.1.byte (omega arith) in
    let rest : drop i path ≡ 47 ∷ drop (suc i) path = subst (λ (b : ℕ). drop i path ≡ b ∷ drop (suc i) path) slash (drop-cons path i 0 (omega (arith, h.7))) in
    let behind : drop i path ≡ 47 ∷ drop j path = subst (λ (n : ℕ). drop i path ≡ 47 ∷ drop n path) (sym next) rest in
    let before : take i path ≡ outer = sym h.3 ∙ ap (λ (o : Option (List ℕ)). unwrap_or o []) some in (
      drop j path,
      λ k. NoCharPasses-char 47 (drop j path) k h.2.0 (omega arith),
      sym (take-append-drop i path) ∙ ap (λ (l : List ℕ). take i path ++ l) behind ∙ ap (λ (l : List ℕ). l ++ (47 ∷ drop j path)) before,
    )

-- a text that has the name and a number is the path of a new file, if the path to replace has no slash
pub named : {S E : Type 0} (bytes_of : S → List ℕ) (made : Result S E) (replaced : List ℕ) (n : ℕ) → n < 100 → HasNoSlash replaced → IfOk made (λ t. bytes_of t ≡ codes ".rvstm.new" ++ decimal n) → IfOk made (λ t. IsNewPath replaced (bytes_of t))
named bytes_of (Ok t) replaced n below none is = ([], n, (replaced, none, refl, inl refl), below, is)
named bytes_of (Err e) replaced n below none is = tt

-- and so is one with its folder before it
pub named_in : {S E : Type 0} (bytes_of : S → List ℕ) (made : Result S E) (replaced outer name : List ℕ) (n : ℕ) → n < 100 → HasNoSlash name → replaced ≡ outer ++ (codes "/" ++ name) → IfOk made (λ t. bytes_of t ≡ outer ++ (codes "/" ++ (codes ".rvstm.new" ++ decimal n))) → IfOk made (λ t. IsNewPath replaced (bytes_of t))
named_in bytes_of (Ok t) replaced outer name n below none parts is = (
  outer ++ codes "/",
  n,
  (name, none, parts ∙ sym (append_assoc outer (codes "/") name), inr (outer, refl)),
  below,
  is
      ∙ sym (append_assoc outer (codes "/") (codes ".rvstm.new" ++ decimal n))
      ∙ sym (append_assoc (outer ++ codes "/") (codes ".rvstm.new") (decimal n)),
)
named_in bytes_of (Err e) replaced outer name n below none parts is = tt
