-- What a line adds if it is read: a program, an entry of the storage or a call.
use Rattle.std.proofs.Common.{◌≡◌, ◌==◌, ℕ, Bool, true, false, List, [], ◌∷◌, ◌++◌, length, Option, Some, Result, Ok, Err, ◌⊎◌, inl, inr, refl, ap, ◌∙◌, if◌then◌else◌}
use Rattle.std.specs.Prelude.{codes, not}
use Rattle.std.specs.List.{list_all}
use Rattle.std.specs.Str.{bytes_eq}
use Rattle.std.specs.FinMap.{insert}
use Rattle.rv_ledger.specs.Key.{Storage}
use Rattle.rv_ledger.specs.declared.rules.Rules.{Rules}
use Rattle.block_file.specs.declared.fault.Cause.{Cause}
use Rattle.block_file.specs.declared.fault.Cause.TheVariants.{BadLine}
use Rattle.block_file.specs.Line.{◌>>=◌, cut}
use Rattle.block_file.specs.Block.{Parsed, CallValue, line_call, with_program_line, with_stored, with_call_line, with_kind, with_fields, with_line}

abbrev pub state : Rules → List (List ℕ) → Storage → List CallValue → Option (List ℕ) → Parsed
state rules programs store calls last = record { block = record { rules = rules; programs = programs; store = store; calls = calls }; last = last }

module _ (rules : Rules) (programs : List (List ℕ)) (store : Storage) (calls : List CallValue) (last : Option (List ℕ)) (t : Parsed) where
  -- one more program, one more entry, or one more call, which does not depend on the storage
  abbrev pub Adds : (Parsed → Result Parsed Cause) → Type 0
  Adds read =
      ((p : List ℕ) × (t ≡ state rules (programs ++ p ∷ []) store calls last))
      ⊎ (((key : List ℕ) × (value : List ℕ) × (t ≡ state rules programs (insert store key value) calls (Some key)))
      ⊎ ((c : CallValue) × (t ≡ state rules programs store (calls ++ c ∷ []) last) × ((m : Storage) (l : Option (List ℕ)) → read (state rules programs m calls l) ≡ Ok (state rules programs m (calls ++ c ∷ []) l))))

  abbrev here : Parsed
  here = state rules programs store calls last

  program_done : (r : Result (List ℕ) Cause) → (r >>= λ p. Ok (state rules (programs ++ p ∷ []) store calls last)) ≡ Ok t → (p : List ℕ) × (t ≡ state rules (programs ++ p ∷ []) store calls last)
  program_done (Ok p) h = (p, cc)
  program_done (Err cause) h = cc

  stored_done : (r : Result (List ℕ × List ℕ) Cause) → (r >>= λ entry. Ok (state rules programs (insert store entry.0 entry.1) calls (Some entry.0))) ≡ Ok t → (key : List ℕ) × (value : List ℕ) × (t ≡ state rules programs (insert store key value) calls (Some key))
  stored_done (Ok e) h = (e.0, e.1, cc)
  stored_done (Err cause) h = cc

  one_of_two : (a b : Bool) (x y : Result Parsed Cause) → (if a then x else if b then y else Err BadLine) ≡ Ok t → (x ≡ Ok t) ⊎ (y ≡ Ok t)
  one_of_two true b x y h = inl h
  one_of_two false true x y h = inr h
  one_of_two false false x y h = cc

  call_done : (a : Bool) (r : Result CallValue Cause) (kind first second third : List ℕ) → bytes_eq kind (codes "call") ≡ a → line_call (length programs) (length calls) first second third ≡ r
      → (if a then (r >>= λ c. Ok (state rules programs store (calls ++ c ∷ []) last)) else Err BadLine) ≡ Ok t → Adds (λ s. with_kind s (kind ∷ first ∷ second ∷ third ∷ []))
  call_done true (Ok c) kind first second third e f h = inr (inr (
    c,
    cc,
    λ m l.
        ap (λ b. if b then with_call_line (state rules programs m calls l) first second third else Err BadLine) e
        ∙ ap (λ r. r >>= λ call. Ok (state rules programs m (calls ++ call ∷ []) l)) f,
  ))
  call_done true (Err cause) kind first second third e f h = cc
  call_done false r kind first second third e f h = cc

  kind_adds : (fields : List (List ℕ)) → with_kind here fields ≡ Ok t → Adds (λ s. with_kind s fields)
  kind_adds [] h = cc
  kind_adds (kind ∷ []) h = cc
  kind_adds (kind ∷ a ∷ []) h = cc
  kind_adds (kind ∷ a ∷ b ∷ []) h = by (one_of_two _ _ (with_program_line here a b) (with_stored here a b) h)
    where
      by : (with_program_line here a b ≡ Ok t) ⊎ (with_stored here a b ≡ Ok t) → Adds (λ s. with_kind s (kind ∷ a ∷ b ∷ []))
      by (inl e) = inl (program_done _ e)
      by (inr e) = inr (inl (stored_done _ e))
  kind_adds (kind ∷ a ∷ b ∷ c ∷ []) h = call_done (bytes_eq kind (codes "call")) (line_call (length programs) (length calls) a b c) kind a b c refl refl h
  kind_adds (kind ∷ a ∷ b ∷ c ∷ d ∷ more) h = cc

  fields_add : (a : Bool) (fields : List (List ℕ)) → list_all (λ field. not (length field == 0)) fields ≡ a → (if a then with_kind here fields else Err BadLine) ≡ Ok t → Adds (λ s. with_fields s fields)
  fields_add true fields e h = by (kind_adds fields h)
    where
      by : Adds (λ s. with_kind s fields) → Adds (λ s. with_fields s fields)
      by (inl program) = inl program
      by (inr (inl entry)) = inr (inl entry)
      by (inr (inr (c, is, again))) = inr (inr (c, is, λ m l. ap (λ b. if b then with_kind (state rules programs m calls l) fields else Err BadLine) e ∙ again m l))
  fields_add false fields e h = cc

  pub line_adds : (line : List ℕ) → with_line here line ≡ Ok t → Adds (λ s. with_line s line)
  line_adds line h = fields_add (list_all (λ field. not (length field == 0)) (cut 32 line)) (cut 32 line) refl h
