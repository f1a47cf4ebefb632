-- Buckets of keys: what they say of each key after the position of one was noted.
use Rattle.std.proofs.Common.{◌≡◌, ◌≢◌, ◌==◌, ◌<◌, ◌≤◌, ℕ, suc, zero, min, Bool, true, false, cond, List, [], ◌∷◌, length, set, slice_get, slice_index, None, Some, refl, sym, ap, ◌∙◌, arith, inl, inr}
use mathlib.Core.Bool.{false≢true}
use Rattle.std.proofs.lemmas.Bool.{cases_eq, cases_lt}
use Rattle.std.proofs.lemmas.Bool.Decides.{Decides-eqb}
use Rattle.mvmap.specs.Hints.{bucket_of, filled, hint_in, hint_of, last_hint, no_hint, noted}
use Rattle.rv_ledger.proofs.Positions.{get_set_apart, get_set_here}
use Rattle.mvmap.specs.declared.hints.Hint.TheVariants.{Nothing, At}

-- ---- a list, one element of which was replaced

get_set_past : {A : Type 0} (list : List A) (p : ℕ) (s : A) → length list ≤ p → slice_get (set list p s) p ≡ None
get_set_past [] p s l = refl
get_set_past (x ∷ list) zero s l = absurd (omega arith)
get_set_past (x ∷ list) (suc p) s l = get_set_past list p s (omega arith)

pub get_past : {A : Type 0} (list : List A) (p : ℕ) → length list ≤ p → slice_get list p ≡ None
get_past [] p l = refl
get_past (x ∷ list) zero l = absurd (omega arith)
get_past (x ∷ list) (suc p) l = get_past list p (omega arith)

get_there : (list : List ℕ) (p : ℕ) → p < length list → slice_get list p ≡ Some (slice_index list p)
get_there [] p l = absurd (omega arith)
get_there (x ∷ list) zero l = refl
get_there (x ∷ list) (suc p) l = get_there list p (omega arith)

-- ---- one bucket

-- a bucket that says that it is empty has no hint
holds_none : (content : ℕ) → hint_in (Some content) ≡ Nothing → content ≡ no_hint
holds_none content = by (content == no_hint) refl
  where
    by : (b : Bool) → (content == no_hint) ≡ b → cond b Nothing (At content) ≡ Nothing → content ≡ no_hint
    by true t e = (Decides-eqb content no_hint).0 t
    by false t e = cc

-- a bucket in which a position was noted has a hint
has_hint : (content position : ℕ) → filled content position ≢ no_hint
has_hint content position = by (content == no_hint) refl
  where
    by : (b : Bool) → (content == no_hint) ≡ b → cond b (min position last_hint) content ≢ no_hint
    by true t e = omega arith
    by false t e = false≢true (sym t ∙ (Decides-eqb content no_hint).1 e)

-- a hint is kept if another position is noted
keeps_hint : (content position p : ℕ) → hint_in (Some content) ≡ At p → hint_in (Some (filled content position)) ≡ At p
keeps_hint content position p = by (content == no_hint) refl
  where
    by : (b : Bool) → (content == no_hint) ≡ b → cond b Nothing (At content) ≡ At p → hint_in (Some (cond b (min position last_hint) content)) ≡ At p
    by true t e = cc
    by false t e = ap (λ c. cond c Nothing (At content)) t ∙ e

-- an empty bucket takes a position that a hint can say
takes_hint : (content position : ℕ) → hint_in (Some content) ≡ Nothing → position ≤ last_hint → hint_in (Some (filled content position)) ≡ At position
takes_hint content position e least = ap (λ b. hint_in (Some (cond b (min position last_hint) content))) ((Decides-eqb content no_hint).1 (holds_none content e)) ∙ ap (λ (n : ℕ). hint_in (Some n)) same ∙ by (position == no_hint) refl
  where
    same : min position last_hint ≡ position
    same = omega arith

    by : (b : Bool) → (position == no_hint) ≡ b → cond b Nothing (At position) ≡ At position
    by true t = let is : position ≡ no_hint = (Decides-eqb position no_hint).0 t in absurd (omega arith)
    by false t = refl

-- ---- all of them

module _ (buckets key : List ℕ) (position : ℕ) where
  abbrev bucket : ℕ
  bucket = bucket_of key

  abbrev content : ℕ
  content = filled (slice_index buckets (bucket_of key)) position

  -- the bucket of the key is not empty
  pub noted_found : hint_of (noted buckets key position) key ≢ Nothing
  noted_found e = elim (cases_lt bucket (length buckets)) [
    | inl l ↦ has_hint (slice_index buckets bucket) position (holds_none content (sym (ap hint_in (get_set_here buckets bucket content l)) ∙ e))
    | inr past ↦ let none : hint_in None ≡ Nothing = sym (ap hint_in (get_set_past buckets bucket content past)) ∙ e in cc
  ]

  -- a bucket that is empty was empty
  pub noted_empty : (q : List ℕ) → hint_of (noted buckets key position) q ≡ Nothing → hint_of buckets q ≡ Nothing
  noted_empty q e = elim (cases_eq bucket (bucket_of q)) [
    | inl same ↦ absurd (noted_found (ap (λ (b : ℕ). hint_in (slice_get (noted buckets key position) b)) same ∙ e))
    | inr ne ↦ sym (ap hint_in (get_set_apart buckets bucket (bucket_of q) content ne)) ∙ e
  ]

  -- a hint stays
  pub noted_kept : (q : List ℕ) (p : ℕ) → hint_of buckets q ≡ At p → hint_of (noted buckets key position) q ≡ At p
  noted_kept q p e = elim (cases_eq bucket (bucket_of q)) [
    | inl same ↦ elim (cases_lt bucket (length buckets)) [
      | inl l ↦ ap (λ (b : ℕ). hint_in (slice_get (noted buckets key position) b)) (sym same) ∙ ap hint_in (get_set_here buckets bucket content l)
          ∙ keeps_hint (slice_index buckets bucket) position p (sym (ap hint_in (get_there buckets bucket l)) ∙ ap (λ (b : ℕ). hint_in (slice_get buckets b)) same ∙ e)
      | inr past ↦ let none : hint_in None ≡ At p = sym (ap hint_in (get_past buckets bucket past)) ∙ ap (λ (b : ℕ). hint_in (slice_get buckets b)) same ∙ e in cc
    ]
    | inr ne ↦ ap hint_in (get_set_apart buckets bucket (bucket_of q) content ne) ∙ e
  ]

  -- an empty bucket takes a position that a hint can say
  pub noted_at : hint_of buckets key ≡ Nothing → position ≤ last_hint → hint_of (noted buckets key position) key ≡ At position
  noted_at e least = elim (cases_lt bucket (length buckets)) [
    | inl l ↦ ap hint_in (get_set_here buckets bucket content l) ∙ takes_hint (slice_index buckets bucket) position (sym (ap hint_in (get_there buckets bucket l)) ∙ e) least
    | inr past ↦ let none : hint_in None ≡ Nothing = sym (ap hint_in (get_past buckets bucket past)) ∙ e in cc
  ]
