-- An iterator over positions of a list takes the first one: it is one of the list, and so are those that are left.
use Rattle.std.proofs.Common.{◌≡◌, ◌<◌, ◌∷◌, ℕ, List, [], Option, None, Some, Bor, length, sym}
use Rattle.std.specs.Map.Iter.{TakesFirst, deref_pair}
use Rattle.std.proofs.lemmas.List.Elements.{All-head, All-nil, All-rest, All-same}
use Rattle.rv_ledger.specs.Positions.{AreWithin, EntryList, Positions}

abbrev Within : EntryList → List ℕ × ℕ → Type 0
Within list e = e.1 < length list

pub first_within : (list : EntryList) (s t : Positions) (e : List ℕ × ℕ) → s ≡ e ∷ t → AreWithin s list → e.1 < length list
first_within list s t e is all = All-head (Within list) e t (All-same (Within list) (e ∷ t) s (sym is) all)

pub rest_within : (list : EntryList) (s t : Positions) (r : Option (Bor (List ℕ) × Bor ℕ)) → TakesFirst deref_pair s r t → AreWithin s list → AreWithin t list
rest_within list s t None h all = All-same (Within list) t [] h.1 (All-nil (Within list))
rest_within list s t (Some x) h all = All-rest (Within list) (deref_pair x) t s h all

pub none_left : (s t : Positions) (r : Option (Bor (List ℕ) × Bor ℕ)) → r ≡ None → TakesFirst deref_pair s r t → (s ≡ []) × (t ≡ [])
none_left s t None is h = h
none_left s t (Some x) is h = cc
