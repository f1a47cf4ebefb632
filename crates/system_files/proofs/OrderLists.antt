-- Orders after orders.
use Rattle.std.proofs.Common.{◌≡◌, ◌++◌, ◌⊎◌, inl, inr, ℕ, List, Option, None, Some, OnErr, refl, sym, [], ◌∷◌, subst, ap, ◌∙◌, append_assoc, arith}
use Rattle.std.specs.Prelude.{Result, Ok, Err, true, not}
use Rattle.std.specs.Str.{bytes_eq}
use Rattle.std.proofs.lemmas.List.Elements.{All-append}
use Rattle.std.proofs.lemmas.Slice.Eq.{bytes_eq-Decides}
use Rattle.system_files.specs.Entries.{Entries, Entry, IsBeside, IsNewPath, KeepsBut}
use Rattle.system_files.specs.Orders.{Asks, Follow, IsClearing, LeavesNoFile, Make, MakesLast, Clears, Order, Remove, SyncsAndRenames}

-- orders of one kind, and then of another
follow_then : (first second both : List Order → Type 0) (joined : (xs ys : List Order) → first xs → second ys → both (xs ++ ys)) (a b c : Option (List Order)) → Follow first a b → Follow second b c → Follow both a c
follow_then first second both joined None b c one two = tt
follow_then first second both joined (Some x) None c one two = absurd one
follow_then first second both joined (Some x) (Some y) None one two = absurd two
follow_then first second both joined (Some x) (Some y) (Some z) (xs, one, is) (ys, two, so) = (xs ++ ys, joined xs ys one two, so ∙ ap (λ (l : List Order). l ++ ys) is ∙ append_assoc x xs ys)

-- what was left over is removed, and then more of it
pub cleared_then : (a b c : Option (List Order)) → Follow Clears a b → Follow Clears b c → Follow Clears a c
cleared_then = follow_then Clears Clears Clears (All-append IsClearing)

made_later : (path : List ℕ) (xs ys : List Order) → Clears xs → MakesLast path ys → MakesLast path (xs ++ ys)
made_later path xs ys none (before, so, is) = (xs ++ before, All-append IsClearing xs before none so, ap (λ (l : List Order). xs ++ l) is ∙ sym (append_assoc xs before (Make path ∷ [])))

-- what was left over is removed, and then a file is made
pub then_made : (path : List ℕ) (a b c : Option (List Order)) → Follow Clears a b → Follow (MakesLast path) b c → Follow (MakesLast path) a c
then_made path = follow_then Clears (MakesLast path) (MakesLast path) (made_later path)

-- a file is made, synced and renamed, and then removed
left_none : (name : List ℕ) (a b c d : Option (List Order)) → Follow (MakesLast name) a b → Follow SyncsAndRenames b c → Asks c d (Remove name ∷ []) → Follow LeavesNoFile a d
left_none name None b c d one two three = tt
left_none name (Some x) None c d one two three = absurd one
left_none name (Some x) (Some y) None d one two three = absurd two
left_none name (Some x) (Some y) (Some z) None one two three = absurd three
left_none name (Some x) (Some y) (Some z) (Some w) (made, (before, clear, ends), to_y) (after, synced, to_z) to_w = (
  before ++ Make name ∷ after ++ Remove name ∷ [],
  inr (before, after, name, clear, synced, refl),
  to_w
      ∙ ap (λ (l : List Order). l ++ (Remove name ∷ [])) to_z
      ∙ append_assoc y after (Remove name ∷ [])
      ∙ ap (λ (l : List Order). l ++ (after ++ (Remove name ∷ []))) to_y
      ∙ append_assoc x made (after ++ (Remove name ∷ []))
      ∙ ap (λ (l : List Order). x ++ (l ++ (after ++ (Remove name ∷ [])))) ends
      ∙ ap (λ (l : List Order). x ++ l) (append_assoc before (Make name ∷ []) (after ++ (Remove name ∷ [])) ∙ sym (append_assoc before (Make name ∷ after) (Remove name ∷ []))),
)

-- if the outcome is an error, no file is left
pub cleared_up : {A E : Type 0} (outcome : Result A E) (name : List ℕ) (a b c d : Option (List Order)) → Follow (MakesLast name) a b → OnErr outcome (Follow SyncsAndRenames b c) → OnErr outcome (Asks c d (Remove name ∷ [])) → OnErr outcome (Follow LeavesNoFile a d)
cleared_up (Ok x) name a b c d one two three = tt
cleared_up (Err e) name a b c d one two three = left_none name a b c d one two three

-- what is touched is among more
wide : (few many : List ℕ → Type 0) (path : List ℕ) (x y : Entry) → (few path → many path) → few path ⊎ (y ≡ x) → many path ⊎ (y ≡ x)
wide few many path x y h (inl is) = inl (h is)
wide few many path x y h (inr same) = inr same

pub widened : (few many : List ℕ → Type 0) (a b : Option Entries) → ((path : List ℕ) → few path → many path) → KeepsBut few a b → KeepsBut many a b
widened few many None b h kept = tt
widened few many (Some x) None h kept = absurd kept
widened few many (Some x) (Some y) h kept = λ path. wide few many path (x path) (y path) (h path) (kept path)

-- the same paths are touched twice
both : (touched : List ℕ → Type 0) (path : List ℕ) (x y z : Entry) → touched path ⊎ (y ≡ x) → touched path ⊎ (z ≡ y) → touched path ⊎ (z ≡ x)
both touched path x y z (inl is) second = inl is
both touched path x y z (inr so) (inl is) = inl is
both touched path x y z (inr so) (inr same) = inr (same ∙ so)

pub kept_twice : (touched : List ℕ → Type 0) (a b c : Option Entries) → KeepsBut touched a b → KeepsBut touched b c → KeepsBut touched a c
kept_twice touched None b c first second = tt
kept_twice touched (Some x) None c first second = absurd first
kept_twice touched (Some x) (Some y) None first second = absurd second
kept_twice touched (Some x) (Some y) (Some z) first second = λ path. both touched path (x path) (y path) (z path) (first path) (second path)

-- paths that may be touched, and then only one of them
pub kept_then : (touched : List ℕ → Type 0) (name : List ℕ) (a b c : Option Entries) → touched name → KeepsBut touched a b → KeepsBut (λ path. path ≡ name) b c → KeepsBut touched a c
kept_then touched name a b c h first second = kept_twice touched a b c first (widened (λ path. path ≡ name) touched b c (λ path is. subst touched (sym is) h) second)

-- bytes that a test finds different
differs : (xs ys : List ℕ) → xs ≡ ys → true ≡ not (bytes_eq xs ys) → ⊥
differs xs ys is test = let same : bytes_eq xs ys ≡ true = (bytes_eq-Decides xs ys).1 is in absurd (grind (arith, test, same))

-- the path of a new file is beside the path to replace, if a test finds them different
pub is_beside : (replaced made looked name : List ℕ) → IsNewPath replaced made → made ≡ looked → made ≡ name → true ≡ not (bytes_eq looked replaced) → IsBeside replaced name
is_beside replaced made looked name new seen same test = subst (IsBeside replaced) same (new, λ is. differs looked replaced (sym seen ∙ is) test)
