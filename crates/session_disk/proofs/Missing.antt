-- Looks that were made one after another.
use Rattle.std.proofs.Common.{◌≡◌, ◌≢◌, ◌&&◌, ◌∷◌, [], ◌++◌, List, Option, Some, None, true, false, eqb, refl, ap, subst, ◌∙◌, append_assoc}
use Rattle.std.proofs.lemmas.Bool.{eq-eqb}
use Rattle.std.specs.Prelude.{ℕ}
use Rattle.session_disk.specs.Logs.{FolderView, Look}
use Rattle.session_disk.specs.Looks.{Misses, Sees, look}
use Rattle.session_disk.specs.declared.log_folder.FileNumber.{FileNumber}
use Rattle.session_disk.specs.declared.log_folder.Links.{Links}

pub sees_then : (a b c : Option FolderView) (xs ys : List Look) → Sees a b xs → Sees b c ys → Sees a c (xs ++ ys)
sees_then None b c xs ys first second = tt
sees_then (Some a) None c xs ys first second = absurd first
sees_then (Some a) (Some b) None xs ys first second = absurd second
sees_then (Some a) (Some b) (Some c) xs ys first second =
    second ∙ ap (λ (v : FolderView). record v { looks = v.looks ++ ys }) first
    ∙ ap (λ (l : List Look). record a { looks = l }) (append_assoc a.looks xs ys)

-- the first look missed
pub misses_first : (a b : Option FolderView) (x : Look) (rest : List Look) → Misses a b (x ∷ []) → Misses a b (x ∷ rest)
misses_first a b x rest m = only m.found m.wanted_is m.sees
  where
    only : (found : List Look) → x ∷ [] ≡ found ++ m.missed ∷ m.rest → Sees a b (found ++ record m.missed { found = m.other } ∷ []) → Misses a b (x ∷ rest)
    only [] is sees = record { found = []; missed = m.missed; rest = rest; other = m.other; wanted_is = first_is is; sees = sees; differs = m.differs }
      where
        first_is : x ∷ [] ≡ m.missed ∷ m.rest → x ∷ rest ≡ m.missed ∷ rest
        first_is same = let head : x ≡ m.missed = cc in ap (λ (l : Look). l ∷ rest) head
    only (y ∷ found) is sees = absurd (too_long found is)
      where
        too_long : (found : List Look) → x ∷ [] ≡ y ∷ found ++ m.missed ∷ m.rest → ⊥
        too_long [] same = cc
        too_long (z ∷ more) same = cc

-- a later one did
pub misses_later : (a b c : Option FolderView) (x : Look) (rest : List Look) → Sees a b (x ∷ []) → Misses b c rest → Misses a c (x ∷ rest)
misses_later a b c x rest first m = record {
  found = x ∷ m.found;
  missed = m.missed;
  rest = m.rest;
  other = m.other;
  wanted_is = ap (λ (l : List Look). x ∷ l) m.wanted_is;
  sees = sees_then a b c (x ∷ []) _ first m.sees;
  differs = m.differs;
}

-- looks at one path under two names of it
pub seen_at : (a b : Option FolderView) (p q : List ℕ) (links : Links) (file : Option FileNumber) → p ≡ q → Sees a b (look p links file ∷ []) → Sees a b (look q links file ∷ [])
seen_at a b p q links file same sees = subst (λ r. Sees a b (look r links file ∷ [])) same sees

pub missed_at : (a b : Option FolderView) (p q : List ℕ) (links : Links) (file : Option FileNumber) → p ≡ q → Misses a b (look p links file ∷ []) → Misses a b (look q links file ∷ [])
missed_at a b p q links file same missed = subst (λ r. Misses a b (look r links file ∷ [])) same missed

-- numbers that are compared as different differ
pub other_number : (a b : FileNumber) → (eqb a.device b.device && eqb a.inode b.inode) ≡ false → Some a ≢ Some b
other_number a b not same =
    let is : a ≡ b = cc in
    let yes : (eqb a.device b.device && eqb a.inode b.inode) ≡ true = subst (λ (n : FileNumber). (eqb a.device n.device && eqb a.inode n.inode) ≡ true) is (rw (eq-eqb a.device a.device refl, eq-eqb a.inode a.inode refl) refl) in
    cc
