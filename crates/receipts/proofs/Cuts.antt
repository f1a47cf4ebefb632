-- A text of lines of fields determines its lines and their fields.
use Rattle.std.proofs.Common.{◌≡◌, ℕ, Bool, true, false, ◌&&◌, List, [], ◌∷◌, ◌++◌, nat_lt, nat_le, refl, sym, ◌∙◌, arith, append_assoc}
use Rattle.std.specs.Prelude.{flat_map}
use Rattle.std.proofs.lemmas.Bool.Decides.{nat_tests}
use Rattle.receipts.specs.Text.{more_fields, printed_line}

-- both parts of a test that passed
pub both : (a b : Bool) → (a && b) ≡ true → (a ≡ true) × (b ≡ true)
both true b h = (refl, h)
both false b h = cc

-- a field has no control byte and no space
abbrev pub plain : List ℕ → Bool
plain [] = true
plain (c ∷ cs) = nat_lt 32 c && plain cs

-- each of them is a field
abbrev pub all_plain : List (List ℕ) → Bool
all_plain [] = true
all_plain (f ∷ fs) = plain f && all_plain fs

-- what comes after a field begins with a space or a control byte
abbrev ends : List ℕ → Bool
ends [] = false
ends (c ∷ t) = nat_le c 32

-- what comes after a field does not begin with a byte of a field
inside : (c : ℕ) (cs t : List ℕ) → plain (c ∷ cs) ≡ true → ends t ≡ true → (r : List ℕ) → t ≡ c ∷ r → ⊥
inside c cs [] p e r h = cc
inside c cs (d ∷ t) p e r h =
    let same : d ≡ c = cc in
    let high = (both (nat_lt 32 c) (plain cs) p).0 in
    absurd (grind (arith, nat_tests))

-- a field and what comes after it
pub field_cut : (a b t u : List ℕ) → plain a ≡ true → plain b ≡ true → ends t ≡ true → ends u ≡ true → a ++ t ≡ b ++ u → (a ≡ b) × (t ≡ u)
field_cut [] [] t u p q e f h = (refl, h)
field_cut [] (y ∷ b) t u p q e f h = absurd (inside y b t q e (b ++ u) h)
field_cut (x ∷ a) [] t u p q e f h = absurd (inside x a u p f (a ++ t) (sym h))
field_cut (x ∷ a) (y ∷ b) t u p q e f h =
    let same : x ≡ y = cc in
    let rest : a ++ t ≡ b ++ u = cc in
    let cut = field_cut a b t u (both (nat_lt 32 x) (plain a) p).1 (both (nat_lt 32 y) (plain b) q).1 e f rest in
    let first : x ∷ a ≡ y ∷ b = cc (same, cut.0) in
    (first, cut.1)

-- what comes after a field ends it
ends_fields : (fs : List (List ℕ)) (t : List ℕ) → ends (more_fields fs ++ t) ≡ true
ends_fields [] t = refl
ends_fields (f ∷ fs) t = refl

-- a line's end is not the space before a field
end_apart : (f : List ℕ) (fs : List (List ℕ)) (t u : List ℕ) → more_fields [] ++ t ≡ more_fields (f ∷ fs) ++ u → ⊥
end_apart f fs t u h = cc

-- what comes after the lines' ends
end_cut : (t u : List ℕ) → more_fields [] ++ t ≡ more_fields [] ++ u → t ≡ u
end_cut t u h = cc

-- what comes after the spaces before the first fields
space_cut : (f g : List ℕ) (fs gs : List (List ℕ)) (t u : List ℕ) → more_fields (f ∷ fs) ++ t ≡ more_fields (g ∷ gs) ++ u → f ++ (more_fields fs ++ t) ≡ g ++ (more_fields gs ++ u)
space_cut f g fs gs t u h =
    let behind : (f ++ more_fields fs) ++ t ≡ (g ++ more_fields gs) ++ u = cc in
    sym (append_assoc f (more_fields fs) t) ∙ behind ∙ append_assoc g (more_fields gs) u

-- equal first fields and equal further fields
same_fields : (f g : List ℕ) (fs gs : List (List ℕ)) → f ≡ g → fs ≡ gs → f ∷ fs ≡ g ∷ gs
same_fields f g fs gs first rest = cc

-- the fields of a line and what comes after it
fields_cut : (fs gs : List (List ℕ)) (t u : List ℕ) → all_plain fs ≡ true → all_plain gs ≡ true → more_fields fs ++ t ≡ more_fields gs ++ u → (fs ≡ gs) × (t ≡ u)
fields_cut [] [] t u p q h = (refl, end_cut t u h)
fields_cut [] (g ∷ gs) t u p q h = absurd (end_apart g gs t u h)
fields_cut (f ∷ fs) [] t u p q h = absurd (end_apart f fs u t (sym h))
fields_cut (f ∷ fs) (g ∷ gs) t u p q h =
    let mine = both (plain f) (all_plain fs) p in
    let other = both (plain g) (all_plain gs) q in
    let cut = field_cut f g (more_fields fs ++ t) (more_fields gs ++ u) mine.0 other.0 (ends_fields fs t) (ends_fields gs u) (space_cut f g fs gs t u h) in
    let more = fields_cut fs gs t u mine.1 other.1 cut.1 in
    (same_fields f g fs gs cut.0 more.0, more.1)

-- a line: its word and its fields
abbrev pub Line : Type 0
Line = List ℕ × List (List ℕ)

-- a line of fields
abbrev pub plain_line : Line → Bool
plain_line line = plain line.0 && all_plain line.1

-- lines of fields
abbrev pub plain_lines : List Line → Bool
plain_lines [] = true
plain_lines (l ∷ ls) = plain_line l && plain_lines ls

-- the text of some lines
abbrev pub text_of : List Line → List ℕ
text_of lines = flat_map (λ line. printed_line line.0 line.1) lines

-- a line has a byte
line_some : (word : List ℕ) (fs : List (List ℕ)) (t : List ℕ) → [] ≡ printed_line word fs ++ t → ⊥
line_some [] [] t h = cc
line_some [] (f ∷ fs) t h = cc
line_some (c ∷ word) fs t h = cc

-- the lines of a text
pub lines_cut : (ls ms : List Line) → plain_lines ls ≡ true → plain_lines ms ≡ true → text_of ls ≡ text_of ms → ls ≡ ms
lines_cut [] [] p q h = refl
lines_cut [] ((v, gs) ∷ ms) p q h = absurd (line_some v gs (text_of ms) h)
lines_cut ((w, fs) ∷ ls) [] p q h = absurd (line_some w fs (text_of ls) (sym h))
lines_cut ((w, fs) ∷ ls) ((v, gs) ∷ ms) p q h =
    let mine = both (plain_line (w, fs)) (plain_lines ls) p in
    let other = both (plain_line (v, gs)) (plain_lines ms) q in
    let mine_parts = both (plain w) (all_plain fs) mine.0 in
    let other_parts = both (plain v) (all_plain gs) other.0 in
    let parted : w ++ (more_fields fs ++ text_of ls) ≡ v ++ (more_fields gs ++ text_of ms) =
    sym (append_assoc w (more_fields fs) (text_of ls)) ∙ h ∙ append_assoc v (more_fields gs) (text_of ms) in
    let cut = field_cut w v (more_fields fs ++ text_of ls) (more_fields gs ++ text_of ms) mine_parts.0 other_parts.0 (ends_fields fs (text_of ls)) (ends_fields gs (text_of ms)) parted in
    let fields = fields_cut fs gs (text_of ls) (text_of ms) mine_parts.1 other_parts.1 cut.1 in
    let rest = lines_cut ls ms mine.1 other.1 fields.1 in
    cc (cut.0, fields.0, rest)
