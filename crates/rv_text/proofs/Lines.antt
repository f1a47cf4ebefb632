-- What a line says that has a mnemonic, one blank and its operands.
use Rattle.std.proofs.Common.{◌≡◌, ℕ, suc, ◌<◌, ◌==◌, Bool, false, ◌||◌, List, [], ◌∷◌, ◌++◌, length, Some, None, Ok, arith, append_assoc, refl, ap, sym}
use Rattle.std.proofs.lemmas.Bool.Decides.{nat_tests}
use Rattle.std.specs.List.{list_any, before_first, after_first}
use Rattle.rv_names.specs.declared.keywords.Keyword.{Keyword}
use Rattle.rv_names.specs.declared.lines.Section.{Section}
use Rattle.rv_names.specs.Operands.{◌>>=◌, is_blank, trimmed, is_comma, one_operand, two_operands, three_operands, first_operand, last_operand}
use Rattle.rv_names.specs.Mnemonics.{keyword_of}
use Rattle.rv_names.specs.Statements.{statement_of}
use Rattle.rv_names.specs.Line.{content_of, label_of, body_of, command_of, has_label, line_of}
use Rattle.rv_text.proofs.Cuts.{neither, none_of_stronger, none_of_both, some_passes, before_whole, before_at, after_at, after_none, trimmed_whole, trimmed_atom}

-- a byte that separates lines, or the parts of a line
abbrev pub is_mark : ℕ → Bool
is_mark b = is_blank b || (b == 35 || (b == 58 || b == 10))

pub no_blank : (text : List ℕ) → list_any is_mark text ≡ false → list_any is_blank text ≡ false
no_blank text h = none_of_stronger is_mark is_blank (λ b e. (neither (is_blank b) _ e).0) text h

no_hash : (text : List ℕ) → list_any is_mark text ≡ false → list_any (λ b. b == 35) text ≡ false
no_hash text h = none_of_stronger is_mark (λ b. b == 35) (λ b e. (neither (b == 35) _ ((neither (is_blank b) _ e).1)).0) text h

no_colon : (text : List ℕ) → list_any is_mark text ≡ false → list_any (λ b. b == 58) text ≡ false
no_colon text h = none_of_stronger is_mark (λ b. b == 58) (λ b e. grind (arith, nat_tests, e)) text h

pub no_line_feed : (text : List ℕ) → list_any is_mark text ≡ false → list_any (λ b. b == 10) text ≡ false
no_line_feed text h = none_of_stronger is_mark (λ b. b == 10) (λ b e. grind (arith, nat_tests, e)) text h

above_zero : (n : ℕ) → (suc n == 0) ≡ false
above_zero n = grind (arith, nat_tests)

-- the line is its content, has no label, and is its body
content_whole : (text : List ℕ) → list_any (λ b. b == 35) text ≡ false → trimmed text ≡ text → content_of text ≡ text
unfolding content_of
content_whole text h e = rw (before_whole (λ b. b == 35) text h) e

label_none : (text : List ℕ) → has_label text ≡ false → label_of text ≡ Ok None
unfolding label_of
label_none text h = rw h refl

body_whole : (text : List ℕ) → has_label text ≡ false → body_of text ≡ text
unfolding body_of
body_whole text h = rw h refl

command_found : (text name : List ℕ) (keyword : Keyword) → 0 < length text → before_first is_blank text ≡ name → keyword_of name ≡ Some keyword → command_of text ≡ Ok (Some keyword)
unfolding command_of
command_found [] name keyword some e f = absurd (omega arith)
command_found (b ∷ text) name keyword some e f = rw (above_zero (length text), e, f) refl

-- what a line without comment and label says
pub line_body : (section : Section) (text name rest : List ℕ) (keyword : Keyword) → 0 < length text → list_any (λ b. b == 35) text ≡ false → has_label text ≡ false → trimmed text ≡ text → before_first is_blank text ≡ name → trimmed (after_first is_blank text) ≡ rest → keyword_of name ≡ Some keyword → line_of section text ≡ (statement_of section keyword rest >>= λ said. Ok (record said { label = None }))
unfolding line_of
line_body section text name rest keyword some hash colon ends e r f =
    rw (content_whole text hash ends, body_whole text colon, command_found text name keyword some e f, label_none text colon, r) refl

-- of a mnemonic, one blank and its operands
pub line_with : (section : Section) (name rest : List ℕ) (keyword : Keyword) → 0 < length name → list_any is_mark name ≡ false → 0 < length rest → list_any is_mark rest ≡ false → keyword_of name ≡ Some keyword → line_of section (name ++ 32 ∷ rest) ≡ (statement_of section keyword rest >>= λ said. Ok (record said { label = None }))
line_with section [] rest keyword some a more b f = absurd (omega arith)
line_with section (x ∷ xs) rest keyword some a more b f =
    let name = x ∷ xs in
    let hash : list_any (λ b. b == 35) (name ++ 32 ∷ rest) ≡ false = none_of_both (λ b. b == 35) name (32 ∷ rest) (no_hash name a) (no_hash rest b) in
    let colon : list_any (λ b. b == 58) (name ++ 32 ∷ rest) ≡ false = none_of_both (λ b. b == 58) name (32 ∷ rest) (no_colon name a) (no_colon rest b) in
    let joined : name ++ 32 ∷ rest ≡ x ∷ (xs ++ 32 ∷ []) ++ rest = ap (λ l. x ∷ l) (sym (append_assoc xs (32 ∷ []) rest)) in
    let ends : trimmed (name ++ 32 ∷ rest) ≡ name ++ 32 ∷ rest = rw joined (trimmed_whole x (xs ++ 32 ∷ []) rest ((neither (is_blank x) _ (no_blank name a)).0) more (no_blank rest b)) in
    let r : trimmed (after_first is_blank (name ++ 32 ∷ rest)) ≡ rest = rw (after_at is_blank name 32 rest (no_blank name a) refl) (trimmed_atom rest (no_blank rest b)) in
    line_body section (name ++ 32 ∷ rest) name rest keyword (omega arith) hash colon ends (before_at is_blank name 32 rest (no_blank name a) refl) r f

-- of a mnemonic alone
pub line_alone : (section : Section) (name : List ℕ) (keyword : Keyword) → 0 < length name → list_any is_mark name ≡ false → keyword_of name ≡ Some keyword → line_of section name ≡ (statement_of section keyword [] >>= λ said. Ok (record said { label = None }))
line_alone section name keyword some a f =
    let r : trimmed (after_first is_blank name) ≡ [] = rw (after_none is_blank name (no_blank name a)) (trimmed_atom [] refl) in
    line_body section name name [] keyword some (no_hash name a) (no_colon name a) (trimmed_atom name (no_blank name a)) (before_whole is_blank name (no_blank name a)) r f

-- ---- operands

-- the operand before a comma
first_at : (a rest : List ℕ) → list_any is_comma a ≡ false → list_any is_blank a ≡ false → first_operand (a ++ 44 ∷ rest) ≡ Ok (a, rest)
first_at a rest h e = rw (some_passes is_comma a 44 rest refl, before_at is_comma a 44 rest h refl, after_at is_comma a 44 rest h refl, trimmed_atom a e) refl

last_at : (a : List ℕ) → list_any is_comma a ≡ false → list_any is_blank a ≡ false → last_operand a ≡ Ok a
last_at a h e = rw (h, trimmed_atom a e) refl

pub one_read : (a : List ℕ) → 0 < length a → list_any is_comma a ≡ false → list_any is_blank a ≡ false → one_operand a ≡ Ok a
unfolding one_operand
one_read [] some h e = absurd (omega arith)
one_read (x ∷ xs) some h e = rw (above_zero (length xs)) (last_at (x ∷ xs) h e)

pub two_read : (a b : List ℕ) → list_any is_comma a ≡ false → list_any is_blank a ≡ false → list_any is_comma b ≡ false → list_any is_blank b ≡ false → two_operands (a ++ 44 ∷ b) ≡ Ok (a, b)
unfolding two_operands
two_read a b h e i f = rw (first_at a b h e, last_at b i f) refl

pub three_read : (a b c : List ℕ) → list_any is_comma a ≡ false → list_any is_blank a ≡ false → list_any is_comma b ≡ false → list_any is_blank b ≡ false → list_any is_comma c ≡ false → list_any is_blank c ≡ false → three_operands (a ++ 44 ∷ (b ++ 44 ∷ c)) ≡ Ok (a, b, c)
unfolding three_operands
three_read a b c h e i f j g = rw (first_at a (b ++ 44 ∷ c) h e, first_at b c i f, last_at c j g) refl
