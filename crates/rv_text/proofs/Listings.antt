-- The texts of words, each on a line of its own, are the source of these words.
use Rattle.std.proofs.Common.{◌≡◌, ℕ, ◌+◌, ◌*◌, ◌≤◌, ◌==◌, false, nat_lt, List, [], ◌∷◌, ◌++◌, length, map, All, Option, None, Result, Ok, Err, refl, sym, ap, ◌∙◌, append_assoc, append-nil, arith}
use Rattle.std.specs.Prelude.{codes}
use Rattle.std.specs.List.{list_any, slice_split}
use Rattle.std.specs.Result.{result_map_both}
use Rattle.std.proofs.lemmas.Bool.Decides.{nat_tests}
use Rattle.std.proofs.lemmas.List.Elements.{All-cons, All-head, All-tail}
use Rattle.std.proofs.lemmas.List.Splits.{slice_split_at, slice_split_none}
use Rattle.rv_names.specs.Operands.{trimmed}
use Rattle.rv_names.specs.Line.{line_of, content_of, label_of, body_of, command_of}
use Rattle.rv_names.specs.Text.{disassembly}
use Rattle.rv_names.specs.declared.lines.LineCause.{LineCause}
use Rattle.rv_names.specs.declared.lines.Line.{Line}
use Rattle.rv_names.specs.declared.lines.Section.TheVariants.{Text}
use Rattle.rv_names.specs.declared.lines.Statement.{Statement}
use Rattle.rv_names.specs.declared.lines.Statement.TheVariants.{Plain, WordValue}
use Rattle.rv_program.specs.Sections.{Sections}
use Rattle.rv_text.specs.declared.fault.AsmCause.{AsmCause}
use Rattle.rv_text.specs.declared.fault.AsmError.{AsmError}
use Rattle.rv_text.specs.Assembly.{Item, Labels, SourceLayout, empty_layout, on_line, next_place, with_label, with_text, with_statement, with_source_line, layout_from, words_of_item, item_words, program_from, assembled}
use Rattle.rv_text.specs.Back.{IsWord, IsLineOf, IsReadBack, IsAssembledBack, listing}
use Rattle.rv_text.proofs.Cuts.{neither}
use Rattle.rv_text.proofs.Instructions.{disassembly_is_one_line}

-- ---- the lines of a listing

lacks : (text : List ℕ) → list_any (λ b. b == 10) text ≡ false → All (λ b. (b == 10) ≡ false) text
lacks [] h = λ k d b. absurd (omega arith)
lacks (b ∷ text) h =
    let parts = neither (b == 10) _ h in
    All-cons (λ x. (x == 10) ≡ false) b text parts.0 (lacks text parts.1)

lines_of : (words : List ℕ) → slice_split (λ b. b == 10) (listing words) ≡ map disassembly words ++ [] ∷ []
lines_of [] = refl
lines_of (word ∷ words) =
    ap (slice_split (λ b. b == 10)) (append_assoc (disassembly word) (codes "\n") (listing words))
    ∙ slice_split_at (λ b. b == 10) (disassembly word) 10 (listing words) (lacks (disassembly word) (disassembly_is_one_line word)) refl
    ∙ ap (λ (t : List (List ℕ)). disassembly word ∷ t) (lines_of words)

-- ---- one word more

abbrev pushed : {E : Type 0} → ℕ → Result (List ℕ) E → Result (List ℕ) E
pushed word r = result_map_both (λ words. words ++ word ∷ []) (λ fault. fault) r

through : (n word : ℕ) (a : Result (List ℕ) AsmCause) (b : Result (List ℕ) AsmError)
    → on_line n a (λ words. result_map_both (λ more. words ++ more) (λ fault. fault) (pushed word b)) ≡ pushed word (on_line n a (λ words. result_map_both (λ more. words ++ more) (λ fault. fault) b))
through n word (Ok front) (Ok words) = ap (λ (ws : List ℕ). Ok ws) (sym (append_assoc front words (word ∷ [])))
through n word (Ok front) (Err fault) = refl
through n word (Err cause) b = refl

one_more : (labels : Labels) (items : List Item) (item : Item) (word : ℕ) → words_of_item labels item ≡ Ok (word ∷ []) → item_words labels (items ++ item ∷ []) ≡ pushed word (item_words labels items)
unfolding item_words
one_more labels [] item word e = rw e refl
one_more labels (x ∷ items) item word e =
    ap (λ r. on_line x.line (words_of_item labels x) (λ words. result_map_both (λ more. words ++ more) (λ fault. fault) r)) (one_more labels items item word e)
    ∙ through x.line word (words_of_item labels x) (item_words labels items)

-- ---- what the lines lay down

-- the layout after lines of words and no other lines
abbrev state : List Item → ℕ → SourceLayout
state items size = record { section = Text; items = items; text_size = size; data_bytes = []; labels = [] }

abbrev only_words : List ℕ → Result Sections AsmError
only_words words = Ok (record { text = words; data_bytes = [] })

-- what the lines from n on give after these statements
abbrev rest_gives : ℕ → List (List ℕ) → List Item → ℕ → Result Sections AsmError
rest_gives n texts items size = program_from (layout_from n texts (state items size))

fits : (size : ℕ) → size + 4 ≤ 65536 → nat_lt 65536 (size + 4) ≡ false
fits size h = grind (arith, nat_tests)

module _ (n size word : ℕ) (items : List Item) (front : List ℕ) (texts : List (List ℕ)) (wanted : Result Sections AsmError)
    (before : item_words [] items ≡ Ok front) (room : size + 4 ≤ 65536)
    (then : (item : Item) → item_words [] (items ++ item ∷ []) ≡ Ok (front ++ word ∷ []) → rest_gives (n + 1) texts (items ++ item ∷ []) (size + 4) ≡ wanted) where
  laid_item : (item : Item) → words_of_item [] item ≡ Ok (word ∷ []) → rest_gives (n + 1) texts (items ++ item ∷ []) (size + 4) ≡ wanted
  laid_item item e = then item (one_more [] items item word e ∙ ap (pushed word) before)

  stated : (label target : Option (List ℕ)) (statement : Statement) → IsWord statement word
      → program_from (on_line n (with_statement n (record { label = label; statement = statement; target = target }) statement (state items size)) (λ l. layout_from (n + 1) texts l)) ≡ wanted
  unfolding with_text words_of_item
  stated label target (Plain instr) e =
      rw (fits size room) (laid_item (record { line = n; address = next_place Text (state items size); statement = Plain instr; target = target }) (ap (λ w. Ok (w ∷ [])) e))
  stated label target (WordValue value) e =
      rw (fits size room) (laid_item (record { line = n; address = next_place Text (state items size); statement = WordValue value; target = target }) (ap (λ w. Ok (w ∷ [])) e))
  stated label target _ h = absurd h

  line_read : (text : List ℕ) (r : Result (Line (List ℕ)) LineCause) → line_of Text text ≡ r → IsLineOf word r → rest_gives n (text ∷ texts) items size ≡ wanted
  unfolding layout_from with_source_line with_label
  line_read text (Ok line) e h = rw (e, h.0) (stated None line.target line.statement h.1)
  line_read text (Err cause) e h = absurd h

empty_line : (n : ℕ) (items : List Item) (size : ℕ) → rest_gives n ([] ∷ []) items size ≡ program_from (Ok (state items size))
unfolding layout_from with_source_line with_label line_of content_of label_of body_of command_of trimmed
empty_line n items size = refl

lines_read : (n size : ℕ) (items : List Item) (front words : List ℕ) → item_words [] items ≡ Ok front → All IsReadBack words → size + 4 * length words ≤ 65536
    → rest_gives n (map disassembly words ++ [] ∷ []) items size ≡ only_words (front ++ words)
lines_read n size items front [] before h room =
    empty_line n items size
    ∙ ap (λ r. result_map_both (λ text. (record { text = text; data_bytes = [] })) (λ fault. fault) r) before
    ∙ ap only_words (sym (append-nil front))
lines_read n size items front (word ∷ words) before h room =
    line_read n size word items front (map disassembly words ++ [] ∷ []) (only_words (front ++ word ∷ words)) before (omega arith)
    (λ item more. lines_read (n + 1) (size + 4) (items ++ item ∷ []) (front ++ word ∷ []) words more (All-tail IsReadBack word words h) (omega arith)
    ∙ ap only_words (append_assoc front (word ∷ []) words))
    (disassembly word) (line_of Text (disassembly word)) refl (All-head IsReadBack word words h)

no_words : item_words [] [] ≡ Ok []
unfolding item_words
no_words = refl

-- words that fit in text, each of which is read back
pub assembled_listing : (words : List ℕ) → All IsReadBack words → 4 * length words ≤ 65536 → IsAssembledBack words
unfolding assembled
assembled_listing words h room =
    ap (λ texts. program_from (layout_from 1 texts empty_layout)) (lines_of words)
    ∙ lines_read 1 0 [] [] words no_words h (omega arith)

-- the text of a word, which is read back, is the source of that word
pub assembled_disassembly : (word : ℕ) → IsReadBack word → assembled (disassembly word) ≡ only_words (word ∷ [])
unfolding assembled layout_from
assembled_disassembly word back =
    ap (λ texts. program_from (layout_from 1 texts empty_layout)) (slice_split_none (λ b. b == 10) (disassembly word) (lacks (disassembly word) (disassembly_is_one_line word)))
    ∙ line_read 1 0 word [] [] [] (only_words (word ∷ [])) no_words (omega arith)
    (λ item more. ap (λ r. result_map_both (λ text. (record { text = text; data_bytes = [] })) (λ fault. fault) r) more)
    (disassembly word) (line_of Text (disassembly word)) refl back
