-- Two results with one text are equal.
use Rattle.std.proofs.Common.{◌≡◌, ◌≢◌, ℕ, ◌+◌, true, false, List, [], ◌∷◌, ◌++◌, map, drop, get_or, All, refl, sym, ap, ◌∙◌, append_assoc}
use Rattle.std.specs.Prelude.{codes, flat_map}
use Rattle.std.specs.Str.{bytes_eq}
use Rattle.std.specs.Fmt.{decimal}
use Rattle.std.specs.FinMap.{entries, same_entries_map}
use Rattle.std.specs.List.{enumerate_from}
use Rattle.std.proofs.lemmas.Grind.{flat_map-append}
use Rattle.std.proofs.lemmas.List.Elements.{All-head, All-tail}
use Rattle.hex.specs.Hex.{encode_lower}
use Rattle.rv_ledger.specs.Change.{ContentChange}
use Rattle.rv_ledger.specs.Key.{Storage}
use Rattle.rv_ledger.specs.declared.receipt.Receipt.{Receipt}
use Rattle.receipts.specs.Text.{bytes_text, word_text, change_fields, end_name, printed_line, write_line, store_line, call_lines, result_text}
use Rattle.receipts.specs.Ranges.{IsReceiptInRange, IsWriteInRange, IsEntryInRange, AreInRange}
use Rattle.receipts.proofs.Cuts.{Line, plain_line, plain_lines, text_of, lines_cut, both}
use Rattle.receipts.proofs.Fields as field

-- ---- the lines of a result

-- the line of a write
abbrev write_fields : ℕ → List ℕ × ContentChange → Line
write_fields n write = (codes "write", decimal n ∷ encode_lower write.0 ∷ change_fields write.1)

-- the line of a key of the storage
abbrev store_fields : List ℕ × List ℕ → Line
store_fields entry = (codes "store", encode_lower entry.0 ∷ bytes_text entry.1 ∷ [])

-- the line of a call
abbrev call_fields : ℕ → Receipt → Line
call_fields n r = (
  codes "call",
  decimal n ∷ end_name r.end ∷ codes "gas" ∷ decimal r.gas ∷ codes "pc" ∷ word_text r.pc ∷ codes "out" ∷ bytes_text r.out ∷ [],
)

-- the lines of a call
abbrev lines_of_call : ℕ → Receipt → List Line
lines_of_call n r = call_fields n r ∷ (codes "regs", map word_text r.regs) ∷ map (write_fields n) (entries r.writes)

-- the lines of calls from an index on
abbrev lines_of_calls : ℕ → List Receipt → List Line
lines_of_calls n [] = []
lines_of_calls n (r ∷ rs) = lines_of_call n r ++ lines_of_calls (n + 1) rs

-- the lines of the storage, and the end
abbrev last_lines : Storage → List Line
last_lines store = map store_fields (entries store) ++ ((codes "end", []) ∷ [])

-- all lines
abbrev result_lines : List Receipt → Storage → List Line
result_lines receipts store = lines_of_calls 0 receipts ++ last_lines store

-- ---- the text of the lines

-- the text of a line
abbrev line_text : Line → List ℕ
line_text line = printed_line line.0 line.1

-- the text of writes is that of their lines
writes_text : (n : ℕ) (es : List (List ℕ × ContentChange)) → flat_map (write_line n) es ≡ text_of (map (write_fields n) es)
writes_text n [] = refl
writes_text n (e ∷ es) = ap (λ (t : List ℕ). write_line n e ++ t) (writes_text n es)

-- the text of a storage is that of its lines
stored_text : (es : List (List ℕ × List ℕ)) → flat_map store_line es ≡ text_of (map store_fields es)
stored_text [] = refl
stored_text (e ∷ es) = ap (λ (t : List ℕ). store_line e ++ t) (stored_text es)

-- the text of a call is that of its lines
call_text : (n : ℕ) (r : Receipt) → call_lines (n, r) ≡ text_of (lines_of_call n r)
call_text n r =
    append_assoc (line_text (call_fields n r)) (line_text (codes "regs", map word_text r.regs)) (flat_map (write_line n) (entries r.writes))
    ∙ ap (λ (t : List ℕ). line_text (call_fields n r) ++ (line_text (codes "regs", map word_text r.regs) ++ t)) (writes_text n (entries r.writes))

-- so is that of calls
calls_text : (n : ℕ) (rs : List Receipt) → flat_map call_lines (enumerate_from n rs) ≡ text_of (lines_of_calls n rs)
calls_text n [] = refl
calls_text n (r ∷ rs) =
    ap (λ (t : List ℕ). call_lines (n, r) ++ t) (calls_text (n + 1) rs)
    ∙ ap (λ (t : List ℕ). t ++ text_of (lines_of_calls (n + 1) rs)) (call_text n r)
    ∙ sym (flat_map-append line_text (lines_of_call n r) (lines_of_calls (n + 1) rs))

-- so is that of the storage and the end
last_text : (store : Storage) → flat_map store_line (entries store) ++ printed_line (codes "end") [] ≡ text_of (last_lines store)
last_text store =
    ap (λ (t : List ℕ). t ++ printed_line (codes "end") []) (stored_text (entries store))
    ∙ sym (flat_map-append line_text (map store_fields (entries store)) ((codes "end", []) ∷ []))

-- so is the whole text
whole_text : (rs : List Receipt) (store : Storage) → result_text rs store ≡ text_of (result_lines rs store)
whole_text rs store =
    append_assoc (flat_map call_lines (enumerate_from 0 rs)) (flat_map store_line (entries store)) (printed_line (codes "end") [])
    ∙ ap (λ (t : List ℕ). t ++ (flat_map store_line (entries store) ++ printed_line (codes "end") [])) (calls_text 0 rs)
    ∙ ap (λ (t : List ℕ). text_of (lines_of_calls 0 rs) ++ t) (last_text store)
    ∙ sym (flat_map-append line_text (lines_of_calls 0 rs) (last_lines store))

-- ---- the fields have no space inside

-- lines of fields, one after the other
plain_append : (ls ms : List Line) → plain_lines ls ≡ true → plain_lines ms ≡ true → plain_lines (ls ++ ms) ≡ true
plain_append [] ms p q = q
plain_append (l ∷ ls) ms p q =
    let parts = both (plain_line l) (plain_lines ls) p in
    rw parts.0 (plain_append ls ms parts.1 q)

-- the fields of writes
writes_plain : (n : ℕ) (es : List (List ℕ × ContentChange)) → All IsWriteInRange es → plain_lines (map (write_fields n) es) ≡ true
writes_plain n [] h = refl
writes_plain n (e ∷ es) h =
    let first = All-head IsWriteInRange e es h in
    rw (field.decimal_plain n, field.hex_plain e.0 first.key, field.change_plain e.1 first.change) (writes_plain n es (All-tail IsWriteInRange e es h))

-- the fields of a storage
stored_plain : (es : List (List ℕ × List ℕ)) → All IsEntryInRange es → plain_lines (map store_fields es) ≡ true
stored_plain [] h = refl
stored_plain (e ∷ es) h =
    let first = All-head IsEntryInRange e es h in
    rw (field.hex_plain e.0 first.key, field.bytes_plain e.1 first.value) (stored_plain es (All-tail IsEntryInRange e es h))

-- the fields of a call
call_plain : (n : ℕ) (r : Receipt) → IsReceiptInRange r → plain_lines (lines_of_call n r) ≡ true
call_plain n r h =
    rw (field.decimal_plain n, field.name_plain r.end, field.decimal_plain r.gas, field.word_plain r.pc, field.bytes_plain r.out h.out, field.words_plain r.regs) (writes_plain n (entries r.writes) h.writes)

-- the fields of calls
calls_plain : (n : ℕ) (rs : List Receipt) → All IsReceiptInRange rs → plain_lines (lines_of_calls n rs) ≡ true
calls_plain n [] h = refl
calls_plain n (r ∷ rs) h =
    plain_append (lines_of_call n r) (lines_of_calls (n + 1) rs) (call_plain n r (All-head IsReceiptInRange r rs h)) (calls_plain (n + 1) rs (All-tail IsReceiptInRange r rs h))

-- all fields
whole_plain : (rs : List Receipt) (store : Storage) → AreInRange rs store → plain_lines (result_lines rs store) ≡ true
whole_plain rs store h =
    plain_append (lines_of_calls 0 rs) (last_lines store) (calls_plain 0 rs h.each_receipt)
    (plain_append (map store_fields (entries store)) ((codes "end", []) ∷ []) (stored_plain (entries store) h.each_entry) refl)

-- ---- the lines determine the result

-- the field at a place
abbrev field_at : ℕ → Line → List ℕ
field_at n line = get_or line.1 n []

-- the word of the first line
abbrev first_word : List Line → List ℕ
first_word [] = []
first_word (l ∷ ls) = l.0

-- the parts of equal lists
cons_parts : {X : Type 0} (x y : X) (xs ys : List X) → x ∷ xs ≡ y ∷ ys → (x ≡ y) × (xs ≡ ys)
cons_parts x y xs ys e = (cc, cc)

-- a line determines its write
write_tells : (n : ℕ) (e f : List ℕ × ContentChange) → IsWriteInRange e → IsWriteInRange f → write_fields n e ≡ write_fields n f → e ≡ f
write_tells n (k, v) (l, w) h i same =
    let keys : encode_lower k ≡ encode_lower l = ap (field_at 1) same in
    let changes : change_fields v ≡ change_fields w = ap (λ (line : Line). drop 2 line.1) same in
    let one = field.hex_tells k l h.key i.key keys in
    let two = field.change_tells v w h.change i.change changes in
    cc (one, two)

-- lines determine the writes, up to a line of another word
writes_tell : (n : ℕ) (es fs : List (List ℕ × ContentChange)) (t u : List Line) → All IsWriteInRange es → All IsWriteInRange fs → first_word t ≢ codes "write" → first_word u ≢ codes "write" → map (write_fields n) es ++ t ≡ map (write_fields n) fs ++ u → (es ≡ fs) × (t ≡ u)
writes_tell n [] [] t u h i p q same = (refl, same)
writes_tell n [] (f ∷ fs) t u h i p q same = absurd (p (ap first_word same))
writes_tell n (e ∷ es) [] t u h i p q same = absurd (q (ap first_word (sym same)))
writes_tell n (e ∷ es) (f ∷ fs) t u h i p q same =
    let parts = cons_parts (write_fields n e) (write_fields n f) (map (write_fields n) es ++ t) (map (write_fields n) fs ++ u) same in
    let first = write_tells n e f (All-head IsWriteInRange e es h) (All-head IsWriteInRange f fs i) parts.0 in
    let rest = writes_tell n es fs t u (All-tail IsWriteInRange e es h) (All-tail IsWriteInRange f fs i) p q parts.1 in
    let both_lists : e ∷ es ≡ f ∷ fs = cc (first, rest.0) in
    (both_lists, rest.1)

-- a line determines its key and value
store_tells : (e f : List ℕ × List ℕ) → IsEntryInRange e → IsEntryInRange f → store_fields e ≡ store_fields f → e ≡ f
store_tells (k, v) (l, w) h i same =
    let keys : encode_lower k ≡ encode_lower l = ap (field_at 0) same in
    let values : bytes_text v ≡ bytes_text w = ap (field_at 1) same in
    let one = field.hex_tells k l h.key i.key keys in
    let two = field.bytes_tell v w h.value i.value values in
    cc (one, two)

-- lines determine the entries, up to a line of another word
stored_tell : (es fs : List (List ℕ × List ℕ)) (t : List Line) → All IsEntryInRange es → All IsEntryInRange fs → first_word t ≢ codes "store" → map store_fields es ++ t ≡ map store_fields fs ++ t → es ≡ fs
stored_tell [] [] t h i p same = refl
stored_tell [] (f ∷ fs) t h i p same = absurd (p (ap first_word same))
stored_tell (e ∷ es) [] t h i p same = absurd (p (ap first_word (sym same)))
stored_tell (e ∷ es) (f ∷ fs) t h i p same =
    let parts = cons_parts (store_fields e) (store_fields f) (map store_fields es ++ t) (map store_fields fs ++ t) same in
    let first = store_tells e f (All-head IsEntryInRange e es h) (All-head IsEntryInRange f fs i) parts.0 in
    let rest = stored_tell es fs t (All-tail IsEntryInRange e es h) (All-tail IsEntryInRange f fs i) p parts.1 in
    cc (first, rest)

-- words that a test finds different
apart : (v w : List ℕ) → bytes_eq v w ≡ false → bytes_eq w w ≡ true → v ≢ w
apart v w other same e = let tests = ap (λ (word : List ℕ). bytes_eq word w) e in cc

-- no write comes after the writes of a call
call_not_write : (n : ℕ) (rs : List Receipt) (t : List Line) → first_word t ≢ codes "write" → first_word (lines_of_calls n rs ++ t) ≢ codes "write"
call_not_write n [] t p = p
call_not_write n (r ∷ rs) t p = apart (codes "call") (codes "write") refl refl

-- the lines of a call determine its receipt
call_tells : (n : ℕ) (r s : Receipt) → IsReceiptInRange r → IsReceiptInRange s → call_fields n r ≡ call_fields n s → map word_text r.regs ≡ map word_text s.regs → entries r.writes ≡ entries s.writes → r ≡ s
call_tells n r s h i call regs writes =
    let names : end_name r.end ≡ end_name s.end = ap (field_at 1) call in
    let gases : decimal r.gas ≡ decimal s.gas = ap (field_at 3) call in
    let places : word_text r.pc ≡ word_text s.pc = ap (field_at 5) call in
    let outs : bytes_text r.out ≡ bytes_text s.out = ap (field_at 7) call in
    let end_is = field.name_tells r.end s.end names in
    let gas_is = field.gas_tells r.gas s.gas h.gas i.gas gases in
    let pc_is = field.word_tells r.pc s.pc h.pc i.pc places in
    let out_is = field.bytes_tell r.out s.out h.out i.out outs in
    let regs_is = field.words_tell r.regs s.regs h.regs i.regs regs in
    let writes_is = same_entries_map r.writes s.writes writes in
    λ j. record { end = end_is j; gas = gas_is j; pc = pc_is j; out = out_is j; regs = regs_is j; writes = writes_is j }

-- the lines of calls determine their receipts, up to a line of another word
calls_tell : (n : ℕ) (rs ss : List Receipt) (t u : List Line) → All IsReceiptInRange rs → All IsReceiptInRange ss → first_word t ≢ codes "write" → first_word u ≢ codes "write" → first_word t ≢ codes "call" → first_word u ≢ codes "call" → lines_of_calls n rs ++ t ≡ lines_of_calls n ss ++ u → (rs ≡ ss) × (t ≡ u)
calls_tell n [] [] t u h i p q v w same = (refl, same)
calls_tell n [] (s ∷ ss) t u h i p q v w same = absurd (v (ap first_word same))
calls_tell n (r ∷ rs) [] t u h i p q v w same = absurd (w (ap first_word (sym same)))
calls_tell n (r ∷ rs) (s ∷ ss) t u h i p q v w same =
    let mine = All-head IsReceiptInRange r rs h in
    let other = All-head IsReceiptInRange s ss i in
    let mine_writes = map (write_fields n) (entries r.writes) ++ lines_of_calls (n + 1) rs in
    let other_writes = map (write_fields n) (entries s.writes) ++ lines_of_calls (n + 1) ss in
    let parts = cons_parts (call_fields n r) (call_fields n s) ((codes "regs", map word_text r.regs) ∷ mine_writes ++ t) ((codes "regs", map word_text s.regs) ∷ other_writes ++ u) same in
    let more = cons_parts (codes "regs", map word_text r.regs) (codes "regs", map word_text s.regs) (mine_writes ++ t) (other_writes ++ u) parts.1 in
    let regs : map word_text r.regs ≡ map word_text s.regs = ap (λ (line : Line). line.1) more.0 in
    let parted : map (write_fields n) (entries r.writes) ++ (lines_of_calls (n + 1) rs ++ t) ≡ map (write_fields n) (entries s.writes) ++ (lines_of_calls (n + 1) ss ++ u) =
    sym (append_assoc (map (write_fields n) (entries r.writes)) (lines_of_calls (n + 1) rs) t)
    ∙ more.1 ∙ append_assoc (map (write_fields n) (entries s.writes)) (lines_of_calls (n + 1) ss) u in
    let written = writes_tell n (entries r.writes) (entries s.writes) (lines_of_calls (n + 1) rs ++ t) (lines_of_calls (n + 1) ss ++ u) mine.writes other.writes (call_not_write (n + 1) rs t p) (call_not_write (n + 1) ss u q) parted in
    let rest = calls_tell (n + 1) rs ss t u (All-tail IsReceiptInRange r rs h) (All-tail IsReceiptInRange s ss i) p q v w written.1 in
    let first = call_tells n r s mine other parts.0 regs written.0 in
    let both_lists : r ∷ rs ≡ s ∷ ss = cc (first, rest.0) in
    (both_lists, rest.1)

-- the first word after the calls
last_first : (store : Storage) (word : List ℕ) → codes "store" ≢ word → codes "end" ≢ word → first_word (last_lines store) ≢ word
last_first store word p q = by_entries (entries store)
  where
    by_entries : (es : List (List ℕ × List ℕ)) → first_word (map store_fields es ++ ((codes "end", []) ∷ [])) ≢ word
    by_entries [] = q
    by_entries (e ∷ es) = p

-- two results with one text are equal
pub one_text : (r s : List Receipt) (a b : Storage) → AreInRange r a → AreInRange s b → result_text r a ≡ result_text s b → (r ≡ s) × (a ≡ b)
one_text r s a b h i e =
    let texts : text_of (result_lines r a) ≡ text_of (result_lines s b) = sym (whole_text r a) ∙ e ∙ whole_text s b in
    let lines = lines_cut (result_lines r a) (result_lines s b) (whole_plain r a h) (whole_plain s b i) texts in
    let calls = calls_tell 0 r s (last_lines a) (last_lines b) h.each_receipt i.each_receipt
    (last_first a (codes "write") (apart (codes "store") (codes "write") refl refl) (apart (codes "end") (codes "write") refl refl)) (last_first b (codes "write") (apart (codes "store") (codes "write") refl refl) (apart (codes "end") (codes "write") refl refl))
    (last_first a (codes "call") (apart (codes "store") (codes "call") refl refl) (apart (codes "end") (codes "call") refl refl)) (last_first b (codes "call") (apart (codes "store") (codes "call") refl refl) (apart (codes "end") (codes "call") refl refl)) lines in
    let stored = stored_tell (entries a) (entries b) ((codes "end", []) ∷ []) h.each_entry i.each_entry (apart (codes "end") (codes "store") refl refl) calls.1 in
    (calls.0, same_entries_map a b stored)
