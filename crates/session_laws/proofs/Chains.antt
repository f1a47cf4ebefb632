-- The `store` lines of a result are read as its storage.
use Rattle.std.proofs.Common.{◌≡◌, ◌≤◌, ◌<◌, ◌+◌, ◌==◌, ℕ, Bool, true, false, T, List, [], ◌∷◌, ◌++◌, length, map, Option, Some, None, Ok, All, nat_lt, length-append, refl, ap, ◌∙◌, arith}
use Rattle.std.specs.Prelude.{codes, flat_map}
use Rattle.std.specs.FinMap.{entries, entries_sorted, insert, empty}
use Rattle.std.specs.FinMap.Entries.{below_all, is_sorted}
use Rattle.std.specs.Ordering.{is_lt}
use Rattle.std.proofs.Math.Facts.{and_yes}
use Rattle.std.proofs.lemmas.Bool.Decides.{nat_tests}
use Rattle.std.proofs.lemmas.List.Elements.{All-cons, All-head, All-tail}
use Rattle.hex.specs.Hex.{encode_lower}
use Rattle.rv_ledger.specs.Key.{Storage, key_cmp}
use Rattle.rv_ledger.specs.Rules.{longest_value}
use Rattle.rv_ledger.specs.declared.rules.Rules.{Rules}
use Rattle.rv_ledger.specs.declared.rules.Rules.TheVariants.{One, Two, Three}
use Rattle.receipts.specs.Text.{bytes_text, store_line}
use Rattle.block_file.specs.declared.fault.Cause.TheVariants.{BadLine}
use Rattle.block_file.specs.Line.{◌>>=◌, cut, read_parts}
use Rattle.block_file.specs.Block.{is_above, stored_of, with_line, with_fields, parts_after, parsed_block}
use Rattle.block_file.proofs.Lines.{goes_on}
use Rattle.session_laws.specs.Chained.{AreShort, IsEntry, IsStorageReadBack, block_with, store_lines}
use Rattle.session_laws.proofs.Sorted.{Entry, stored, stored_again}
use Rattle.session_laws.proofs.LineKinds.{state}
use Rattle.session_laws.proofs.Lines.{content, line_cut, fields_cut, key_read, value_read, key_some, value_some}

-- ---- the lines of a text

pub lines_of : {rules : Rules} (es : List Entry) → All (IsEntry rules) es → cut 10 (flat_map store_line es) ≡ map content es ++ [] ∷ []
lines_of [] h = refl
lines_of {rules} (e ∷ es) h =
    line_cut e (flat_map store_line es) (All-head (IsEntry rules) e es h)
    ∙ ap (λ (t : List (List ℕ)). content e ∷ t) (lines_of es (All-tail (IsEntry rules) e es h))

-- ---- what is read

value_fits : (limit n : ℕ) → n ≤ limit → nat_lt limit n ≡ false
value_fits limit n h = grind (arith, nat_tests)

entry_read : (rules : Rules) (last : Option (List ℕ)) (e : Entry) → IsEntry rules e → is_above last e.0 ≡ true → stored_of rules last (encode_lower e.0) (bytes_text e.1) ≡ Ok e
entry_read rules last e h above = rw (key_read e h, value_read e.1 h.value, above, value_fits (longest_value rules) (length e.1) h.value_length) refl

fields_read : (rules : Rules) (programs : List (List ℕ)) (m : Storage) (last : Option (List ℕ)) (key value : List ℕ) (e : Entry) → (length key == 0) ≡ false → (length value == 0) ≡ false → stored_of rules last key value ≡ Ok e
    → with_fields (state rules programs m [] last) (codes "store" ∷ key ∷ value ∷ []) ≡ Ok (state rules programs (insert m e.0 e.1) [] (Some e.0))
fields_read rules programs m last key value e k v read =
    rw (k, v) (ap (λ r. r >>= λ entry. Ok (state rules programs (insert m entry.0 entry.1) [] (Some entry.0))) read)

line_read : (rules : Rules) (programs : List (List ℕ)) (m : Storage) (last : Option (List ℕ)) (e : Entry) → IsEntry rules e → is_above last e.0 ≡ true → with_line (state rules programs m [] last) (content e) ≡ Ok (state rules programs (insert m e.0 e.1) [] (Some e.0))
line_read rules programs m last e h above =
    ap (with_fields (state rules programs m [] last)) (fields_cut e h)
    ∙ fields_read rules programs m last (encode_lower e.0) (bytes_text e.1) e (key_some e h) (value_some e.1) (entry_read rules last e h above)

-- the first key is above the last one
abbrev GoesOn : Option (List ℕ) → List Entry → Type 0
GoesOn last [] = Unit {0}
GoesOn last (e ∷ es) = is_above last e.0 ≡ true

is_true : (b : Bool) → T b → b ≡ true
is_true true h = refl
is_true false h = absurd h

next : (e : Entry) (es : List Entry) → T (is_sorted key_cmp (e ∷ es)) → GoesOn (Some e.0) es
next e [] h = tt
next e (f ∷ es) h =
    let below = (and_yes (below_all key_cmp e.0 (f ∷ es)) (is_sorted key_cmp (f ∷ es)) h).0 in
    is_true (is_lt (key_cmp e.0 f.0)) (and_yes (is_lt (key_cmp e.0 f.0)) (below_all key_cmp e.0 es) below).0

abbrev pub last_of : Option (List ℕ) → List Entry → Option (List ℕ)
last_of last [] = last
last_of last (e ∷ es) = last_of (Some e.0) es

pub lines_read : (rules : Rules) (programs : List (List ℕ)) (n : ℕ) (m : Storage) (last : Option (List ℕ)) (es : List Entry) → All (IsEntry rules) es → T (is_sorted key_cmp es) → GoesOn last es
    → read_parts with_line BadLine n (state rules programs m [] last) (map content es ++ [] ∷ []) ≡ Ok (state rules programs (stored m es) [] (last_of last es))
lines_read rules programs n m last [] h sorted above = refl
lines_read rules programs n m last (e ∷ es) h sorted above =
    goes_on with_line BadLine n (state rules programs m [] last) (state rules programs (insert m e.0 e.1) [] (Some e.0)) (content e) (map content es ++ [] ∷ []) (omega (arith, length-append (map content es) ([] ∷ []))) (line_read rules programs m last e (All-head (IsEntry rules) e es h) above)
    ∙ lines_read rules programs (n + 1) (insert m e.0 e.1) (Some e.0) es (All-tail (IsEntry rules) e es h) (and_yes (below_all key_cmp e.0 es) (is_sorted key_cmp es) sorted).1 (next e es sorted)

some_parts : (es : List Entry) → (length (map content es ++ [] ∷ []) == 0) ≡ false
some_parts es = some (length (map content es ++ [] ∷ [])) (omega (arith, length-append (map content es) ([] ∷ [])))
  where
    some : (n : ℕ) → 0 < n → (n == 0) ≡ false
    some n h = grind (arith, nat_tests)

pub starts : (es : List Entry) → GoesOn None es
starts [] = tt
starts (e ∷ es) = refl

-- after any beginning, the lines are read as that storage
read_behind : (n : ℕ) (rules : Rules) (store : Storage) → All (IsEntry rules) (entries store) → parts_after n rules (cut 10 (store_lines store)) ≡ Ok (block_with rules store)
read_behind n rules store h =
    rw (lines_of (entries store) h, some_parts (entries store), lines_read rules [] (n + 1) empty None (entries store) h (entries_sorted store) (starts (entries store)), stored_again store) refl

abbrev Behind : Rules → Storage → List ℕ → Type 0
Behind rules store beginning = parsed_block (beginning ++ store_lines store) ≡ Ok (block_with rules store)

pub read_back : (rules : Rules) (store : Storage) → All (IsEntry rules) (entries store) → IsStorageReadBack rules store
read_back One store h =
    All-cons (Behind One store) (codes "rvblock 1\n") (codes "rvblock 2\ngas 1\n" ∷ []) (read_behind 1 One store h)
    (All-cons (Behind One store) (codes "rvblock 2\ngas 1\n") [] (read_behind 2 One store h) (λ k d b. absurd (omega arith)))
read_back Two store h = All-cons (Behind Two store) (codes "rvblock 2\ngas 2\n") [] (read_behind 2 Two store h) (λ k d b. absurd (omega arith))
read_back Three store h = All-cons (Behind Three store) (codes "rvblock 2\ngas 3\n") [] (read_behind 2 Three store h) (λ k d b. absurd (omega arith))

-- the entries that a program holds, under rules that allow them
pub allowed : (rules : Rules) (store : Storage) → All (IsEntry Two) (entries store) → AreShort rules store → All (IsEntry rules) (entries store)
allowed rules store h short = λ k d b.
    let e = h k d b in
    record { key = e.key; key_length = e.key_length; value = e.value; value_length = short k d b }
