-- The sizes of the sections.
use Rattle.std.proofs.Common.{◌≡◌, ◌≢◌, refl, ◌≤◌, ◌+◌, ◌*◌, ℕ, List, [], ◌∷◌, ◌++◌, length, length-append, map, Option, Some, None, Result, Ok, Err, IfOk, arith, lit≤, false, nat_lt, ◌||◌}
use Rattle.std.specs.Prelude.{pos, ◌-ℤ◌}
use Rattle.std.specs.Option.{ok_or}
use Rattle.std.specs.Result.{result_map_both}
use Rattle.std.proofs.lemmas.Bool.Decides.{nat_tests}
use Rattle.std.proofs.lemmas.Result.{IfOk-at_ok}
use Rattle.rv_names.specs.Operands.{branch_offset_of, jump_offset_of}
use Rattle.rv_names.specs.declared.lines.Statement.{Statement}
use Rattle.rv_names.specs.declared.lines.Statement.TheVariants.{BranchTo, JumpTo, AddressOf}
use Rattle.rv_program.specs.Sections.{sections_of}
use Rattle.rv_text.specs.declared.fault.AsmCause.{AsmCause}
use Rattle.rv_text.specs.declared.fault.AsmCause.TheVariants.{LabelRange}
use Rattle.rv_text.specs.declared.fault.AsmError.{AsmError}
use Rattle.rv_text.specs.Assembly.{◌>>=◌, Item, Labels, on_line, target_place, text_bytes_of, words_at, words_of_item, item_words}
use Rattle.rv_text.specs.Fits.{bytes_of_items}
use Rattle.rv_text.specs.Shown.{shown_item}
use Rattle.rv_text.specs.declared.item.Item as code

-- the words take at most this many bytes
abbrev TakesAtMost : {E : Type 0} → ℕ → Result (List ℕ) E → Type 0
TakesAtMost count r = IfOk r (λ words. 4 * length words ≤ count)

-- if each step after a value takes at most this many bytes, the two steps together take at most as many
onward : {A : Type 0} (count : ℕ) (r : Result A AsmCause) (f : A → Result (List ℕ) AsmCause) → ((x : A) → TakesAtMost count (f x)) → TakesAtMost count (r >>= f)
onward count (Ok x) f h = h x
onward count (Err cause) f h = tt

-- the words of a statement are no more than its bytes
statement_bytes : (labels : Labels) (address : ℕ) (target : Option (List ℕ)) (statement : Statement) → TakesAtMost (text_bytes_of statement) (words_at labels address target statement)
statement_bytes labels address target (BranchTo condition left right) =
    onward 4 (target_place labels target) _ (λ place. onward 4 (ok_or (branch_offset_of (pos place -ℤ pos address)) LabelRange) _ (λ offset. lit≤ tt))
statement_bytes labels address target (JumpTo rd) =
    onward 4 (target_place labels target) _ (λ place. onward 4 (ok_or (jump_offset_of (pos place -ℤ pos address)) LabelRange) _ (λ offset. lit≤ tt))
statement_bytes labels address target (AddressOf rd) = onward 8 (target_place labels target) _ (λ place. lit≤ tt)
statement_bytes labels address target _ = lit≤ tt

joined_bytes : (n count more : ℕ) (r : Result (List ℕ) AsmCause) (s : Result (List ℕ) AsmError) → TakesAtMost count r → TakesAtMost more s
    → TakesAtMost (count + more) (on_line n r (λ words. result_map_both (λ rest. words ++ rest) (λ fault. fault) s))
joined_bytes n count more (Ok words) (Ok rest) a b = omega (arith, length-append words rest)
joined_bytes n count more (Ok words) (Err fault) a b = tt
joined_bytes n count more (Err cause) s a b = tt

-- the words of some statements are no more than their bytes
words_bytes : (labels : Labels) (items : List Item) → TakesAtMost (bytes_of_items items) (item_words labels items)
unfolding item_words words_of_item
words_bytes labels [] = lit≤ tt
words_bytes labels (item ∷ items) =
    joined_bytes item.line (text_bytes_of item.statement) (bytes_of_items items) _ _ (statement_bytes labels item.address item.target item.statement) (words_bytes labels items)

-- one more statement
pub one_more : (items : List code.Item) (item : code.Item) (size count : ℕ) → size ≡ bytes_of_items (map shown_item items) → count ≡ text_bytes_of item.statement
    → size + count ≡ bytes_of_items (map shown_item (items ++ item ∷ []))
one_more [] item size count is more = omega arith
one_more (x ∷ items) item size count is more = omega (arith, one_more items item (bytes_of_items (map shown_item items)) count refl more)

some_or_none : {A : Type 0} (x : A) → Some x ≢ None
some_or_none x h = cc

within : (text bytes : List ℕ) → 4 * length text ≤ 65536 → length bytes ≤ 61440 → sections_of text bytes ≢ None
within text bytes a b =
    let e : (nat_lt 65536 (4 * length text) || nat_lt 61440 (length bytes)) ≡ false = grind (arith, nat_tests) in
    rw e (some_or_none _)

-- the sections have their sizes
pub sized : (labels : Labels) (items : List Item) (text bytes : List ℕ) (size : ℕ) → item_words labels items ≡ Ok text → size ≡ bytes_of_items items → size ≤ 65536 → length bytes ≤ 61440 → sections_of text bytes ≢ None
sized labels items text bytes size e is a b =
    within text bytes (omega (arith, IfOk-at_ok (λ words. 4 * length words ≤ bytes_of_items items) e (words_bytes labels items))) b
